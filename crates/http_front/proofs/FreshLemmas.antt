-- A flight of a new number is fresh.
use Rattle.std.proofs.Common.{◌≡◌, ℕ, ◌+◌, ◌<◌, ◌==◌, ◌&&◌, ◌/◌, Bool, true, false, List, [], ◌∷◌, refl, sym, ap, subst, ◌∙◌, arith}
use Rattle.std.specs.Prelude.{Option, Some, None, Result}
use Rattle.std.proofs.lemmas.Bool.Decides.{nat_tests}
use Rattle.push_model.specs.declared.entry.Entry.{Entry}
use Rattle.push_model.specs.declared.entry.NoMemory.{NoMemory}
use Rattle.push_model.specs.declared.ids.Op.{Op}
use Rattle.push_model.specs.declared.ids.Token.{Token}
use Rattle.push_model.specs.declared.parts.FlightRow.{FlightRow}
use Rattle.push_model.specs.declared.step.Step.{Step}
use Rattle.push_model.specs.declared.step.Step.TheVariants.{Begin}
use Rattle.push_model.specs.declared.reply.Reply.{Reply}
use Rattle.push_model.specs.AskValue.{AskValue}
use Rattle.push_model.specs.Frames.{NoBegin, flight_at, is_begin_of}
use Rattle.push_model.specs.DeskViews.{DeskView, own_entries}
use Rattle.push_outside.specs.Counts.{Rose}
use Rattle.push_outside.specs.Moments.{IsMomentOf}
use Rattle.endpoint_router.specs.declared.answer.Answer.{Answer}
use Rattle.endpoint_router.specs.Flights.{IsFresh}
use Rattle.endpoint_router.specs.Routes.{IsRoute}
use Rattle.endpoint_router.specs.Shards.{shard_of}
use Rattle.endpoint_router.specs.Went.{Went}
use Rattle.http_front.specs.Comings.{Routes}
use Rattle.http_front.specs.Exchanges.{op}
use Rattle.http_front.specs.OpNumbers.{AreBelow, IsAbove, IsBelow}
use Rattle.http_front.proofs.BelowLemmas.{above_route}

differs : (b : Bool) (j k : ℕ) → j < k → (b && (j == k)) ≡ false
differs true j k h = grind (arith, nat_tests, h)
differs false j k h = refl

step_begins_other : (o : Op) (x : Step) → IsBelow o.k x → is_begin_of o x ≡ false
step_begins_other o (Begin p t ask) h = differs (p.pass == o.pass) p.k o.k h
step_begins_other o x h = refl

none_begun : (o : Op) (es : List (Entry Step Reply)) → AreBelow o.k es → NoBegin o es
none_begun o [] h = tt
none_begun o (e ∷ es) h = (step_begins_other o e.step h.0, none_begun o es h.1)

none_open : (o : Op) (f : Option FlightRow) → ((g : FlightRow) → f ≡ Some g → o.k < o.k) → f ≡ None
none_open o None h = refl
none_open o (Some g) h = absurd (let less : o.k < o.k = h g refl in omega arith)

fresh : (v : DeskView) (k : ℕ) (o : Op) → k < v.size → v.number k ≡ o.pass → IsAbove v o.k → IsFresh v k o
fresh v k o low e h = record {
  number = e;
  opened = none_open o (flight_at o (v.opened k)) (λ g is. h.opened k low o g is (sym e));
  own = none_begun o (own_entries v k) (h.own k low);
}

-- the same of the flight n on the token's shard, which is s
pub fresh_flight : (v : DeskView) (t : Token) (count s pass n : ℕ) (o : Op) → count ≡ v.size → s ≡ shard_of t count → s < count → pass ≡ v.number s → o ≡ op pass n → IsAbove v n →
    IsFresh v (shard_of t v.size) o
fresh_flight v t count s pass n o size shard low number is h =
    let here : s ≡ shard_of t v.size = shard ∙ ap (shard_of t) size in
    let below : s < v.size = subst (λ z. s < z) size low in
    subst (λ z. IsFresh v z o) here
    (subst (λ z. IsFresh v s z) (sym is) (fresh v s (op pass n) below (sym number) h))

-- its route, in these words
pub flight_routes : (moment : Option ℕ) (a b : DeskView) (t : Token) (ask : AskValue) (answer : Result Answer NoMemory) (count s pass n millis now : ℕ) (o : Op) (before after : ℕ) → count ≡ a.size →
    s ≡ shard_of t count → pass ≡ a.number s → o ≡ op pass n → IsMomentOf moment millis → now ≡ millis / 1000 →
    Went a b (shard_of t a.size) (Rose before after) (IsRoute (shard_of t a.size) o now t ask answer) → Routes moment n t ask answer a b before after
flight_routes moment a b t ask answer count s pass n millis now o before after size shard number is told second w =
    let here : s ≡ shard_of t a.size = shard ∙ ap (shard_of t) size in
    let name : o ≡ op (a.number (shard_of t a.size)) n = is ∙ ap (λ z. op z n) (number ∙ ap a.number here) in
    record {
      millis = millis;
      told = told;
      went = subst (λ z. Went a b (shard_of t a.size) (Rose before after) (IsRoute (shard_of t a.size) z (millis / 1000) t ask answer)) name
          (subst (λ z. Went a b (shard_of t a.size) (Rose before after) (IsRoute (shard_of t a.size) o z t ask answer)) second w);
    }

pub flight_above : (a b : DeskView) (k n m pass now : ℕ) (L : Type 0) (t : Token) (ask : AskValue) (answer : Result Answer NoMemory) (o : Op) → o ≡ op pass n → m ≡ n + 1 → IsAbove a n →
    Went a b k L (IsRoute k o now t ask answer) → IsAbove b m
flight_above a b k n m pass now L t ask answer o is e h w = above_route a b k n m o now t ask answer w.entries (ap (λ z. z.k) is) e h w.are w.calls
