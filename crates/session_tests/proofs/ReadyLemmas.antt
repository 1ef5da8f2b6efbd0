-- Desks stay ready.
use Rattle.std.proofs.Common.{◌≡◌, ℕ, ◌<◌, ◌/◌, ◌%◌, false, [], ◌∷◌, ◌++◌, List, refl, sym, ap, subst, ◌∙◌, arith}
use Rattle.std.proofs.Math.Nat.{zero-mod}
use Rattle.std.specs.Prelude.{None, slice_index}
use Rattle.push_model.specs.declared.ids.Op.{Op}
use Rattle.push_model.specs.declared.ids.Token.{Token}
use Rattle.push_model.specs.declared.entry.Entry.{Entry}
use Rattle.push_model.specs.declared.step.Step.{Step}
use Rattle.push_model.specs.declared.reply.Reply.{Reply}
use Rattle.push_model.specs.Frames.{NoBegin, flight_at, is_begin_of}
use Rattle.push_model.specs.DeskViews.{Calls, DeskView, IsHonest, Made, Mails, Written, entries_at, made, own_entries}
use Rattle.push_model.specs.Worlds.{start}
use Rattle.push_model.proofs.DeskLemmas.{honest_after}
use Rattle.endpoint_router.specs.Shards.{shard_of}
use Rattle.endpoint_router.specs.Flights.{IsFresh}
use Rattle.lone_desk.specs.declared.notes.Notes.{Notes}
use Rattle.lone_desk.specs.Notes.{fresh}
use Rattle.lone_desk.specs.LoneViews.{lone_view}
use Rattle.push_exchange.specs.Boards.{IsSplit}
use Rattle.push_exchange.specs.Boards.{IsFresh as AreFresh}
use Rattle.session_tests.specs.Ready.{IsReady}

no_begin_more : (o : Op) (es fs : List (Entry Step Reply)) → NoBegin o es → NoBegin o fs → NoBegin o (es ++ fs)
no_begin_more o [] fs n m = m
no_begin_more o (e ∷ es) fs n m = (n.0, no_begin_more o es fs n.1 m)

pub ready_after : (a b : DeskView) (ms : List Made) (ws : List Written) → IsReady a → Calls a b ms → Mails a b ws → ((o : Op) → NoBegin o (entries_at a.number 0 ms)) → IsReady b
ready_after a b ms ws h c m n = record {
  within = subst (λ (z : ℕ). 0 < z) (sym c.same.size) h.within;
  honest = honest_after a b ms ws c m h.honest;
  opened = λ o. ap (flight_at o) (c.same.opened 0) ∙ h.opened o;
  own = λ o. subst (NoBegin o) (sym (c.own 0)) (no_begin_more o (own_entries a 0) (entries_at a.number 0 ms) (h.own o) (n o));
}

pub ready_made : (a b : DeskView) (x : Step) (r : Reply) → IsReady a → ((o : Op) → is_begin_of o x ≡ false) → Calls a b (made 0 x r ∷ []) → Mails a b [] → IsReady b
ready_made a b x r h n c m = ready_after a b (made 0 x r ∷ []) [] h c m (λ o. (n o, tt))

pub ready_still : (a b : DeskView) → IsReady a → Calls a b [] → Mails a b [] → IsReady b
ready_still a b h c m = ready_after a b [] [] h c m (λ o. tt)

-- ---- at first

-- a desk of an empty shard
pub ready_lone : (n : Notes) (next : ℕ) → n ≡ fresh (start 0 next) → IsHonest (lone_view n) → IsReady (lone_view n)
ready_lone n next e h = record {
  within = omega arith;
  honest = h;
  opened = λ o. subst (λ (m : Notes). flight_at o ((lone_view m).opened 0) ≡ None) (sym e) refl;
  own = λ o. subst (λ (m : Notes). NoBegin o (own_entries (lone_view m) 0)) (sym e) tt;
}

-- new passes of boards that are new
pub ready_split : (a b : DeskView) → AreFresh a → IsSplit a b → IsHonest b → IsReady b
ready_split a b f s h =
    let wide : b.size ≡ 16 = s.size ∙ f.size in
    record {
      within = omega (arith, wide);
      honest = h;
      opened = λ o. ap (flight_at o) (s.opened 0 ∙ f.opened 0 (omega arith));
      own = λ o. subst (NoBegin o) (sym (s.none_own 0)) tt;
    }

-- a token whose first byte is 1 is on shard 0
pub ready_fresh : (v : DeskView) (o : Op) (t : Token) → IsReady v → v.number 0 ≡ o.pass → slice_index t.0 0 ≡ 1 → IsFresh v (shard_of t v.size) o
ready_fresh v o t h n first =
    let at : shard_of t v.size ≡ 0 = ap (λ (z : ℕ). (z / 16) % v.size) first ∙ zero-mod v.size in
    subst (λ (k : ℕ). IsFresh v k o) (sym at) (record { number = n; opened = h.opened o; own = h.own o })
