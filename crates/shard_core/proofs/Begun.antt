-- A message that is begun leaves its user there; and where a token's cell is.
use Rattle.std.proofs.Common.{◌≡◌, ℕ, Bool, true, false, cond, List, refl, ap, sym, subst, ◌∙◌}
use Rattle.std.specs.Prelude.{Option, Some, None, ◌==◌, ◌||◌, is_some, find, if◌then◌else◌}
use Rattle.std.specs.List.{list_any}
use Rattle.std.specs.Option.{option_map}
use Rattle.std.specs.Map.{lookup, set_value}
use Rattle.std.specs.Ordering.{nat_cmp}
use Rattle.std.specs.BTreeMap.{is_at}
use Rattle.push_model.specs.declared.ids.Op.{Op}
use Rattle.push_model.specs.declared.ids.Token.{Token}
use Rattle.push_model.specs.MessageValue.{MessageValue}
use Rattle.push_model.specs.Cells.{Cell, User, is_there, is_token, channels_of, routed_place}
use Rattle.push_model.specs.declared.ids.Uaid.{Uaid}
use Rattle.push_model.specs.declared.reply.Reply.{Reply}
use Rattle.push_model.specs.Outcomes.{Outcome, outcome}
use Rattle.push_model.specs.Steps.{OnUser}
use Rattle.push_model.specs.FlightSteps.{begin, begin_to}
use Rattle.push_model.specs.Worlds.{World, has_token_in}
use Rattle.push_model.specs.Reached.{IsReached}
use Rattle.push_model.proofs.Members.{find_in, find_passes}
use Rattle.push_model.proofs.Reached.{reached_there}
use Rattle.shard_core.specs.Made.{StepsTo}
use Rattle.shard_core.specs.Shards.{HasUser}
use Rattle.shard_core.proofs.Puts.{cell_found, puts_set}

either : (a b : Bool) → a ≡ true → (a || b) ≡ true
either true b h = refl
either false b h = absurd (cc h)

one_of : (b : Bool) (p q : Outcome) → is_there p.cell ≡ true → is_there q.cell ≡ true → is_there (if b then p else q).cell ≡ true
one_of true p q h i = h
one_of false p q h i = i

begun_to : (p : Option (ℕ × ℕ)) (o : Op) (t : Token) (m : MessageValue) (c : Cell) → is_some c.user ≡ true → is_there (begin_to p o t m c).cell ≡ true
begun_to (Some p) o t m c h = either (is_some c.user) _ h
begun_to None o t m c h = one_of (m.ask.terms.ttl == 0) _ _ (either (is_some c.user) _ h) (either (is_some c.user) _ h)

pub begun_there : (o : Op) (t : Token) (m : MessageValue) (c : Cell) → is_some c.user ≡ true → is_there (begin o t m c).cell ≡ true
begun_there o t m c h = begun_to (routed_place c.user) o t m c h

token_user : (t : Token) (u : Option User) → list_any (is_token t) (channels_of u) ≡ true → is_some u ≡ true
token_user t (Some u) h = refl
token_user t None h = absurd (cc h)

found_user : (w : World) (t : Token) (c : Cell) (o : Option (ℕ × Cell)) → IsReached w → find (has_token_in t) w.cells ≡ o → Some c ≡ option_map (λ e. e.1) o →
    HasUser (lookup (is_at (nat_cmp c.uaid.0)) w.cells)
found_user w t c None r f h = absurd (cc h)
found_user w t c (Some e) r f h =
    let same : e.1 ≡ c = cc h in
    let user = token_user t e.1.user (find_passes (has_token_in t) e w.cells f) in
    subst (λ (d : Cell). HasUser (lookup (is_at (nat_cmp d.uaid.0)) w.cells)) same
    (subst HasUser (sym (reached_there w e r (find_in (has_token_in t) e w.cells f))) user)

-- the cell whose user has the token stands under its uaid
pub token_there : (w : World) (t : Token) (c : Cell) → IsReached w → Some c ≡ option_map (λ e. e.1) (find (has_token_in t) w.cells) →
    HasUser (lookup (is_at (nat_cmp c.uaid.0)) w.cells)
token_there w t c r h = found_user w t c (find (has_token_in t) w.cells) r refl h

-- the cell of a user who is there, where a message is begun
pub begun_steps : (u : Uaid) (o : Op) (t : Token) (m : MessageValue) (c v : Cell) (r : Reply) (es fs : List (ℕ × Cell)) →
    lookup (is_at (nat_cmp u.0)) es ≡ Some c → is_some c.user ≡ true → begin o t m c ≡ outcome v r → fs ≡ set_value (is_at (nat_cmp u.0)) es v →
    ((q : ℕ) → lookup (is_at (nat_cmp q)) fs ≡ cond (is_at (nat_cmp u.0) q) (Some v) (lookup (is_at (nat_cmp q)) es)) →
    StepsTo (OnUser u (begin o t m)) u es fs r
begun_steps u o t m c v r es fs found user d s h =
    record {
      cell = v;
      does = ap (begin o t m) (cell_found es u c found) ∙ d;
      puts = puts_set u c v es fs found (ap (λ (q : Outcome). is_there q.cell) (sym d) ∙ begun_there o t m c user) s h;
    }
