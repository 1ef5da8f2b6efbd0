use Rattle.std.proofs.Common.{◌≡◌, ℕ, ◌<◌, List, Some, None, subst, ◌∙◌}
use Rattle.push_model.specs.Worlds.{start}
use Rattle.push_model.specs.DeskViews.{Calls, DeskView, Made}
use Rattle.push_model.specs.Frames.{flight_at}
use Rattle.push_model.specs.declared.ids.Op.{Op}
use Rattle.push_model.specs.declared.parts.FlightRow.{FlightRow}
use Rattle.push_exchange.specs.Boards.{IsFresh, IsSplit}
use Rattle.http_front.specs.OpNumbers.{IsAbove}
use Rattle.node_runner.specs.Openings.{OpensEmpty}

pub fresh_opens : (v : DeskView) → IsFresh v → OpensEmpty v
fresh_opens v f k within = (k, 1, f.opened k (subst (λ n. k < n) f.size within))

pub later_opens : (a b : DeskView) (ms : List Made) → Calls a b ms → OpensEmpty a → OpensEmpty b
later_opens a b ms c e k within =
    let at = e k (subst (λ n. k < n) c.same.size within) in (at.0, at.1, c.same.opened k ∙ at.2)

pub split_opens : (a b : DeskView) → IsSplit a b → OpensEmpty a → OpensEmpty b
split_opens a b s e k within =
    let at = e k (subst (λ n. k < n) s.size within) in (at.0, at.1, s.opened k ∙ at.2)

-- an empty world has no flight
none_there : (o : Op) (f : FlightRow) (number next : ℕ) → flight_at o (start number next) ≡ Some f → ⊥
none_there o f number next e = let odd : None ≡ Some f = e in cc

pub split_above : (a b : DeskView) (n : ℕ) → IsSplit a b → OpensEmpty a → IsAbove b n
split_above a b n s e = record {
  own = λ k within. rw (s.none_own k) tt;
  opened = λ k within o f there mine.
      let at = split_opens a b s e k within in
      absurd (none_there o f at.0 at.1 (subst (λ w. flight_at o w ≡ Some f) at.2 there));
}
