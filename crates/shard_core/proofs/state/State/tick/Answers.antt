use Rattle.std.proofs.Common.{◌≡◌, ◌<◌, ℕ, List, max, refl, ap, sym, subst, ◌∙◌, arith}
use Rattle.push_model.specs.declared.reply.Reply.TheVariants.{Done}
use Rattle.std.specs.List.{list_any}
use Rattle.push_model.specs.Cells.{Cell, is_token}
use Rattle.push_model.specs.ClockSteps.{ticked}
use Rattle.push_model.specs.Reached.{IsReached}
use Rattle.push_model.specs.Worlds.{each}
use Rattle.shard_core.specs.Owners.{IsComplete, IsSound, has_flight, flight_owner, holds, token_owner}
use Rattle.push_model.proofs.Narrow.{ticked_names}
use Rattle.shard_core.proofs.DueCells.{none_ticked}
use Rattle.shard_core.proofs.Owners.{complete_each, sound_each}
use Rattle.shard_core.proofs.state.State.tick.Goals as goal

pub returns-then-seconds-self : goal.returns-then-seconds-self
returns-then-seconds-self c =
    let s = c.self.inside in
    let es : List (ℕ × Cell) = s.cells.entries in
    let now = c.later-now.result in
    let is : now ≡ max s.clock c.args.moment = c.later-now.ensures in
    let lt : now < s.soonest = omega (arith, c.seconds.ensures.value, c.if-seconds-self.true) in
    let stays : each (ticked now) es ≡ es = none_ticked _ s.soonest now (subst IsReached (sym c.self.view_is) c.requires) c.self.invariant.1 lt in
    let cells : each (ticked (max s.clock c.args.moment)) es ≡ es = ap (λ t. each (ticked t) es) (sym is) ∙ stays in
    let clock = sym is in
    rw (← c.self.view_is) (λ i. (
      record { shard = s.number; clock = clock i; next = s.next; down = s.down; cells = cells i; tally = s.tally },
      Done,
    ))

pub invariant_of-self-2 : goal.invariant_of-self-2
invariant_of-self-2 c =
    let s = c.self.inside in
    let owner = flight_owner s.flights.entries in
    let tokens = token_owner s.tokens.entries in (
      c.self.invariant.0,
      c.soonest_of-self-inside.ensures,
      subst (IsComplete has_flight owner) (sym c.tick_cells.ensures) (complete_each has_flight owner (ticked c.later-now.result) s.cells.entries (λ k d. refl) c.self.invariant.2),
      subst (IsComplete holds tokens) (sym c.tick_cells.ensures) (complete_each holds tokens (ticked c.later-now.result) s.cells.entries (λ k d. ap (list_any (is_token k)) (ticked_names c.later-now.result d).channels) c.self.invariant.3),
      subst (IsSound has_flight owner) (sym c.tick_cells.ensures) (sound_each has_flight owner (ticked c.later-now.result) s.cells.entries (λ k d. refl) c.self.invariant.4),
    )
