use Rattle.std.proofs.Common.{◌-◌, true, slice_set, refl, ap, sym, subst, ◌∙◌}
use Rattle.std.specs.List.{list_any}
use Rattle.push_model.specs.Cells.{is_token}
use Rattle.push_model.specs.Tallies.{capped}
use Rattle.push_model.specs.NodeSteps.{killed, held_on, orphaned_on}
use Rattle.push_model.specs.declared.reply.Reply.TheVariants.{Killed}
use Rattle.shard_core.specs.Dues.{NoneDueIn}
use Rattle.shard_core.specs.Owners.{IsComplete, IsSound, has_flight, flight_owner, holds, token_owner}
use Rattle.push_model.proofs.Narrow.{killed_names}
use Rattle.shard_core.proofs.DueCells.{due_each, due_killed}
use Rattle.shard_core.proofs.Owners.{complete_each, sound_each}
use Rattle.shard_core.proofs.Values.{sum_by-values}
use Rattle.shard_core.proofs.state.State.kill.Goals as goal

pub returns : goal.returns
returns c =
    let s = c.self.inside in
    let n = c.args.node in
    let es = s.cells.entries in
    let held = sym (c.held_on-held.ensures ∙ ap capped (sum_by-values (held_on n) es)) in
    let orphaned = sym (c.orphaned_on-orphaned.ensures ∙ ap capped (sum_by-values (orphaned_on n) es)) in
    let number = sym (c.from.ensures ∙ c.get.ensures.value) in
    let cells = sym c.kill_cells.ensures in
    rw (← c.self.view_is) (λ i. (
      record { shard = s.number; clock = s.clock; next = s.next; down = slice_set s.down (number i - 1) true; cells = cells i; tally = s.tally },
      Killed (held i) (orphaned i),
    ))

pub invariant_of-self : goal.invariant_of-self
invariant_of-self c =
    let s = c.self.inside in
    let n = c.args.node in
    let owner = flight_owner s.flights.entries in
    let tokens = token_owner s.tokens.entries in (
      c.self.invariant.0,
      subst (NoneDueIn s.soonest) (sym c.kill_cells.ensures) (due_each (killed n) s.soonest s.cells.entries (λ d h. due_killed n s.soonest d h) c.self.invariant.1),
      subst (IsComplete has_flight owner) (sym c.kill_cells.ensures) (complete_each has_flight owner (killed n) s.cells.entries (λ k d. refl) c.self.invariant.2),
      subst (IsComplete holds tokens) (sym c.kill_cells.ensures) (complete_each holds tokens (killed n) s.cells.entries (λ k d. ap (list_any (is_token k)) (killed_names n d).channels) c.self.invariant.3),
      subst (IsSound has_flight owner) (sym c.kill_cells.ensures) (sound_each has_flight owner (killed n) s.cells.entries (λ k d. refl) c.self.invariant.4),
    )
