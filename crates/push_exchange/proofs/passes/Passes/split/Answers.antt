use Rattle.push_exchange.proofs.DeskParts.{honest_view, split_view, unmoved_calls, unmoved_mails}
use Rattle.push_exchange.proofs.passes.Passes.split.Goals as goal

pub split_all-passes-requires-clause-seated : goal.split_all-passes-requires-clause-seated
split_all-passes-requires-clause-seated g c = rw (c.as_slice-boards.ensures.value, c.deref-hall.ensures) c.self.invariant

pub split_all-passes-requires-clause-room : goal.split_all-passes-requires-clause-room
split_all-passes-requires-clause-room g c = c.in_ok-prepared.ensures.room

pub invariant_of-self : goal.invariant_of-self
invariant_of-self g c = rw (c.as_slice-boards.ensures.value, c.deref-hall.ensures) at c.split_all-passes.ensures.seated.0

pub invariant_of-result : goal.invariant_of-result
invariant_of-result g c = rw c.in_ok-prepared.ensures.hall (rw (c.as_slice-boards.ensures.value, c.deref-hall.ensures) at c.split_all-passes.ensures.seated.1)

pub returns-clause-calls : goal.returns-clause-calls
returns-clause-calls g c = unmoved_calls c.args.self.now c.self.inside.passes.items c.split_all-passes.new.passes.items c.self.view_is c.split_all-passes.ensures.stays

pub returns-clause-mails : goal.returns-clause-mails
returns-clause-mails g c = unmoved_mails c.args.self.now c.self.inside.passes.items c.split_all-passes.new.passes.items c.self.view_is c.split_all-passes.ensures.stays

pub returns-clause-new : goal.returns-clause-new
returns-clause-new g c = split_view c.self.inside.hall.value.boards.items c.args.self.now c.self.inside.passes.items c.split_all-passes.result.items c.self.view_is c.self.invariant c.split_all-passes.ensures.new

pub returns-clause-honest : goal.returns-clause-honest
returns-clause-honest g c = honest_view c.as_slice-boards.result.now c.split_all-passes.result.items c.split_all-passes.ensures.seated.1
