use Rattle.std.proofs.Common.{◌≡◌, ◌++◌, ◌∷◌, [], arith}
use Rattle.std.proofs.lemmas.Grind.{common_steps}
use Rattle.push_model.specs.Sessions.{is_attached_at, new_session, displaced}
use Rattle.push_model.proofs.KeyedLemmas.{changed_and_pushed}
use Rattle.node_registry.proofs.attach.displace_by.Goals as goal

pub returns-clause-ok : goal.returns-clause-ok
returns-clause-ok c =
    let pushed : c.push.new.self.items ≡ c.args.sessions.now.items ++ new_session c.args.s ∷ [] = grind (arith, common_steps) in
    rw c.displace.ensures (changed_and_pushed (is_attached_at c.args.s.node) displaced _ _ _ _ _ c.requires pushed c.index_mut.ensures.value)
