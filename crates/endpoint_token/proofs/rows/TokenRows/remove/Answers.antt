use Rattle.std.proofs.Common.{None}
use Rattle.endpoint_token.proofs.OwnerLemmas.{owner_changes}
use Rattle.endpoint_token.proofs.rows.TokenRows.remove.Goals as goal

pub returns : goal.returns
returns c = rw (← c.self.view_is) (owner_changes c.self.inside.rows.entries c.remove.new.self.entries c.args.token.now None c.remove.ensures.updates.0)
