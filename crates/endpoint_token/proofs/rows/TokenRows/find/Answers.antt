use Rattle.std.proofs.Common.{◌∙◌, ap}
use Rattle.endpoint_token.specs.TokenOwners.{owner_of}
use Rattle.endpoint_token.proofs.OwnerLemmas.{lookup-owner}
use Rattle.endpoint_token.proofs.rows.TokenRows.find.Goals as goal

pub returns : goal.returns
returns c = c.copied.ensures ∙ c.get.ensures.value ∙ lookup-owner c.self.inside.rows.entries c.args.token.now ∙ ap (λ rows. owner_of rows c.args.token.now) c.self.view_is
