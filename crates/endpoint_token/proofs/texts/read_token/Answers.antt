use Rattle.std.proofs.Common.{Some, ap, sym, ◌∙◌}
use Rattle.std.specs.Prelude.{length}
use Rattle.endpoint_token.specs.TokenTexts.{is_token_text}
use Rattle.endpoint_token.proofs.SpellingLemmas.{is_token_text-spelled, length-spelled, spelled_alike}
use Rattle.endpoint_token.proofs.texts.read_token.Goals as goal

pub returns-then-text-ne32-clause-read : goal.returns-then-text-ne32-clause-read
returns-then-text-ne32-clause-read c = λ t token same. absurd (c.if-text-ne32.true (ap length same ∙ length-spelled t token))

pub returns-then-read_into-clause-read : goal.returns-then-read_into-clause-read
returns-then-read_into-clause-read c = λ t token same. ap Some (spelled_alike _ t c.if-read_into.ensures.token token (sym c.if-read_into.ensures.spelled ∙ same))

pub returns-else-read_into-clause-read : goal.returns-else-read_into-clause-read
returns-else-read_into-clause-read c = λ t token same.
    let is = c.if-read_into.ensures.value ∙ ap is_token_text same ∙ is_token_text-spelled t token in
    cc is
