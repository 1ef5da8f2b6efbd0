use Rattle.std.proofs.Common.{◌≡◌, sym, ◌∙◌}
use Rattle.std.specs.Prelude.{codes, string_bytes}
use Rattle.std.proofs.lemmas.Slice.Eq.{bytes_eq-Decides}
use Rattle.autopush_serve.proofs.WordLemmas.{first_word}
use Rattle.autopush_serve.proofs.words.is_serve.Goals as goal

pub returns-in-len1-up-clause-yes : goal.returns-in-len1-up-clause-yes
returns-in-len1-up-clause-yes c = λ e.
    first_word string_bytes c.args.words.now c.name-item.result c.in-len1-up.len_at_least c.name-item.is
    (sym c.as_str.ensures.value ∙ (bytes_eq-Decides c.as_str.result.now (codes "serve")).0 (sym c.eq.ensures ∙ e))
