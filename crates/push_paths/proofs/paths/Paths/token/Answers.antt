use Rattle.push_paths.proofs.Prefixes.{path_is_text}
use Rattle.push_paths.proofs.paths.Paths.token.Goals as goal

pub returns-in_default-clause-none : goal.returns-in_default-clause-none
returns-in_default-clause-none c = λ text. absurd (c.in_default.ensures.cases.0 (rw c.path_of-path.ensures (path_is_text c.args.target.now text)))
