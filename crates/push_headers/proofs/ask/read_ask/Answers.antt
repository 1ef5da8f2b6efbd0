use Rattle.std.proofs.Common.{sym}
use Rattle.push_headers.proofs.AskFacts.{is_ask}
use Rattle.push_headers.proofs.ask.read_ask.Goals as goal

pub invariant_of-result : goal.invariant_of-result
invariant_of-result c =
    let whole = is_ask c.args.head.now c.args.payload c.in-Ok.terms (sym c.in-Ok.ensures) c.requires.size c.requires.empty in
    rw (c.in-Ok-copy_parameter.ensures, c.in-Ok-copy_parameter-2.ensures) whole
