use Rattle.std.proofs.Common.{refl}
use Rattle.matchit.proofs.OnLiterals.{matchit_on_literals}
use Rattle.push_paths.proofs.paths.push_router.Goals as goal

pub returns-in-Ok : goal.returns-in-Ok
unfolding matchit_on_literals
returns-in-Ok c =
    let a = c.in-Ok.ensures in
    rw (a.1, c.new-router.ensures) refl
