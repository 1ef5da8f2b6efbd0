use Rattle.std.proofs.Common.{◌≡◌, take, length}
use Rattle.push_outside.specs.Draws.{GivesMore}
use Rattle.push_outside.proofs.draw.fill.Given as goal

abbrev pub invariant-loop-place : goal.invariant-loop-place
invariant-loop-place g l = GivesMore (g.G.Draw.given l.initial.draw) (g.G.Draw.given l.draw) (take l.place l.room) × (length l.room ≡ length l.initial.room)
