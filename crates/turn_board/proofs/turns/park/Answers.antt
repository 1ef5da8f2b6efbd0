use Rattle.std.proofs.Common.{arith, ◌∙◌, ◌+◌, ◌-◌, ◌%◌, ◌^◌}
use Rattle.turn_board.proofs.Parking.{stays}
use Rattle.turn_board.proofs.turns.park.Goals as goal

pub fetch_add-requires : goal.fetch_add-requires
fetch_add-requires g c = (c.requires.table.0, (let w = c.requires.table.1 in omega arith), stays _ _ _ _ _ _ (λ n. (n + 1) % 2 ^ 64) 1)

pub fetch_sub-requires : goal.fetch_sub-requires
fetch_sub-requires g c = (c.fetch_add.ensures.0 ∙ c.requires.table.0, (let w = c.requires.table.1 in omega arith), stays _ _ _ _ _ _ (λ n. (n + (2 ^ 64 - 1)) % 2 ^ 64) 1)
