-- The counts of a `Share`.
use Rattle.std.specs.Prelude.{◌≡◌}
use Rattle.node_loops.specs.ShareValue.{ShareValue}

-- before its first accept
abbrev pub IsNew : ShareValue → Type 0
IsNew s = s ≡ record { faults = 0; given = 0; lulls = 0 }
