use Rattle.std.proofs.Common.{◌≡◌, take}
use Rattle.std.specs.List.{list_any}
use Rattle.schedule_text.specs.Reading.{is_space}
use Rattle.schedule_text.proofs.spaces.has_space.Given as goal

abbrev pub invariant-loop-byte : goal.invariant-loop-byte
invariant-loop-byte l = l.found ≡ list_any is_space (take l.byte-index l.bytes)
