use Rattle.std.proofs.Common.{◌≡◌, ◌-◌, ◌<◌, get_or}
use Rattle.schedule_text.proofs.wrong.has_two_spaces.Given as goal

abbrev pub invariant-loop-byte : goal.invariant-loop-byte
invariant-loop-byte l = (l.byte-index ≡ 0 → l.before ≡ 0) × (0 < l.byte-index → l.before ≡ get_or l.line (l.byte-index - 1) 0)
