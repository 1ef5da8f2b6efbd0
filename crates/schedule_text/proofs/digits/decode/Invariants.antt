use Rattle.std.proofs.Common.{◌≡◌, ◌*◌, ◌++◌, take, drop}
use Rattle.hex.specs.Hex.{encode_lower}
use Rattle.schedule_text.proofs.digits.decode.Given as goal

abbrev pub invariant-bytes : goal.invariant-bytes
invariant-bytes l = encode_lower (take l.place l.bytes) ++ drop (2 * l.place) l.digits ≡ l.digits
