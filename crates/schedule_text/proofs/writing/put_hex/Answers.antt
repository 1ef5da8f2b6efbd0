use Rattle.std.proofs.Common.{◌^◌, arith, rules, sym, ◌∙◌}
use Rattle.std.specs.Str.{IsUtf8}
use Rattle.schedule_text.proofs.Numerals.{base16, digits_are_utf8}
use Rattle.schedule_text.proofs.writing.put_hex.Goals as goal

pub unwrap-requires : goal.unwrap-requires
unwrap-requires c =
    let utf8 : IsUtf8 c.bytes.result.now = digits_are_utf8 16 (2 ^ 128) c.args.number c.bytes.result.now base16 (omega arith) (sym (c.bytes.ensures ∙ c.of-digits.ensures)) in
    search rules
