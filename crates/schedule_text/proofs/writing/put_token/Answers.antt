use Rattle.std.proofs.Common.{rules, subst, sym, ◌∙◌}
use Rattle.std.specs.Str.{IsUtf8}
use Rattle.schedule_text.proofs.Texts.{token_utf8}
use Rattle.schedule_text.proofs.writing.put_token.Goals as goal

pub unwrap-requires : goal.unwrap-requires
unwrap-requires c =
    let utf8 : IsUtf8 c.bytes.result.now = subst IsUtf8 (sym (c.bytes.ensures ∙ c.of-digits.ensures)) (token_utf8 c.args.token.now) in
    search rules
