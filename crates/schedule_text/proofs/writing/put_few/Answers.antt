use Rattle.std.proofs.Common.{rules}
use Rattle.schedule_text.proofs.Texts.{encoded_utf8}
use Rattle.schedule_text.proofs.writing.put_few.Goals as goal

pub unwrap-requires : goal.unwrap-requires
unwrap-requires c = let utf8 = encoded_utf8 c.args.bytes.now in search rules
