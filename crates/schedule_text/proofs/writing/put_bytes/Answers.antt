use Rattle.std.proofs.Common.{arith, sym}
use Rattle.std.proofs.lemmas.List.{length-take-le}
use Rattle.schedule_text.proofs.Texts.{spelled_more}
use Rattle.schedule_text.proofs.writing.put_bytes.Goals as goal

pub slice_bounds-put_few-end : goal.slice_bounds-put_few-end
slice_bounds-put_few-end c = sym (length-take-le 128 c.loop-rest.rest.now (omega arith))

pub put_few-requires : goal.put_few-requires
put_few-requires c = omega (arith, length-take-le 128 c.loop-rest.rest.now (omega arith))

pub loop-rest-preserved : goal.loop-rest-preserved
loop-rest-preserved c = spelled_more 128 _ _ c.loop-rest.rest.now _ c.in_ok-put_few.ensures c.loop-rest.invariant
