use Rattle.std.proofs.Common.{refl, arith, rules, length-set}
use Rattle.std.specs.Fmt.{digits}
use Rattle.schedule_text.proofs.HexDigits.{two_places, one_place_less, writes_more, writes_all}
use Rattle.schedule_text.proofs.hex_text.HexText.of.Goals as goal

pub loop-rest-init : goal.loop-rest-init
unfolding digits
loop-rest-init c = record { len = search rules; low = omega arith; high = omega arith; fits = omega arith; written = refl }

pub loop-rest-preserved : goal.loop-rest-preserved
loop-rest-preserved c =
    let i = c.loop-rest.invariant in
    let two = two_places c.loop-rest.start c.loop-rest.rest i.fits c.loop-rest-test.true in
    record {
      len = search (rules, length-set);
      low = omega arith;
      high = omega arith;
      fits = one_place_less c.loop-rest.start c.loop-rest.rest i.low i.fits;
      written = writes_more c.loop-rest.start c.loop-rest.rest c.glyph.result c.loop-rest.digits _ i.low (omega arith) c.loop-rest-test.true c.glyph.ensures.value i.written;
    }

pub returns : goal.returns
returns c =
    let i = c.loop-rest.invariant in
    writes_all c.loop-rest.start c.loop-rest.rest c.glyph-2.result c.loop-rest.digits _ i.low (omega arith) c.loop-rest-test.false c.glyph-2.ensures.value i.written
