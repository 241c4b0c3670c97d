use Rattle.std.proofs.Common.{◌/◌, arith}
use Rattle.std.proofs.lemmas.Fmt.{length-decimal-le}
use Rattle.itoa.proofs.Decimal.{length_one, length_two, length_pair, length_four}
use Rattle.trace_text.proofs.pieces.digit_count.Goals as goal

pub fours-init : goal.fours-init
fours-init c = record {
  count = omega arith;
  few = omega (arith, length-decimal-le 20 c.args.number (omega arith) (omega arith) c.ranges.number.fits);
}

pub fours-preserved : goal.fours-preserved
fours-preserved c =
    let shorter = length_four c.fours.left c.fours-test.true c.fours.auto.left-fits.fits in
    record {
      count = omega (arith, shorter, c.fours.invariant.count);
      few = omega (arith, shorter, c.fours.invariant.few);
    }

pub returns-then-left-lt10 : goal.returns-then-left-lt10
returns-then-left-lt10 c = omega (arith, c.fours.invariant.count, length_one c.fours.left c.if-left-lt10.true)

pub returns-then-left-lt100 : goal.returns-then-left-lt100
returns-then-left-lt100 c =
    omega (arith, c.fours.invariant.count, length_two c.fours.left c.if-left-lt10.false c.if-left-lt100.true)

pub returns-then-left-lt1000 : goal.returns-then-left-lt1000
returns-then-left-lt1000 c =
    let two = length_pair c.fours.left c.if-left-lt100.false c.fours.auto.left-fits.fits in
    omega (arith, two, c.fours.invariant.count, length_one (c.fours.left / 100) (omega (arith, c.if-left-lt1000.true)))

pub returns : goal.returns
returns c =
    let two = length_pair c.fours.left c.if-left-lt100.false c.fours.auto.left-fits.fits in
    omega (
      arith,
      two,
      c.fours.invariant.count,
      length_two (c.fours.left / 100) (omega (arith, c.if-left-lt1000.false)) (omega (arith, c.fours-test.false)),
    )
