use Rattle.std.proofs.Common.{sym, ◌∙◌, arith}
use Rattle.fixed_point.proofs.Steps.{exact_frac-here, exact_frac-none, exact_frac-later, rest-more}
use Rattle.fixed_point.proofs.rounding.exact_frac.Goals as goal

pub returns-then-rest-eq0 : goal.returns-then-rest-eq0
returns-then-rest-eq0 c = sym (exact_frac-here c.args.units c.args.places c.loop-frac.frac c.loop-frac.rest
    c.loop-frac.invariant.left c.loop-frac.invariant.to_come c.if-rest-eq0.true c.loop-frac-test.true)

pub loop-frac-preserved : goal.loop-frac-preserved
loop-frac-preserved c = record {
  left = rest-more c.args.units c.args.places c.loop-frac.frac c.loop-frac.rest c.power_of_ten-one.result
      c.power_of_ten-one.ensures.value (omega arith) c.loop-frac.invariant.left;
  to_come =
      sym (exact_frac-later c.args.units c.args.places c.loop-frac.frac c.loop-frac.rest c.loop-frac.invariant.left
      c.if-rest-eq0.false c.loop-frac-test.true) ∙ c.loop-frac.invariant.to_come;
}

pub returns : goal.returns
returns c =
    sym (exact_frac-none c.args.units c.args.places c.loop-frac.frac c.loop-frac.invariant.to_come (omega arith))
