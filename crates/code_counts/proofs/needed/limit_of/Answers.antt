use Rattle.std.proofs.Common.{refl, arith}
use Rattle.code_counts.proofs.needed.limit_of.Goals as goal

-- no event takes more than the count
pub returns-in-Some : goal.returns-in-Some
returns-in-Some c = record {
  some = omega arith;
  no_greater = omega arith;
  same = λ tested. absurd (cc tested);
  enough = λ untested. (c.in-Some.count, rw c.in-Some.is at c.in_ok-found.ensures, omega arith);
}

-- the bound is the given one, which is tested
pub returns-in_default : goal.returns-in_default
returns-in_default c = record {
  some = omega arith;
  no_greater = omega arith;
  same = λ tested. refl;
  enough = λ untested. absurd (cc untested);
}
