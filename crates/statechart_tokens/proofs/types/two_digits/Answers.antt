use Rattle.std.proofs.Common.{sym, arith}
use Rattle.std.proofs.lemmas.Bool.Decides.{nat_tests}
use Rattle.statechart_tokens.proofs.DigitLemmas.{two_are, two_other}
use Rattle.statechart_tokens.proofs.types.two_digits.Goals as goal
use Rattle.statechart_tokens.proofs.types.two_digits.Goals.{else-is_ascii_digit-via-then-is_ascii_digit+then-tens-ne48+else-is_ascii_digit-2}
use Rattle.statechart_tokens.proofs.types.two_digits.Goals.{else-is_ascii_digit-via-then-is_ascii_digit+else-tens-ne48}
use Rattle.statechart_tokens.proofs.types.two_digits.Goals.{else-is_ascii_digit-via-else-is_ascii_digit}

pub returns-then-is_ascii_digit-2 : goal.returns-then-is_ascii_digit-2
returns-then-is_ascii_digit-2 c =
    sym (two_are c.args.tens c.args.digit (grind (arith, nat_tests)) (grind (arith, nat_tests))
    (grind (arith, nat_tests)) (grind (arith, nat_tests)))

pub returns-else-is_ascii_digit : goal.returns-else-is_ascii_digit
returns-else-is_ascii_digit c =
    sym (two_other c.args.tens c.args.digit (λ from to from' to'.
    elim c.else-is_ascii_digit.branch [
      | else-is_ascii_digit-via-then-is_ascii_digit+then-tens-ne48+else-is_ascii_digit-2 w ↦ grind (arith, nat_tests)
      | else-is_ascii_digit-via-then-is_ascii_digit+else-tens-ne48 w ↦ grind (arith, nat_tests)
      | else-is_ascii_digit-via-else-is_ascii_digit w ↦ grind (arith, nat_tests)
    ]))
