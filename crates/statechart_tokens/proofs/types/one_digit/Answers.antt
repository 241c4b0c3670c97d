use Rattle.std.proofs.Common.{sym, arith}
use Rattle.std.proofs.lemmas.Bool.Decides.{nat_tests}
use Rattle.statechart_tokens.proofs.DigitLemmas.{one_is, one_other}
use Rattle.statechart_tokens.proofs.types.one_digit.Goals as goal

pub returns-then-is_ascii_digit : goal.returns-then-is_ascii_digit
returns-then-is_ascii_digit c = sym (one_is c.args.digit (grind (arith, nat_tests)) (grind (arith, nat_tests)))

pub returns-else-is_ascii_digit : goal.returns-else-is_ascii_digit
returns-else-is_ascii_digit c = sym (one_other c.args.digit (λ from to. grind (arith, nat_tests)))
