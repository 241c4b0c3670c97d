use Rattle.std.proofs.Common.{sym}
use Rattle.statechart_tokens.proofs.DigitLemmas.{no_digit, many_digits}
use Rattle.statechart_tokens.proofs.types.small_number.Goals as goal

pub returns-in_default : goal.returns-in_default
returns-in_default c = sym (no_digit c.args.text.now c.in_default.len_below)

pub returns-in_default-2 : goal.returns-in_default-2
returns-in_default-2 c = sym (many_digits c.args.text.now c.in_default.len_at_least)
