use Rattle.std.proofs.Common.{arith}
use Rattle.code_fields.proofs.NumberLemmas.{numeral-narrow_none, numeral-narrow_some, numeral-narrow_over}
use Rattle.code_fields.proofs.numbers.numeral.Goals as goal

pub returns-in_err-number-clause-number : goal.returns-in_err-number-clause-number
returns-in_err-number-clause-number c =
    rw c.from_residual.ensures (numeral-narrow_none c.args.limit c.args.token.now (omega arith) c.in_err-number.ensures)

pub returns-then-number-limit-clause-number : goal.returns-then-number-limit-clause-number
returns-then-number-limit-clause-number c =
    numeral-narrow_some c.args.limit c.in_ok-number.number c.args.token.now (omega arith) c.in_ok-number.ensures c.if-number-limit.true

pub returns-else-number-limit-clause-number : goal.returns-else-number-limit-clause-number
returns-else-number-limit-clause-number c =
    numeral-narrow_over c.args.limit c.in_ok-number.number c.args.token.now (omega arith) c.in_ok-number.ensures c.if-number-limit.false
