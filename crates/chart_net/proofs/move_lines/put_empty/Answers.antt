use Rattle.std.proofs.Common.{ap}
use Rattle.std.specs.Prelude.{decimal}
use Rattle.chart_net.proofs.LineParts.{puts_empty}
use Rattle.chart_net.proofs.move_lines.put_empty.Goals as goal

pub returns-then-has_failed-clause-put : goal.returns-then-has_failed-clause-put
returns-then-has_failed-clause-put g c =
    puts_empty _ _ _ _ _ _ _ _ _ _ _ _ _ _ _ (decimal c.args.p) _ (decimal c.args.r)
    c.put_digits.ensures c.put.ensures c.put_digits-2.ensures c.put_byte.ensures (ap decimal c.from.ensures)

pub returns-clause-put : goal.returns-clause-put
returns-clause-put g c =
    puts_empty _ _ _ _ _ _ _ _ _ _ _ _ _ _ _ (decimal c.args.p) _ (decimal c.args.r)
    c.put_digits.ensures c.put.ensures c.put_digits-2.ensures c.put_byte.ensures (ap decimal c.from.ensures)
