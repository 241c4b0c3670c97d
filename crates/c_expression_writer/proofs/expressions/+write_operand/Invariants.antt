use Rattle.actions.specs.Trees.{expr_of}
use Rattle.checked_chart.specs.Expressions.{operator_count}
use Rattle.c_expression_writer.proofs.expressions.+write_operand.Given as goal

-- operands have fewer operators
abbrev pub decreases-write_operand : goal.decreases-write_operand
decreases-write_operand l = operator_count (expr_of l.expr.now)
