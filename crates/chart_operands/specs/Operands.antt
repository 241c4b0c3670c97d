-- Operands of the code as contracts see them.
use Rattle.chart_tree.specs.Views.{expr_of}
use Rattle.chart_grammar.specs.Expressions.{Operand, Tail}
use Rattle.chart_operands.specs.declared.operands.Operand as declared
use Rattle.chart_operands.specs.declared.operands.Tail as declared_tail

-- an operand
abbrev pub operand_of : declared.Operand → Operand
operand_of o = record { expr = expr_of o.expr; operators = o.operators }

-- an operator with the operand after it
abbrev pub tail_of : declared_tail.Tail → Tail
tail_of t = record { word = t.word; at = t.at; right = operand_of t.right }
