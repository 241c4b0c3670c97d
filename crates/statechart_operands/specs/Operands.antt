-- Operands and arguments of the code as contracts see them.
use Rattle.std.specs.Prelude.{List, [], ◌∷◌, map}
use Rattle.chart_grammar.specs.Limits.{usual}
use Rattle.statechart_tree.specs.Views.{expr_of, row_of}
use Rattle.statechart_grammar.specs.Expressions.{Operands, product, sum, comparison, conjunction}
use Rattle.statechart_grammar.specs.Expressions as grammar
use Rattle.statechart_tokens.specs.declared.group.Group.{Group}
use Rattle.statechart_tokens.specs.declared.group.Group.TheVariants as groups
use Rattle.statechart_operands.specs.declared.operands.Operand as declared
use Rattle.statechart_operands.specs.declared.operands.Tail as declared_tail
use Rattle.statechart_operands.specs.declared.operands.Arguments as declared_arguments
use Rattle.statechart_operands.specs.declared.operands.Level.{Level}
use Rattle.statechart_operands.specs.declared.operands.Level.TheVariants as levels

-- an operand
abbrev pub operand_of : declared.Operand → grammar.Operand
operand_of o = record { expr = expr_of o.expr; operators = o.operators }

-- an operator with the operand after it
abbrev pub tail_of : declared_tail.Tail → grammar.Tail
tail_of t = record { word = t.word; at = t.at; right = operand_of t.right }

-- arguments
abbrev pub arguments_of : declared_arguments.Arguments → grammar.Arguments
arguments_of a = record { exprs = row_of (map expr_of a.exprs.items); operators = a.operators }

-- the operators of a level
abbrev pub group_of : Level → Group
group_of levels.Products = groups.Products
group_of levels.Sums = groups.Sums
group_of levels.Comparisons = groups.Comparisons
group_of levels.Conjunctions = groups.Conjunctions
group_of levels.Disjunctions = groups.Disjunctions

-- the operands of a level, over the operands without a binary operator
abbrev pub below : Level → Operands → Operands
below levels.Products unary = unary
below levels.Sums unary = product usual unary
below levels.Comparisons unary = sum usual unary
below levels.Conjunctions unary = comparison usual unary
below levels.Disjunctions unary = conjunction usual unary
