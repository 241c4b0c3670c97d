-- Levels of operators of the code as contracts see them.
use Rattle.chart_grammar.specs.Limits.{usual}
use Rattle.chart_grammar.specs.Expressions.{Operands, product, sum, comparison, conjunction}
use Rattle.chart_reader.specs.declared.group.Group.{Group}
use Rattle.chart_reader.specs.declared.group.Group.TheVariants as groups
use Rattle.chart_reader.specs.declared.operands.Level.{Level}
use Rattle.chart_reader.specs.declared.operands.Level.TheVariants as levels

-- the operators of a level
abbrev pub group_of : Level → Group
group_of levels.Products = groups.Products
group_of levels.Sums = groups.Sums
group_of levels.Comparisons = groups.Comparisons
group_of levels.Conjunctions = groups.Conjunctions
group_of levels.Disjunctions = groups.Disjunctions

-- the operands of a level, over the operands without a binary operator
abbrev pub below : Level → Operands → Operands
below levels.Products unary = unary
below levels.Sums unary = product usual unary
below levels.Comparisons unary = sum usual unary
below levels.Conjunctions unary = comparison usual unary
below levels.Disjunctions unary = conjunction usual unary
