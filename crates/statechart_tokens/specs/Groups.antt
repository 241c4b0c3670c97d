-- The sets of kinds that the reader looks for.
use Rattle.std.specs.Prelude.{Bool}
use Rattle.token_grammar.specs.declared.token.Kind.{Kind}
use Rattle.token_grammar.specs.declared.token.Kind.TheVariants as kinds
use Rattle.token_grammar.specs.Grammar.{is}
use Rattle.chart_grammar.specs.Expressions.{product_heads, sum_heads, comparison_heads, sign_heads, flag_heads}
use Rattle.chart_grammar.specs.Transitions.{stmt_heads}
use Rattle.chart_grammar.specs.Types.{mode_heads}
use Rattle.chart_grammar.specs.Declarations.{kind_heads}
use Rattle.chart_grammar.specs.States.{comp_heads}
use Rattle.statechart_grammar.specs.Expressions.{operand_heads}
use Rattle.statechart_grammar.specs.Transitions.{case_heads, trans_heads}
use Rattle.statechart_grammar.specs.States.{plain_heads}
use Rattle.statechart_tokens.specs.declared.group.Group.{Group}
use Rattle.statechart_tokens.specs.declared.group.Group.TheVariants as groups

-- the set of a group
abbrev pub set_of : Group → Kind → Bool
set_of groups.Products = product_heads
set_of groups.Sums = sum_heads
set_of groups.Comparisons = comparison_heads
set_of groups.Conjunctions = is kinds.AndAnd
set_of groups.Disjunctions = is kinds.OrOr
set_of groups.Signs = sign_heads
set_of groups.Parentheses = is kinds.OpenParen
set_of groups.Flags = flag_heads
set_of groups.Operands = operand_heads
set_of groups.Statements = stmt_heads
set_of groups.Cases = case_heads
set_of groups.Transitions = trans_heads
set_of groups.Actions = plain_heads
set_of groups.Kinds = kind_heads
set_of groups.Locals = is kinds.Local
set_of groups.Modes = mode_heads
set_of groups.Compositions = comp_heads
