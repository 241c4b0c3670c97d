-- The levels of operators between operands.
use Rattle.std.proofs.Common.{◌≡◌, ℕ, true, false, List, Ok}
use Rattle.token_grammar.specs.Token.{Lexeme, Outcome}
use Rattle.token_grammar.specs.Grammar.{heads}
use Rattle.token_grammar.proofs.Good.{Set}
use Rattle.token_grammar.proofs.Fine.{Fine}
use Rattle.chart_grammar.specs.Limits.{usual}
use Rattle.statechart_grammar.specs.Expressions.{Operand, Tail, Operands, tail, tails, with_tail, operand_heads}
use Rattle.statechart_grammar.proofs.ExpressionLaws.{operand_more, product_more, sum_more, comparison_more}
use Rattle.statechart_grammar.proofs.ExpressionLaws.{conjunction_more, fine_product, fine_sum, fine_comparison}
use Rattle.statechart_grammar.proofs.ExpressionLaws.{fine_conjunction}
use Rattle.statechart_tokens.specs.Groups.{set_of}
use Rattle.statechart_operands.specs.declared.operands.Level.{Level}
use Rattle.statechart_operands.specs.declared.operands.Level.TheVariants as levels
use Rattle.statechart_operands.specs.Operands.{group_of, below}
use Rattle.statechart_operands.proofs.ChainLoop.{resumed, chain_goes_on}

-- what goes on with an operand of a level
abbrev pub more_below : Level → Set
more_below levels.Products = operand_more
more_below levels.Sums = product_more
more_below levels.Comparisons = sum_more
more_below levels.Conjunctions = comparison_more
more_below levels.Disjunctions = conjunction_more

-- operands of a level read as they spell, where those below all levels do
pub fine_below : (level : Level) {unary : Operands} → ((n : ℕ) → Fine (unary n) operand_heads false operand_more)
    → (n : ℕ) → Fine (below level unary n) operand_heads false (more_below level)
fine_below levels.Products a n = a n
fine_below levels.Sums a n = fine_product usual a n
fine_below levels.Comparisons a n = fine_sum usual a n
fine_below levels.Conjunctions a n = fine_comparison usual a n
fine_below levels.Disjunctions a n = fine_conjunction usual a n

-- one more operator with its operand was read, and joined to what stands before it
pub chain_on : (level : Level) {unary : Operands} → ((n : ℕ) → Fine (unary n) operand_heads false operand_more)
    → (left now : Operand) (s : List Lexeme) (t : Tail) (r : List Lexeme) (total : Outcome Operand)
    → now ≡ with_tail left t → heads (set_of (group_of level)) s ≡ true
    → (tail usual (set_of (group_of level)) (below level unary) left.operators).reads s ≡ Ok (t, r)
    → resumed left ((tails usual (set_of (group_of level)) (below level unary) left.operators).reads s) ≡ total
    → resumed now ((tails usual (set_of (group_of level)) (below level unary) now.operators).reads r) ≡ total
chain_on level a left now s t r total e here one so_far =
    rw e (chain_goes_on usual (set_of (group_of level)) (fine_below level a) left s t r total here one so_far)
