-- Operands, and the levels of operators between them.
use Rattle.std.proofs.Common.{◌≡◌, ℕ, ◌<◌, true, false, List, Ok, Err, Result, None, OnOk, refl, ◌∙◌, arith}
use Rattle.flow_base.specs.declared.chart_limits.TheConstants.{OPERATOR_LIMIT}
use Rattle.token_grammar.specs.declared.token.Kind.TheVariants as kinds
use Rattle.token_grammar.specs.declared.token.Token.{Token}
use Rattle.token_grammar.specs.declared.fault.Thing.TheVariants as things
use Rattle.token_grammar.specs.declared.fault.ReadError.{ReadError}
use Rattle.token_grammar.specs.declared.fault.ReadError.TheVariants as errors
use Rattle.token_grammar.specs.Token.{Lexeme, lexeme, Fails, Gives, Outcome}
use Rattle.token_grammar.specs.Grammar.{and_then, heads, token}
use Rattle.token_grammar.proofs.Good.{Set, nothing}
use Rattle.token_grammar.proofs.Fine.{Fine}
use Rattle.chart_tree.specs.declared.name.NameText.{NameText}
use Rattle.chart_tree.specs.Trees.{Name}
use Rattle.chart_grammar.specs.Limits.{usual, one_more}
use Rattle.chart_grammar.specs.Words.{name, name_of}
use Rattle.chart_grammar.specs.Expressions.{Operand, Tail, Operands, operator, datum, tail, tails, with_tail}
use Rattle.chart_grammar.specs.Expressions.{product_heads}
use Rattle.chart_grammar.proofs.ChainLoop.{resumed, chain_goes_on}
use Rattle.chart_grammar.proofs.ExpressionLaws.{operand_heads, sum_more, comparison_more, conjunction_more}
use Rattle.chart_grammar.proofs.ExpressionLaws.{fine_product, fine_sum, fine_comparison, fine_conjunction}
use Rattle.chart_reader.specs.declared.operands.Level.{Level}
use Rattle.chart_reader.specs.declared.operands.Level.TheVariants as levels
use Rattle.chart_reader.specs.Groups.{set_of}
use Rattle.chart_reader.specs.Operands.{group_of, below}
use Rattle.chart_reader.proofs.RefusalLemmas.{one_of_room}

-- ---- operators

-- where one more isn't refused, there are few so far
few_operators : (before : ℕ) → one_more usual things.Operators before ≡ None → before < OPERATOR_LIMIT
few_operators before h = grind arith

-- an operator that was read is one of OPERATOR_LIMIT at most
pub operator_room : (set : Set) (before : ℕ) (s r : List Lexeme) (result : Result Token ReadError)
    → Gives lexeme result r ((operator usual set before).reads s) → OnOk result (before < OPERATOR_LIMIT)
unfolding operator
operator_room set before s r (Ok t) e = few_operators before (one_of_room set _ s r (Ok t) e)
operator_room set before s r (Err e) read = tt

-- ---- the value of a datum is a name

-- what reading a name gives as an operand
abbrev datum_of : ℕ → NameText → List Lexeme → Outcome Operand
datum_of n x r = Ok (record { expr = Name x; operators = n }, r)

-- a token as a name, and then as an operand
named : (n : ℕ) (read : Outcome Lexeme)
    → and_then read (λ t r. datum_of n (name_of t) r) ≡ and_then (and_then read (λ t r. Ok (name_of t, r))) (datum_of n)
named n (Ok y) = refl
named n (Err e) = refl

-- a datum is read as its name
datum_named : (n : ℕ) (s : List Lexeme) → (datum n).reads s ≡ and_then (name.reads s) (datum_of n)
unfolding datum name
datum_named n s = named n ((token kinds.Name).reads s)

-- a name was read
pub datum_read : (n : ℕ) (s : List Lexeme) (x : NameText) (r : List Lexeme) → name.reads s ≡ Ok (x, r)
    → (datum n).reads s ≡ Ok (record { expr = Name x; operators = n }, r)
datum_read n s x r e = datum_named n s ∙ rw e refl

-- none was
pub datum_fails : (n : ℕ) (err : ReadError) (s r : List Lexeme) → Fails err r (name.reads s)
    → Fails err r ((datum n).reads s)
datum_fails n errors.Memory s r e = tt
datum_fails n (errors.Fault f) s r e = datum_named n s ∙ rw e refl

-- ---- levels

-- what goes on with an operand of a level
abbrev pub more_below : Level → Set
more_below levels.Products = nothing
more_below levels.Sums = product_heads
more_below levels.Comparisons = sum_more
more_below levels.Conjunctions = comparison_more
more_below levels.Disjunctions = conjunction_more

-- operands of a level read as they spell, where those below all levels do
pub fine_below : (level : Level) {unary : Operands} → ((n : ℕ) → Fine (unary n) operand_heads false nothing)
    → (n : ℕ) → Fine (below level unary n) operand_heads false (more_below level)
fine_below levels.Products a n = a n
fine_below levels.Sums a n = fine_product usual a n
fine_below levels.Comparisons a n = fine_sum usual a n
fine_below levels.Conjunctions a n = fine_comparison usual a n
fine_below levels.Disjunctions a n = fine_conjunction usual a n

-- one more operator with its operand was read, and joined to what stands before it
pub chain_on : (level : Level) {unary : Operands} → ((n : ℕ) → Fine (unary n) operand_heads false nothing)
    → (left now : Operand) (s : List Lexeme) (t : Tail) (r : List Lexeme) (total : Outcome Operand)
    → now ≡ with_tail left t → heads (set_of (group_of level)) s ≡ true
    → (tail usual (set_of (group_of level)) (below level unary) left.operators).reads s ≡ Ok (t, r)
    → resumed left ((tails usual (set_of (group_of level)) (below level unary) left.operators).reads s) ≡ total
    → resumed now ((tails usual (set_of (group_of level)) (below level unary) now.operators).reads r) ≡ total
chain_on level a left now s t r total e here one so_far =
    rw e (chain_goes_on usual (set_of (group_of level)) (fine_below level a) left s t r total here one so_far)
