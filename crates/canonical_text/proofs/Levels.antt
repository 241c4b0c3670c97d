-- The levels of expressions by their precedence: what is spelled at one is spelled at each above it.
use Rattle.std.proofs.Common.{◌≡◌, ℕ, zero, suc, ◌+◌, ◌-◌, ◌≤◌, ◌<◌, List, ◌∷◌, ◌++◌, refl, arith, subst}
use Rattle.flow_base.specs.declared.chart_limits.TheConstants.{OPERATOR_LIMIT}
use Rattle.token_grammar.specs.declared.token.Kind.TheVariants as kinds
use Rattle.token_grammar.specs.Grammar.{is}
use Rattle.chart_tree.specs.declared.expr.BinWord.{BinWord}
use Rattle.chart_tree.specs.declared.expr.BinWord.TheVariants as bin_words
use Rattle.chart_tree.specs.Trees.{Binary}
use Rattle.chart_grammar.specs.Limits.{usual}
use Rattle.chart_grammar.specs.Expressions.{Operand, Operands, product_heads, sum_heads, comparison_heads}
use Rattle.chart_grammar.specs.Expressions.{nested_heads, plain, product, sum, comparison, conjunction, disjunction}
use Rattle.chart_grammar.specs.Expressions.{unary}
use Rattle.chart_print.specs.Expressions.{bin_kind, precedence, left_least, right_least}
use Rattle.chart_print.specs.Places.{nowhere}
use Rattle.canonical_text.specs.Words.{Word, WordsSpell}
use Rattle.canonical_text.proofs.Words.{keyword}
use Rattle.canonical_text.proofs.Spelled.{spell_right}
use Rattle.canonical_text.proofs.ChainsSpelled.{unplaced, chain_alone, pair_alone, chain_binary, pair_binary}

-- the operands of a precedence, over those that have no operator between two others
abbrev pub level : ℕ → Operands → Operands
level zero operand = disjunction usual operand
level (suc zero) operand = disjunction usual operand
level (suc (suc zero)) operand = conjunction usual operand
level (suc (suc (suc zero))) operand = comparison usual operand
level (suc (suc (suc (suc zero)))) operand = sum usual operand
level (suc (suc (suc (suc (suc zero))))) operand = product usual operand
level (suc (suc (suc (suc (suc (suc p)))))) operand = operand

-- what is spelled at a level is spelled at the next looser one
level_up : (p n : ℕ) (operand : Operands) {w : List Word} {y : Operand}
    → WordsSpell (level (suc p) operand n) unplaced w y
    → WordsSpell (level p operand n) unplaced w y
unfolding disjunction conjunction comparison sum product
level_up zero n operand s = s
level_up (suc zero) n operand s = chain_alone (is kinds.OrOr) (conjunction usual operand) n s
level_up (suc (suc zero)) n operand s = chain_alone (is kinds.AndAnd) (comparison usual operand) n s
level_up (suc (suc (suc zero))) n operand s = pair_alone comparison_heads (sum usual operand) n s
level_up (suc (suc (suc (suc zero)))) n operand s = chain_alone sum_heads (product usual operand) n s
level_up (suc (suc (suc (suc (suc zero))))) n operand s = chain_alone product_heads operand n s
level_up (suc (suc (suc (suc (suc (suc p)))))) n operand s = s

-- what is spelled at a level is spelled at each level above it
pub levels_up : (p q n : ℕ) (operand : Operands) {w : List Word} {y : Operand} → p ≤ q
    → WordsSpell (level q operand n) unplaced w y
    → WordsSpell (level p operand n) unplaced w y
levels_up p q n operand {w} {y} h s = climb (q - p) q (omega arith) s
  where
    climb : (k q : ℕ) → q ≡ k + p → WordsSpell (level q operand n) unplaced w y
        → WordsSpell (level p operand n) unplaced w y
    climb zero q e s =
        subst (λ (z : ℕ). WordsSpell (level z operand n) unplaced w y) (let f : q ≡ p = omega arith in f) s
    climb (suc k) q e s =
        climb k (k + p) refl
        (level_up (k + p) n operand
        (subst (λ (z : ℕ). WordsSpell (level z operand n) unplaced w y)
        (let f : q ≡ suc (k + p) = omega arith in f) s))

-- an operator between two operands is spelled at its own level
pub level_binary : (word : BinWord) (operand : Operands) (n : ℕ) {a b : List Word} {y z : Operand}
    → y.operators < OPERATOR_LIMIT
    → WordsSpell (level (left_least word) operand n) unplaced a y
    → WordsSpell (level (right_least word) operand (y.operators + 1)) unplaced b z
    → WordsSpell (level (precedence word) operand n) unplaced (a ++ (keyword (bin_kind word) ∷ b))
    (record { expr = Binary word y.expr z.expr nowhere; operators = z.operators })
unfolding disjunction conjunction comparison sum product
level_binary bin_words.Or operand n room l r =
    chain_binary (is kinds.OrOr) (conjunction usual operand) kinds.OrOr n refl room l r
level_binary bin_words.And operand n room l r =
    chain_binary (is kinds.AndAnd) (comparison usual operand) kinds.AndAnd n refl room l r
level_binary bin_words.Eq operand n room l r =
    pair_binary comparison_heads (sum usual operand) kinds.EqualEqual n refl room l r
level_binary bin_words.Ne operand n room l r =
    pair_binary comparison_heads (sum usual operand) kinds.NotEqual n refl room l r
level_binary bin_words.Lt operand n room l r =
    pair_binary comparison_heads (sum usual operand) kinds.Less n refl room l r
level_binary bin_words.Le operand n room l r =
    pair_binary comparison_heads (sum usual operand) kinds.LessEqual n refl room l r
level_binary bin_words.Gt operand n room l r =
    pair_binary comparison_heads (sum usual operand) kinds.Greater n refl room l r
level_binary bin_words.Ge operand n room l r =
    pair_binary comparison_heads (sum usual operand) kinds.GreaterEqual n refl room l r
level_binary bin_words.Add operand n room l r =
    chain_binary sum_heads (product usual operand) kinds.Plus n refl room l r
level_binary bin_words.Sub operand n room l r =
    chain_binary sum_heads (product usual operand) kinds.Minus n refl room l r
level_binary bin_words.Mul operand n room l r = chain_binary product_heads operand kinds.Star n refl room l r
level_binary bin_words.Div operand n room l r = chain_binary product_heads operand kinds.Slash n refl room l r

-- what has no operator is spelled at the level of tightest precedence
pub unary_plain : (d n : ℕ) {w : List Word} {y : Operand} → WordsSpell (plain usual n) unplaced w y
    → WordsSpell (unary usual d n) unplaced w y
unfolding unary
unary_plain zero n s = spell_right nested_heads s
unary_plain (suc d) n s = spell_right nested_heads s
