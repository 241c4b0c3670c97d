-- How many operators and parentheses an expression has as an operand.
use Rattle.std.proofs.Common.{◌≡◌, ℕ, ◌+◌, ◌≤◌, ltb, Bool, false, true, refl, arith, inl, inr}
use Rattle.std.proofs.lemmas.Bool.{cases_Bool, ltb-true, lt-ltb, le-ltb}
use Rattle.token_grammar.specs.declared.token.Span.{Span}
use Rattle.chart_tree.specs.declared.expr.UnWord.{UnWord}
use Rattle.chart_tree.specs.declared.expr.BinWord.{BinWord}
use Rattle.chart_tree.specs.declared.expr.BinWord.TheVariants as bin_words
use Rattle.chart_tree.specs.Trees.{Expr, Lit, Flag, Name, Active, Unary, Binary}
use Rattle.chart_print.specs.Expressions.{precedence, expr_precedence, left_least, right_least}
use Rattle.canonical_text.specs.Sizes.{enclosing, operators_in}

-- the operators and parentheses of an operand, which is enclosed where its precedence is below that
abbrev pub cost : ℕ → Expr → ℕ
cost p e = enclosing (ltb (expr_precedence e) p) (operators_in e)

-- parentheses take no operator away
at_least : (b : Bool) (n : ℕ) → n ≤ enclosing b n
at_least true n = omega arith
at_least false n = omega arith

-- and add one at most
at_most : (b : Bool) (n : ℕ) → enclosing b n ≤ n + 1
at_most true n = omega arith
at_most false n = omega arith

-- a looser place needs parentheses less often
wider : (q p r n : ℕ) → p ≤ r → enclosing (ltb q p) n ≤ enclosing (ltb q r) n
wider q p r n h =
    elim (cases_Bool (ltb q p)) [
      | inl low ↦
          let below = ltb-true q p low in
          rw (low, lt-ltb q r (omega arith)) (omega arith)
      | inr high ↦ rw high (at_least (ltb q r) n)
    ]

-- no operator has the precedence 0
binary_precedence_some : (word : BinWord) → 1 ≤ precedence word
binary_precedence_some bin_words.Or = omega arith
binary_precedence_some bin_words.And = omega arith
binary_precedence_some bin_words.Eq = omega arith
binary_precedence_some bin_words.Ne = omega arith
binary_precedence_some bin_words.Lt = omega arith
binary_precedence_some bin_words.Le = omega arith
binary_precedence_some bin_words.Gt = omega arith
binary_precedence_some bin_words.Ge = omega arith
binary_precedence_some bin_words.Add = omega arith
binary_precedence_some bin_words.Sub = omega arith
binary_precedence_some bin_words.Mul = omega arith
binary_precedence_some bin_words.Div = omega arith

-- nor has an expression
pub precedence_some : (e : Expr) → 1 ≤ expr_precedence e
precedence_some (Lit lit at) = omega arith
precedence_some (Flag value at) = omega arith
precedence_some (Name name) = omega arith
precedence_some (Active path at) = omega arith
precedence_some (Unary word e at) = omega arith
precedence_some (Binary word l r at) = binary_precedence_some word

-- it is no less where a higher precedence is wanted
pub cost-wider : (p r : ℕ) (e : Expr) → p ≤ r → cost p e ≤ cost r e
cost-wider p r e h = wider (expr_precedence e) p r (operators_in e) h

-- parentheses are one more at most
pub cost-most : (p : ℕ) (e : Expr) → cost p e ≤ operators_in e + 1
cost-most p e = at_most (ltb (expr_precedence e) p) (operators_in e)

-- what binds tightly enough isn't enclosed
cost-bare : (p : ℕ) (e : Expr) → p ≤ expr_precedence e → cost p e ≡ operators_in e
cost-bare p e h = rw (le-ltb (expr_precedence e) p h) refl

-- as a whole it isn't
pub cost-whole : (e : Expr) → cost 1 e ≡ operators_in e
cost-whole e = cost-bare 1 e (precedence_some e)

-- an operator between two operands
pub cost-binary : (word : BinWord) (l r : Expr) (at : Span)
    → cost (precedence word) (Binary word l r at) ≡ cost (left_least word) l + cost (right_least word) r + 1
cost-binary word l r at = cost-bare (precedence word) (Binary word l r at) (omega arith)

-- an operator before its operand
pub cost-unary : (word : UnWord) (e : Expr) (at : Span) → cost 6 (Unary word e at) ≡ cost 6 e + 1
cost-unary word e at = refl
