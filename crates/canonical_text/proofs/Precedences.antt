-- The precedence of the operators of each level.
use Rattle.std.proofs.Common.{◌≡◌, ℕ, ◌≤◌, arith, true, inl, inr, refl, sym, subst}
use Rattle.std.proofs.lemmas.Bool.{or_cases}
use Rattle.token_grammar.specs.declared.token.Kind.{Kind}
use Rattle.token_grammar.specs.declared.token.Kind.TheVariants as kinds
use Rattle.token_grammar.specs.Grammar.{is}
use Rattle.token_grammar.proofs.Tokens.{kind_eq-true}
use Rattle.chart_tree.specs.declared.expr.BinWord.{BinWord}
use Rattle.chart_tree.specs.declared.expr.BinWord.TheVariants as bin_words
use Rattle.chart_grammar.specs.Expressions.{bin_word, product_heads, sum_heads, comparison_heads}
use Rattle.chart_print.specs.Expressions.{precedence, left_least, right_least}

-- the precedence of one operator is that of its kind
of_kind : (p : ℕ) (k j : Kind) → precedence (bin_word k) ≡ p → is k j ≡ true → precedence (bin_word j) ≡ p
of_kind p k j e h = subst (λ (z : Kind). precedence (bin_word z) ≡ p) (sym (kind_eq-true j k h)) e

-- the operators of products have the precedence 5
pub product_precedence : (k : Kind) → product_heads k ≡ true → precedence (bin_word k) ≡ 5
product_precedence k h =
    elim (or_cases (is kinds.Star k) (is kinds.Slash k) h) [
      | inl a ↦ of_kind 5 kinds.Star k refl a
      | inr a ↦ of_kind 5 kinds.Slash k refl a
    ]

-- those of sums 4
pub sum_precedence : (k : Kind) → sum_heads k ≡ true → precedence (bin_word k) ≡ 4
sum_precedence k h =
    elim (or_cases (is kinds.Plus k) (is kinds.Minus k) h) [
      | inl a ↦ of_kind 4 kinds.Plus k refl a
      | inr a ↦ of_kind 4 kinds.Minus k refl a
    ]

-- those of comparisons 3
pub comparison_precedence : (k : Kind) → comparison_heads k ≡ true → precedence (bin_word k) ≡ 3
comparison_precedence k h =
    elim (or_cases (is kinds.EqualEqual k) _ h) [
      | inl a ↦ of_kind 3 kinds.EqualEqual k refl a
      | inr b ↦ elim (or_cases (is kinds.NotEqual k) _ b) [
        | inl a ↦ of_kind 3 kinds.NotEqual k refl a
        | inr c ↦ elim (or_cases (is kinds.Less k) _ c) [
          | inl a ↦ of_kind 3 kinds.Less k refl a
          | inr d ↦ elim (or_cases (is kinds.LessEqual k) _ d) [
            | inl a ↦ of_kind 3 kinds.LessEqual k refl a
            | inr e ↦ elim (or_cases (is kinds.Greater k) (is kinds.GreaterEqual k) e) [
              | inl a ↦ of_kind 3 kinds.Greater k refl a
              | inr a ↦ of_kind 3 kinds.GreaterEqual k refl a
            ]
          ]
        ]
      ]
    ]

-- that of conjunctions 2
pub conjunction_precedence : (k : Kind) → is kinds.AndAnd k ≡ true → precedence (bin_word k) ≡ 2
conjunction_precedence k h = of_kind 2 kinds.AndAnd k refl h

-- that of disjunctions 1
pub disjunction_precedence : (k : Kind) → is kinds.OrOr k ≡ true → precedence (bin_word k) ≡ 1
disjunction_precedence k h = of_kind 1 kinds.OrOr k refl h

-- no left operand needs more than the tightest precedence
pub left_low : (word : BinWord) → left_least word ≤ 6
left_low bin_words.Or = omega arith
left_low bin_words.And = omega arith
left_low bin_words.Eq = omega arith
left_low bin_words.Ne = omega arith
left_low bin_words.Lt = omega arith
left_low bin_words.Le = omega arith
left_low bin_words.Gt = omega arith
left_low bin_words.Ge = omega arith
left_low bin_words.Add = omega arith
left_low bin_words.Sub = omega arith
left_low bin_words.Mul = omega arith
left_low bin_words.Div = omega arith

-- nor does a right one
pub right_low : (word : BinWord) → right_least word ≤ 6
right_low bin_words.Or = omega arith
right_low bin_words.And = omega arith
right_low bin_words.Eq = omega arith
right_low bin_words.Ne = omega arith
right_low bin_words.Lt = omega arith
right_low bin_words.Le = omega arith
right_low bin_words.Gt = omega arith
right_low bin_words.Ge = omega arith
right_low bin_words.Add = omega arith
right_low bin_words.Sub = omega arith
right_low bin_words.Mul = omega arith
right_low bin_words.Div = omega arith
