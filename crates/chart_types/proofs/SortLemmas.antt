-- Which expressions have a sort.
use Rattle.std.proofs.Common.{◌≡◌, ◌<◌, [], Ok, Err, unsigned_abs, refl, sym, ap, ◌∙◌, subst}
use Rattle.std.specs.Result.{IsOkAnd}
use Rattle.token_grammar.specs.declared.token.Span.{Span}
use Rattle.fixed_point.specs.declared.num.Num.{Num}
use Rattle.fixed_point.specs.declared.rounding.TheConstants.{READ_LIMIT}
use Rattle.fixed_point.specs.Reading.{frac_of}
use Rattle.actions.specs.declared.sort.ExprSort.{ExprSort}
use Rattle.actions.specs.Sorts.{Scope, Sorted, sort_of, with_sort, binary_sort, literal_sort}
use Rattle.chart_tree.specs.declared.name.LitText.{LitText}
use Rattle.chart_tree.specs.declared.expr.UnWord.{UnWord}
use Rattle.chart_tree.specs.declared.expr.BinWord.{BinWord}
use Rattle.resolved_tree.specs.Plain.{number_or_zero, signed_literal, op_of}
use Rattle.resolved_tree.specs.Promise.{IsLiteral}
use Rattle.resolved_tree.specs.Resolved.{Expr, Lit, Flag, Name, Active, Unary, Binary}
use Rattle.chart_types.specs.Literals.{IsOfLiteral}
use Rattle.chart_types.specs.Types.{sort_at, unary_sort, operator_fault, unary_fault, binary_fault, expr_faults}
use Rattle.chart_types.proofs.FaultLemmas.{sort_at_unary, sort_at_binary}
use Rattle.chart_types.proofs.LiteralLemmas.{read_small, least_size_small, number_sorted}

-- ---- literals

-- a literal in range has a sort
pub literal_sorted : (c : Scope) (lit : LitText) (at : Span) → IsLiteral lit
    → IsOkAnd (sort_at c (Lit lit at)) IsOfLiteral
unfolding sort_of signed_literal
literal_sorted c lit at h =
    let read = read_small lit.units lit.places (frac_of lit.q lit.units lit.places) h.number h.denoted in
    let small : unsigned_abs h.number.mantissa < READ_LIMIT =
    subst (λ m. unsigned_abs m < READ_LIMIT) (sym read.1) read.2 in
    let sorted = number_sorted h.number small h.short in
    subst (λ (n : Num). IsOkAnd (literal_sort n) IsOfLiteral) (sym (ap number_or_zero h.denoted))
    (subst (λ o. IsOkAnd o IsOfLiteral) (sym sorted) (h.short, least_size_small (unsigned_abs h.number.mantissa) small))

-- ---- faults

-- an operand of what has a sort has a sort, and the operator has no fault
unary_faultless : (word : UnWord) (s : Sorted) (at : Span) (sort : ExprSort)
    → with_sort s (unary_sort word) ≡ Ok sort → IsOkAnd s (λ operand. unary_fault word s at ≡ [])
unary_faultless word (Ok operand) at sort e = ap (λ (o : Sorted). operator_fault o at) e
unary_faultless word (Err fault) at sort e = absurd cc

binary_faultless : (word : BinWord) (s t : Sorted) (at : Span) (sort : ExprSort)
    → with_sort s (λ left. with_sort t (binary_sort (op_of word) left)) ≡ Ok sort
    → IsOkAnd s (λ left. IsOkAnd t (λ right. binary_fault word s t at ≡ []))
binary_faultless word (Ok left) (Ok right) at sort e = ap (λ (o : Sorted). operator_fault o at) e
binary_faultless word (Ok left) (Err fault) at sort e = absurd cc
binary_faultless word (Err fault) t at sort e = absurd cc

-- what follows from a sort
of_sort : (s : Sorted) (P : ExprSort → Type 0) {Q : Type 0} → IsOkAnd s P
    → ((sort : ExprSort) → s ≡ Ok sort → P sort → Q) → Q
of_sort (Ok sort) P h then = then sort refl h
of_sort (Err fault) P h then = absurd h

-- an expression that has a sort has no fault
pub faultless : (c : Scope) (e : Expr) (sort : ExprSort) → sort_at c e ≡ Ok sort → expr_faults c e ≡ []
faultless c (Lit lit at) sort h = refl
faultless c (Flag value at) sort h = refl
faultless c (Name v) sort h = refl
faultless c (Active s at) sort h = refl
faultless c (Unary word e at) sort h =
    of_sort (sort_at c e) _ (unary_faultless word (sort_at c e) at sort (sym (sort_at_unary c word e at) ∙ h))
    (λ operand is none. rw (faultless c e operand is) none)
faultless c (Binary word l r at) sort h =
    of_sort (sort_at c l) _
    (binary_faultless word (sort_at c l) (sort_at c r) at sort (sym (sort_at_binary c word l r at) ∙ h))
    (λ left is rest. of_sort (sort_at c r) _ rest
    (λ right that none. rw (faultless c l left is, faultless c r right that) none))
