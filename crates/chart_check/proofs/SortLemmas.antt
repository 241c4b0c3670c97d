-- An expression without faults has a sort.
use Rattle.std.proofs.Common.{◌≡◌, ℕ, ◌<◌, nat_lt, true, false, List, [], ◌++◌, length, map, Option, Some, Ok, Err}
use Rattle.std.proofs.Common.{Bool, cond, slice_get, refl, sym, ap, subst, unsigned_abs, arith}
use Rattle.std.proofs.lemmas.Bool.Decides.{nat_tests}
use Rattle.token_grammar.specs.declared.token.Span.{Span}
use Rattle.chart_tree.specs.declared.expr.UnWord.{UnWord}
use Rattle.chart_tree.specs.declared.expr.UnWord.TheVariants as unary
use Rattle.chart_tree.specs.declared.expr.BinWord.{BinWord}
use Rattle.active_config.specs.Tree.{state_count}
use Rattle.actions.specs.declared.names.Sort.{Sort}
use Rattle.actions.specs.declared.names.Sort.TheVariants as sorts
use Rattle.actions.specs.declared.names.Var.{Var}
use Rattle.actions.specs.declared.sort.ExprSort.{ExprSort}
use Rattle.actions.specs.declared.sort.ExprSort.TheVariants as gives
use Rattle.actions.specs.declared.sort.ExprFault.TheVariants as wrong
use Rattle.actions.specs.Sorts.{scope_of, Sorted, with_sort, binary_sort, datum_sort, state_sort, sort_of}
use Rattle.actions.specs.Sorts.{least_size, magnitude_bits}
use Rattle.checked_chart.specs.Expressions.{LiteralsFit}
use Rattle.resolved_tree.specs.Resolved.{Expr, Lit, Flag, Name, Active, Unary, Binary, Resolved}
use Rattle.resolved_tree.specs.Plain.{plain_expr, op_of, signed_literal}
use Rattle.resolved_tree.specs.Promise.{IsInRange}
use Rattle.chart_types.specs.Types.{sort_at, unary_sort, operator_fault, unary_fault, binary_fault, expr_faults}
use Rattle.chart_structure.proofs.MapLemmas.{into_map}
use Rattle.chart_check.proofs.ListLemmas.{neither, there}
use Rattle.chart_check.proofs.LiteralLemmas.{literal_fits, literal_sorted}

-- an expression has a sort
abbrev pub HasSort : Sorted → Type 0
HasSort s = (sort : ExprSort) × (s ≡ Ok sort)

-- ---- operators

operator_sorted : (s : Sorted) (at : Span) → operator_fault s at ≡ [] → HasSort s
operator_sorted (Ok sort) at none = (sort, refl)
operator_sorted (Err fault) at none = absurd cc

unary_sorted : (word : UnWord) (s : Sorted) (at : Span) → HasSort s → unary_fault word s at ≡ []
    → HasSort (with_sort s (unary_sort word))
unary_sorted word (Ok sort) at h none = operator_sorted (unary_sort word sort) at none
unary_sorted word (Err fault) at h none = absurd (let e = h.1 in cc)

binary_sorted : (word : BinWord) (s t : Sorted) (at : Span) → HasSort s → HasSort t → binary_fault word s t at ≡ []
    → HasSort (with_sort s (λ left. with_sort t (binary_sort (op_of word) left)))
binary_sorted word (Ok left) (Ok right) at hs ht none = operator_sorted (binary_sort (op_of word) left right) at none
binary_sorted word (Ok left) (Err fault) at hs ht none = absurd (let e = ht.1 in cc)
binary_sorted word (Err fault) t at hs ht none = absurd (let e = hs.1 in cc)

-- ---- data and states

datum_sorted : (sort : Sort) → HasSort (datum_sort (Some sort))
datum_sorted sorts.Flag = (gives.Flag, refl)
datum_sorted (sorts.Number scale) = (gives.Number scale.frac (magnitude_bits scale), refl)

declared_sorted : (vars : List Var) (v : ℕ) → v < length vars
    → HasSort (datum_sort (slice_get (map (λ (v : Var). v.sort) vars) v))
declared_sorted vars v lt =
    let decl = there vars v lt in
    let is = into_map (λ (v : Var). v.sort) vars v decl.0 decl.1 in
    subst (λ (o : Option Sort). HasSort (datum_sort o)) (sym is) (datum_sorted decl.0.sort)

state_sorted : (states s : ℕ) → s < states → state_sort states s ≡ Ok gives.Flag
state_sorted states s lt =
    let within : nat_lt s states ≡ true = grind (arith, nat_tests) in
    ap (λ (b : Bool). cond b (Ok gives.Flag) (Err wrong.Range)) within

-- ---- expressions

-- the literals of an expression in range are in range
pub literals_fit : (r : Resolved) (e : Expr) → IsInRange r e → LiteralsFit (plain_expr e)
literals_fit r (Lit lit at) h = literal_fits lit h
literals_fit r (Flag value at) h = tt
literals_fit r (Name v) h = tt
literals_fit r (Active s at) h = tt
literals_fit r (Unary unary.Neg e at) h = literals_fit r e h
literals_fit r (Unary unary.Not e at) h = literals_fit r e h
literals_fit r (Binary word a b at) h = (literals_fit r a h.0, literals_fit r b h.1)

-- an expression in range without faults has a sort
pub expr_sorted : (r : Resolved) → length r.names.states ≡ state_count r.tree → (e : Expr) → IsInRange r e
    → expr_faults (scope_of r.names) e ≡ [] → HasSort (sort_at (scope_of r.names) e)
unfolding sort_of
expr_sorted r named (Lit lit at) h none =
    let n = signed_literal false lit in
    (gives.Number n.frac (least_size (unsigned_abs n.mantissa)), literal_sorted n (literal_fits lit h))
expr_sorted r named (Flag value at) h none = (gives.Flag, refl)
expr_sorted r named (Name v) h none = declared_sorted r.names.vars v.number h
expr_sorted r named (Active s at) h none =
    (gives.Flag, state_sorted (length r.names.states) s.number (omega (arith, h, named)))
expr_sorted r named (Unary unary.Neg e at) h none =
    let s = sort_at (scope_of r.names) e in
    let parts = neither (expr_faults (scope_of r.names) e) (unary_fault unary.Neg s at) none in
    unary_sorted unary.Neg s at (expr_sorted r named e h parts.0) parts.1
expr_sorted r named (Unary unary.Not e at) h none =
    let s = sort_at (scope_of r.names) e in
    let parts = neither (expr_faults (scope_of r.names) e) (unary_fault unary.Not s at) none in
    unary_sorted unary.Not s at (expr_sorted r named e h parts.0) parts.1
expr_sorted r named (Binary word a b at) h none =
    let s = sort_at (scope_of r.names) a in
    let t = sort_at (scope_of r.names) b in
    let fault = binary_fault word s t at in
    let parts = neither (expr_faults (scope_of r.names) a ++ expr_faults (scope_of r.names) b) fault none in
    let inner = neither (expr_faults (scope_of r.names) a) (expr_faults (scope_of r.names) b) parts.0 in
    binary_sorted word s t at (expr_sorted r named a h.0 inner.0) (expr_sorted r named b h.1 inner.1) parts.1
