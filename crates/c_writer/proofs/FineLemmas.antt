-- What the writing of expressions relies on.
use Rattle.std.proofs.Common.{◌≡◌, ◌≤◌, ℕ, true, false, Option, Some, None, rules, arith}
use Rattle.std.specs.Prelude.{IsOk, Ok, Err, not, nat_lt, slice_get}
use Rattle.std.specs.Option.{option_map_or}
use Rattle.std.proofs.lemmas.Bool.Decides.{nat_tests}
use Rattle.std.proofs.lemmas.Bool.{and_parts}
use Rattle.flow_base.specs.declared.chart_limits.TheConstants.{OPERATOR_LIMIT}
use Rattle.actions.specs.declared.names.Var.{Var}
use Rattle.actions.specs.declared.sort.ExprSort.TheVariants as sorts
use Rattle.actions.specs.Exprs.{Expr}
use Rattle.actions.specs.Sorts.{Sorted, scope_of, sort_of}
use Rattle.checked_chart.specs.Expressions.{operator_count}
use Rattle.code_language.specs.Instrs.{Test, Assign}
use Rattle.code_language.specs.WellFormed.{cond_typed, instr_typed, has_literals, is_flag, is_plain, takes}
use Rattle.c_functions.specs.Plans.{Shape}
use Rattle.c_writer.specs.Fine.{known_in}

-- an expression has a sort and at most so many operators
pub record CanBeSorted (K : Shape) (x : Expr) : Type 0 where
  pub sorted : IsOk (sort_of (scope_of K.names) x)
  pub operators : operator_count x ≤ OPERATOR_LIMIT

few : (x : Expr) → is_plain x ≡ true → operator_count x ≤ OPERATOR_LIMIT
few x e =
    let h = (and_parts (not (nat_lt OPERATOR_LIMIT (operator_count x))) (has_literals x) e).0 in
    grind (arith, nat_tests)

flag_sorted : (r : Sorted) → is_flag r ≡ true → IsOk r
flag_sorted (Ok sorts.Flag) e = search rules
flag_sorted (Ok (sorts.Number frac size)) e = absurd cc
flag_sorted (Err fault) e = absurd cc

takes_sorted : (o : Option Var) (r : Sorted) → option_map_or (λ decl. takes decl r) o false ≡ true → IsOk r
takes_sorted None r e = absurd cc
takes_sorted (Some decl) (Ok given) e = search rules
takes_sorted (Some decl) (Err fault) e = absurd cc

-- that of a test
pub test_sorted : (K : Shape) (x : Expr) → cond_typed (known_in K) (Test x) ≡ true → CanBeSorted K x
unfolding cond_typed
test_sorted K x e =
    let h = and_parts (is_plain x) (is_flag (sort_of (scope_of K.names) x)) e in
    record { sorted = flag_sorted (sort_of (scope_of K.names) x) h.1; operators = few x h.0 }

-- that of an assignment
pub assigned_sorted : (K : Shape) (v : ℕ) (x : Expr) → instr_typed (known_in K) (Assign v x) ≡ true → CanBeSorted K x
unfolding instr_typed
assigned_sorted K v x e =
    let r = sort_of (scope_of K.names) x in
    let h = and_parts (is_plain x) (option_map_or (λ decl. takes decl r) (slice_get K.names.vars v) false) e in
    record { sorted = takes_sorted (slice_get K.names.vars v) r h.1; operators = few x h.0 }
