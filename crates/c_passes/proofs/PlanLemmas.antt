-- A plan that is checked for a struct of a shape.
use Rattle.std.proofs.Common.{◌≡◌, ℕ, List, length, subst}
use Rattle.c_subset.specs.declared.trees.CType.{CType}
use Rattle.c_functions.specs.Plans.{Shape, init_function, start_function, react_function}
use Rattle.c_decided.specs.Decided.{Plan}
use Rattle.c_decided_runs.specs.Checks.{IsChecked, ShapeIsChecked}
use Rattle.c_passes.specs.Fields.{struct_types}

pub checked_for : (K : Shape) (P : Plan) (init start react vars : ℕ) (types : List CType) → init ≡ init_function K
    → start ≡ start_function K → react ≡ react_function K → vars ≡ length K.names.vars → types ≡ struct_types K
    → IsChecked P init start react vars types → ShapeIsChecked K P
checked_for K P init start react vars types is_init is_start is_react are_vars are_types h =
    let first : IsChecked P (init_function K) start react vars types =
    subst (λ (n : ℕ). IsChecked P n start react vars types) is_init h in
    let second : IsChecked P (init_function K) (start_function K) react vars types =
    subst (λ (n : ℕ). IsChecked P (init_function K) n react vars types) is_start first in
    let third : IsChecked P (init_function K) (start_function K) (react_function K) vars types =
    subst (λ (n : ℕ). IsChecked P (init_function K) (start_function K) n vars types) is_react second in
    let fourth : IsChecked P (init_function K) (start_function K) (react_function K) (length K.names.vars) types =
    subst (λ (n : ℕ). IsChecked P (init_function K) (start_function K) (react_function K) n types) are_vars third in
    subst (λ (ts : List CType). IsChecked P (init_function K) (start_function K) (react_function K)
    (length K.names.vars) ts) are_types fourth
