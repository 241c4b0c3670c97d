-- Assignments and tests of well-formed code can be carried out, and keep a world fitting.
use Rattle.std.proofs.Common.{◌≡◌, ℕ, zero, suc, ◌<◌, ℤ, true, false, List, [], ◌∷◌, length}
use Rattle.std.proofs.Common.{Option, Some, None, Result, Ok, Err, IfOk, refl, sym, ap, ◌∙◌, subst, arith}
use Rattle.std.specs.Prelude.{slice_get}
use Rattle.std.specs.Option.{option_map_or}
use Rattle.std.proofs.lemmas.Bool.{and_parts}
use Rattle.flow_base.specs.declared.bounds.Bounds.{Bounds}
use Rattle.flow_base.specs.declared.fault.Fault.{Fault}
use Rattle.fixed_point.specs.declared.fitting.Overflow.{Overflow}
use Rattle.actions.specs.declared.expr.Value.{Value}
use Rattle.actions.specs.declared.names.Var.{Var}
use Rattle.actions.specs.declared.sort.ExprSort.{ExprSort}
use Rattle.actions.specs.declared.sort.ExprSort.TheVariants as sorts
use Rattle.actions.specs.declared.sort.ExprFault.{ExprFault}
use Rattle.actions.specs.Data.{Datum, datum, keep, kept, assigned, CanTake}
use Rattle.actions.specs.Exprs.{Expr}
use Rattle.actions.specs.Names.{Names}
use Rattle.actions.specs.Sorts.{Sorted, scope_of, sort_of, assignment_fault}
use Rattle.actions.specs.Values.{Valued, HasSort, value_of}
use Rattle.actions.specs.World.{World}
use Rattle.actions.proofs.AssignmentLemmas.{of_data-assigned, sorts-assigned}
use Rattle.actions.proofs.InputLemmas.{declared_there}
use Rattle.actions.proofs.SizeLemmas.{CanTake-assignable}
use Rattle.actions.proofs.WorldLemmas.{scope_at-fits}
use Rattle.actions.specs.Changes.{with_data, assigned_value, assigned_in}
use Rattle.code_language.specs.Code.{Code}
use Rattle.code_language.specs.Instrs.{Assign, Unless, Test}
use Rattle.code_language.specs.WellFormed.{Known, known_of, is_plain, is_flag, is_assigned, is_fine, takes, cond_typed}
use Rattle.code_language.specs.WellFormed.{instr_typed}
use Rattle.code_language.specs.Moments.{IsWorld, CanAssign, IsFlagIn}
use Rattle.code_language.proofs.ExprFaults.{Gives, Any, value_gives}
use Rattle.code_language.proofs.ValueLemmas.{value_has_sort}

-- what the type of an assignment says
pub record IsTyped (n : Names) (v : ℕ) (e : Expr) : Type 0 where
  pub decl : Var
  pub declared : slice_get n.vars v ≡ Some decl
  pub sort : ExprSort
  pub sorted : sort_of (scope_of n) e ≡ Ok sort
  pub takes : assignment_fault decl.sort sort ≡ None

-- an assignment of well-formed code has such a type
pub assign_typed : (K : Known) (v : ℕ) (e : Expr) → instr_typed K (Assign v e) ≡ true → IsTyped K.names v e
unfolding instr_typed
assign_typed K v e h =
    at (slice_get K.names.vars v) refl
    (and_parts (is_plain e)
    (option_map_or (λ decl. takes decl (sort_of (scope_of K.names) e)) (slice_get K.names.vars v) false) h).1
  where
    none_of : (o : Option ExprFault) → is_fine o ≡ true → o ≡ None
    none_of None h = refl
    none_of (Some fault) h = absurd cc

    given : (decl : Var) → slice_get K.names.vars v ≡ Some decl → (s : Sorted) → sort_of (scope_of K.names) e ≡ s
        → takes decl s ≡ true → IsTyped K.names v e
    given decl is (Ok sort) q h = record {
      decl = decl;
      declared = is;
      sort = sort;
      sorted = q;
      takes = none_of (assignment_fault decl.sort sort)
          (and_parts (is_assigned decl.kind) (is_fine (assignment_fault decl.sort sort)) h).1;
    }
    given decl is (Err fault) q h = absurd cc

    at : (o : Option Var) → slice_get K.names.vars v ≡ o
        → option_map_or (λ decl. takes decl (sort_of (scope_of K.names) e)) o false ≡ true → IsTyped K.names v e
    at None is h = absurd cc
    at (Some decl) is h = given decl is (sort_of (scope_of K.names) e) refl h

-- a test is a flag
pub test_typed : (K : Known) (j : ℕ) (e : Expr) → instr_typed K (Unless j (Test e)) ≡ true
    → sort_of (scope_of K.names) e ≡ Ok sorts.Flag
unfolding instr_typed cond_typed
test_typed K j e h =
    at (sort_of (scope_of K.names) e) (and_parts (is_plain e) (is_flag (sort_of (scope_of K.names) e)) h).1
  where
    at : (s : Sorted) → is_flag s ≡ true → s ≡ Ok sorts.Flag
    at (Ok sorts.Flag) h = refl
    at (Ok (sorts.Number frac size)) h = absurd cc
    at (Err fault) h = absurd cc

-- what is found at a number stands within
pub got_within : {A : Type 0} (xs : List A) (i : ℕ) (x : A) → slice_get xs i ≡ Some x → i < length xs
got_within [] i x e = absurd cc
got_within (y ∷ xs) zero x e = omega arith
got_within (y ∷ xs) (suc i) x e = let h = got_within xs i x e in omega arith

-- an assignment keeps a mantissa, or faults by an overflow of its datum
keep_gives : (n : Names) (vals : List Datum) (v : ℕ) (r : Result ℤ Overflow) → v < length n.vars
    → Gives n Any (keep vals v r)
keep_gives n vals v (Ok m) lt = tt
keep_gives n vals v (Err o) lt = lt

-- so does an assignment of a value
assigned_gives : (n : Names) (vals : List Datum) (v : ℕ) (value : Value) → v < length n.vars
    → Gives n Any (assigned vals v value)
unfolding assigned
assigned_gives n vals v value lt = keep_gives n vals v (kept value (datum vals v)) lt

module _ (k : Code) (b : Bounds) (w : World) (ok : IsWorld k b w) where
  -- an assignment of well-formed code can be carried out in the world of a moment
  pub can_assign : (v : ℕ) (e : Expr) → instr_typed (known_of k) (Assign v e) ≡ true → CanAssign w v e
  can_assign v e h =
      let typed = assign_typed (known_of k) v e h in
      let there = declared_there k.tree k.names w v typed.decl ok.fits typed.declared in
      record {
        there = there.within;
        sort = typed.sort;
        sorted = ap (λ c. sort_of c e) (scope_at-fits k.tree k.names w ok.fits) ∙ typed.sorted;
        takes = λ value has. subst (λ s. CanTake s value) (sym there.sort_is)
            (CanTake-assignable typed.decl.sort typed.sort value typed.takes has);
      }

  -- and a test can be evaluated, to a flag
  pub can_test : (j : ℕ) (e : Expr) → instr_typed (known_of k) (Unless j (Test e)) ≡ true → IsFlagIn w e
  can_test j e h =
      ap (λ c. sort_of c e) (scope_at-fits k.tree k.names w ok.fits) ∙ test_typed (known_of k) j e h

  -- other data that were assigned
  data_give : (v : ℕ) (value : Value) → v < length k.names.vars → CanTake (datum w.vals v).sort value
      → (r : Result (List Datum) Fault) → assigned w.vals v value ≡ r → Gives k.names (IsWorld k b) (with_data r w)
  data_give v value lt can (Ok vals) e = record {
    fits = record {
      states = ok.fits.states;
      consistent = ok.fits.consistent;
      declared = of_data-assigned w.vals vals v value e ∙ ok.fits.declared;
      sorts = sorts-assigned w.vals vals v value e ok.fits.sorts can;
      outputs = ok.fits.outputs;
    };
    used = ok.used;
    outputs = ok.outputs;
  }
  data_give v value lt can (Err x) e = subst (Gives k.names Any) e (assigned_gives k.names w.vals v value lt)

  -- an assigned value of the sort
  value_give : (v : ℕ) (e : Expr) → v < length k.names.vars → (can : CanAssign w v e) → (r : Valued)
      → IfOk r (HasSort can.sort) → Gives k.names Any r → Gives k.names (IsWorld k b) (assigned_value v r w)
  value_give v e lt can (Ok x) has g = data_give v x lt (can.takes x has) (assigned w.vals v x) refl
  value_give v e lt can (Err x) has g = g

  -- an assignment of well-formed code
  pub assign_gives : (v : ℕ) (e : Expr) → instr_typed (known_of k) (Assign v e) ≡ true
      → Gives k.names (IsWorld k b) (assigned_in v e w)
  unfolding assigned_in
  assign_gives v e h =
      let can = can_assign v e h in
      let typed = assign_typed (known_of k) v e h in
      value_give v e (got_within k.names.vars v typed.decl typed.declared) can (value_of w.vals w.marks e)
      (value_has_sort w.vals w.marks ok.fits.sorts e can.sort can.sorted) (value_gives k.names w.vals w.marks e)
