-- The expressions, statements and guards of a valid chart have what code asks of its instructions.
use Rattle.std.proofs.Common.{◌≡◌, ◌≢◌, ℕ, ◌^◌, Bool, true, false, length}
use Rattle.std.proofs.Common.{Option, Some, None, Ok, Err, refl, sym, ap, ◌∙◌, subst, arith}
use Rattle.std.specs.Prelude.{not, nat_lt, pos, int_lt, int_le, slice_get, if◌then◌else◌}
use Rattle.std.specs.Option.{option_map_or}
use Rattle.std.proofs.lemmas.Bool.{lt-ltb, le-leb, ltb-true, and_from}
use Rattle.std.proofs.lemmas.Bool.Decides.{nat_tests}
use Rattle.std.proofs.lemmas.Option.{slice_get_within}
use Rattle.std.proofs.lemmas.List.{length-map}
use Rattle.flow_base.specs.declared.chart_limits.TheConstants.{OPERATOR_LIMIT}
use Rattle.fixed_point.specs.declared.num.Num.{Num}
use Rattle.active_config.specs.Tree.{state_count}
use Rattle.actions.specs.declared.names.EventDecl.{EventDecl}
use Rattle.actions.specs.declared.names.EventKind.{EventKind}
use Rattle.actions.specs.declared.names.EventKind.TheVariants as events
use Rattle.actions.specs.declared.names.Sort.{Sort}
use Rattle.actions.specs.declared.names.Var.{Var}
use Rattle.actions.specs.declared.names.VarKind.{VarKind}
use Rattle.actions.specs.declared.names.VarKind.TheVariants as vars
use Rattle.actions.specs.declared.sort.ExprSort.{ExprSort}
use Rattle.actions.specs.declared.sort.ExprSort.TheVariants as sorts
use Rattle.actions.specs.declared.sort.ExprFault.{ExprFault}
use Rattle.actions.specs.declared.sort.ExprFault.TheVariants as faults
use Rattle.actions.specs.Exprs.{Expr, Lit, Flag, Read, Active, Neg, Not, Bin}
use Rattle.actions.specs.Sorts.{Sorted, scope_of, with_sort, datum_sort, negative_sort, not_sort}
use Rattle.actions.specs.Sorts.{binary_sort, sort_of, assignment_fault}
use Rattle.checked_chart.specs.Chart.{Chart}
use Rattle.checked_chart.specs.Expressions.{IsLiteral, LiteralsFit, operator_count}
use Rattle.checked_chart.specs.Valid.{IsExpr, CanAssign, IsTrigger, HasGuard}
use Rattle.code_language.specs.Instrs.{Current, Test, Assign}
use Rattle.code_language.specs.WellFormed.{expr_known, is_literal, has_literals, is_plain, is_flag, is_assigned}
use Rattle.code_language.specs.WellFormed.{is_fine, takes, is_trigger, event_is, is_event}
use Rattle.code_language.specs.WellFormed.{cond_known, cond_typed, cond_keeps, instr_known, instr_typed}
use Rattle.layout_bounds.specs.Sound.{known}
use Rattle.layout_bounds.proofs.Instructions.{IsCond}

-- ---- literals and operators

-- a whole number that isn't negative
not_negative : (n : ℕ) → int_le (pos 0) (pos n) ≡ true
not_negative n = le-leb 0 n (omega arith)

-- a literal is in range
literal_fits : (n : Num) → IsLiteral n → is_literal n ≡ true
literal_fits n h =
    let low : int_le (pos 0) n.mantissa ≡ true =
    subst (λ m. int_le (pos 0) m ≡ true) (sym h.mantissa) (not_negative h.units) in
    let high : int_lt n.mantissa (pos (2 ^ 99)) ≡ true =
    subst (λ m. int_lt m (pos (2 ^ 99)) ≡ true) (sym h.mantissa) (lt-ltb h.units (2 ^ 99) h.small) in
    and_from _ _ low (and_from _ _ high (lt-ltb n.frac 33 (omega (arith, h.short))))

-- the literals of an expression are
literals_fit : (e : Expr) → LiteralsFit e → has_literals e ≡ true
unfolding has_literals
literals_fit (Lit n) h = literal_fits n h
literals_fit (Flag b) h = refl
literals_fit (Read v) h = refl
literals_fit (Active s) h = refl
literals_fit (Neg a) h = literals_fit a h
literals_fit (Not a) h = literals_fit a h
literals_fit (Bin op a b) h = and_from _ _ (literals_fit a h.0) (literals_fit b h.1)

-- an expression of a valid chart is short enough, with such literals
pub plain : (e : Expr) → IsExpr e → is_plain e ≡ true
plain e h =
    let few = h.operators in
    let short : not (nat_lt OPERATOR_LIMIT (operator_count e)) ≡ true = grind (arith, nat_tests) in
    and_from _ _ short (literals_fit e h.literals)

-- ---- what an expression names

-- a part has a sort where the whole has one
part_sorted : (r : Sorted) (f : ExprSort → Sorted) (sort : ExprSort) → with_sort r f ≡ Ok sort
    → (part : ExprSort) × (r ≡ Ok part) × (f part ≡ Ok sort)
part_sorted (Ok part) f sort e = (part, refl, e)
part_sorted (Err fault) f sort e = absurd (cc e)

-- a datum that has a sort is there
datum_there : (o : Option Sort) (sort : ExprSort) → datum_sort o ≡ Ok sort → (s : Sort) × (o ≡ Some s)
datum_there None sort e = absurd (cc e)
datum_there (Some s) sort e = (s, refl)

-- a state that has a sort is there
state_there : (b : Bool) (sort : ExprSort) → (if b then Ok sorts.Flag else Err faults.Range) ≡ Ok sort → b ≡ true
state_there true sort e = refl
state_there false sort e = absurd (cc e)

module _ (c : Chart) (n : ℕ) (states : length c.names.states ≡ state_count c.tree) where
  -- what an expression with a sort names is there
  pub names_known : (e : Expr) (sort : ExprSort) → sort_of (scope_of c.names) e ≡ Ok sort
      → expr_known (known c n) e ≡ true
  unfolding sort_of expr_known
  names_known (Lit l) sort h = refl
  names_known (Flag b) sort h = refl
  names_known (Read v) sort h =
      let there = datum_there (slice_get (scope_of c.names).sorts v) sort h in
      let within = slice_get_within (scope_of c.names).sorts v there.0 there.1 in
      lt-ltb v (length c.names.vars) (omega (arith, within, length-map c.names.vars (λ (x : Var). x.sort)))
  names_known (Active s) sort h =
      let within = ltb-true s (length c.names.states) (state_there (nat_lt s (length c.names.states)) sort h) in
      lt-ltb s (state_count c.tree) (omega (arith, within, states))
  names_known (Neg a) sort h =
      let part = part_sorted (sort_of (scope_of c.names) a) negative_sort sort h in names_known a part.0 part.1
  names_known (Not a) sort h =
      let part = part_sorted (sort_of (scope_of c.names) a) not_sort sort h in names_known a part.0 part.1
  names_known (Bin op a b) sort h =
      let left = part_sorted (sort_of (scope_of c.names) a)
      (λ l. with_sort (sort_of (scope_of c.names) b) (binary_sort op l)) sort h in
      let right = part_sorted (sort_of (scope_of c.names) b) (binary_sort op left.0) sort left.2 in
      and_from _ _ (names_known a left.0 left.1) (names_known b right.0 right.1)

  -- ---- guards and assignments

  -- a flag has the sort of a flag
  flag_sorted : (r : Sorted) → r ≡ Ok sorts.Flag → is_flag r ≡ true
  flag_sorted r e = ap is_flag e

  -- a guard of a valid chart may be tested
  pub guard_is : (e : Expr) → HasGuard c (Some e) → IsCond (known c n) (Test e)
  unfolding cond_known cond_typed cond_keeps
  guard_is e h = record {
    known = names_known e sorts.Flag h.1;
    typed = and_from _ _ (plain e h.0) (flag_sorted (sort_of (scope_of c.names) e) h.1);
    keeps = refl;
  }

  -- a datum that is no input may be assigned to
  assigned : (k : VarKind) → k ≢ vars.Input → is_assigned k ≡ true
  assigned vars.Input h = absurd (h refl)
  assigned vars.Output h = refl
  assigned vars.Local h = refl

  -- no fault is fine
  fine : (o : Option ExprFault) → o ≡ None → is_fine o ≡ true
  fine o e = ap is_fine e

  -- a datum that takes what an expression gives
  taken : (r : Sorted) (v : Var) (sort : ExprSort) → r ≡ Ok sort → v.kind ≢ vars.Input
      → assignment_fault v.sort sort ≡ None → takes v r ≡ true
  taken r v sort e no_input h =
      ap (takes v) e ∙ and_from _ _ (assigned v.kind no_input) (fine (assignment_fault v.sort sort) h)

  -- the datum and what the expression of an assignment names are there
  pub assign_known : (v : ℕ) (e : Expr) → CanAssign c.names v e → instr_known (known c n) (Assign v e) ≡ true
  unfolding instr_known
  assign_known v e h =
      and_from _ _ (lt-ltb v (length c.names.vars) (slice_get_within c.names.vars v h.decl h.declared))
      (names_known e h.sort h.sorted)

  -- an assignment has the right types
  pub assign_typed : (v : ℕ) (e : Expr) → CanAssign c.names v e → instr_typed (known c n) (Assign v e) ≡ true
  unfolding instr_typed
  assign_typed v e h =
      and_from _ _ (plain e h.expr)
      (ap (λ o. option_map_or (λ decl. takes decl (sort_of (scope_of c.names) e)) o false) h.declared
      ∙ taken (sort_of (scope_of c.names) e) h.decl h.sort h.sorted h.no_input h.takes)

  -- ---- events

  -- a declared event is there
  pub event_known : (e : ℕ) (decl : EventDecl) → slice_get c.names.events e ≡ Some decl
      → is_event (known c n) e ≡ true
  event_known e decl h = lt-ltb e (length c.names.events) (slice_get_within c.names.events e decl h)

  -- and of the kind that is declared
  pub event_typed : (good : EventKind → Bool) (e : ℕ) (decl : EventDecl) → slice_get c.names.events e ≡ Some decl
      → good decl.kind ≡ true → event_is (known c n) good e ≡ true
  event_typed good e decl h is = ap (λ o. option_map_or (λ (d : EventDecl). good d.kind) o false) h ∙ is

  -- an event that isn't emitted may be a trigger
  triggers : (k : EventKind) → k ≢ events.Output → is_trigger k ≡ true
  triggers events.Input h = refl
  triggers events.Local h = refl
  triggers events.Output h = absurd (h refl)

  -- the trigger of a transition may be waited for
  pub trigger_is : (e : ℕ) → IsTrigger c.names e → IsCond (known c n) (Current e)
  unfolding cond_known cond_typed cond_keeps
  trigger_is e h = record {
    known = event_known e h.decl h.declared;
    typed = event_typed is_trigger e h.decl h.declared (triggers h.decl.kind h.no_output);
    keeps = refl;
  }
