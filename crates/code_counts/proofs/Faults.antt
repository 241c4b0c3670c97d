-- What a step does to a world and with which faults it may end.
use Rattle.std.proofs.Common.{◌≡◌, ℕ, suc, ◌+◌, ◌≤◌, Bool, true, false, List, Result, Ok, Err, cond, refl, arith, ℤ}
use Rattle.std.specs.Prelude.{nat_le, if◌then◌else◌}
use Rattle.std.proofs.lemmas.Bool.Decides.{nat_tests}
use Rattle.flow_base.specs.declared.bounds.Bounds.{Bounds}
use Rattle.flow_base.specs.declared.fault.Fault.{Fault}
use Rattle.flow_base.specs.declared.fault.Fault.TheVariants as faults
use Rattle.fixed_point.specs.declared.fitting.Overflow.{Overflow}
use Rattle.fixed_point.specs.declared.num.Num.{Num}
use Rattle.fixed_point.specs.declared.quotient.Zero.{Zero}
use Rattle.fixed_point.specs.Numbers.{quotient_of}
use Rattle.active_config.specs.Tree.{Tree}
use Rattle.active_config.specs.Marks.{Configuration, can_mark, is_bare}
use Rattle.actions.specs.declared.expr.Op.{Op}
use Rattle.actions.specs.declared.expr.Op.TheVariants as ops
use Rattle.actions.specs.declared.expr.Value.{Value}
use Rattle.actions.specs.Data.{Datum, datum, keep, kept, assigned}
use Rattle.actions.specs.Exprs.{Expr, Lit, Flag, Read, Active, Neg, Not, Bin}
use Rattle.actions.specs.Values.{Valued, with_value, number_of, quotient_value, applied, decides, value_of}
use Rattle.actions.specs.World.{World}
use Rattle.actions.specs.Changes.{paid_in, with_data, assigned_value, assigned_in, set_mark, mark_in, clear_in, keep_in}
use Rattle.actions.specs.Changes.{truth, truth_of}
use Rattle.actions.specs.Work.{Now}
use Rattle.code_language.specs.Instrs.{Cond, On, Bare, OnHome, BareHome, Current, Result as ResultIs, Test, Last}
use Rattle.code_language.specs.Machine.{holds}

-- P holds of what is given, and F of a fault
abbrev pub Leaves : {A : Type 0} → (A → Type 0) → (Fault → Type 0) → Result A Fault → Type 0
Leaves P F (Ok a) = P a
Leaves P F (Err x) = F x

-- anything will do
abbrev pub Any : {A : Type 0} → A → Type 0
Any a = Unit {0}

-- a fault of a value, and not of a bound
abbrev pub IsOfValue : Fault → Type 0
IsOfValue faults.Depth = ⊥
IsOfValue faults.Steps = ⊥
IsOfValue (faults.Overflow v) = Unit {0}
IsOfValue faults.Zero = Unit {0}

-- as many steps are used, and the same is emitted
abbrev pub IsSame : World → World → Type 0
IsSame w v = (v.used ≡ w.used) × (v.outputs ≡ w.outputs)

-- one more step is used, and the same is emitted
abbrev pub IsPaid : World → World → Type 0
IsPaid w v = (v.used ≡ suc w.used) × (v.outputs ≡ w.outputs)

-- the fault where all steps are used
abbrev pub IsSpent : Bounds → World → Fault → Type 0
IsSpent b w x = (x ≡ faults.Steps) × (b.steps ≤ w.used)

-- ---- values

-- an expression is a value or faults by a value
with_value_leaves : (r : Valued) (f : Value → Valued) → Leaves Any IsOfValue r
    → ((v : Value) → Leaves Any IsOfValue (f v)) → Leaves Any IsOfValue (with_value r f)
with_value_leaves (Ok v) f h k = k v
with_value_leaves (Err x) f h k = h

-- a quotient is a number or the fault of a zero divisor
quotient_leaves : (r : Result Num Zero) → Leaves Any IsOfValue (quotient_value r)
quotient_leaves (Ok x) = tt
quotient_leaves (Err z) = tt

-- an operator faults by a zero divisor alone
applied_leaves : (op : Op) (a b : Value) → Leaves Any IsOfValue (applied op a b)
applied_leaves ops.Or a b = tt
applied_leaves ops.And a b = tt
applied_leaves ops.Eq a b = tt
applied_leaves ops.Ne a b = tt
applied_leaves ops.Lt a b = tt
applied_leaves ops.Le a b = tt
applied_leaves ops.Gt a b = tt
applied_leaves ops.Ge a b = tt
applied_leaves ops.Add a b = tt
applied_leaves ops.Sub a b = tt
applied_leaves ops.Mul a b = tt
applied_leaves ops.Div a b = quotient_leaves (quotient_of (number_of a) (number_of b))

-- one of two values
either_leaves : (b : Bool) (r s : Valued) → Leaves Any IsOfValue r → Leaves Any IsOfValue s
    → Leaves Any IsOfValue (cond b r s)
either_leaves true r s h k = h
either_leaves false r s h k = k

-- so does a whole expression
value_leaves : (vals : List Datum) (marks : Configuration) (e : Expr) → Leaves Any IsOfValue (value_of vals marks e)
unfolding value_of
value_leaves vals marks (Lit x) = tt
value_leaves vals marks (Flag b) = tt
value_leaves vals marks (Read v) = tt
value_leaves vals marks (Active s) = tt
value_leaves vals marks (Neg a) = with_value_leaves (value_of vals marks a) _ (value_leaves vals marks a) (λ v. tt)
value_leaves vals marks (Not a) = with_value_leaves (value_of vals marks a) _ (value_leaves vals marks a) (λ v. tt)
value_leaves vals marks (Bin op a b) =
    with_value_leaves (value_of vals marks a) _ (value_leaves vals marks a)
    (λ left. either_leaves (decides op left) (Ok left) _ tt
    (with_value_leaves (value_of vals marks b) (applied op left) (value_leaves vals marks b) (applied_leaves op left)))

-- a value as a flag
truth_leaves : (r : Valued) → Leaves Any IsOfValue r → Leaves Any IsOfValue (truth r)
truth_leaves (Ok x) h = tt
truth_leaves (Err x) h = h

-- so is a test
test_leaves : (e : Expr) (w : World) → Leaves Any IsOfValue (truth_of e w)
unfolding truth_of
test_leaves e w = truth_leaves (value_of w.vals w.marks e) (value_leaves w.vals w.marks e)

-- a condition faults by a value alone
pub holds_leaves : (t : Tree) (c : Cond) (w : World) (now : Now) (r home : ℕ)
    → Leaves Any IsOfValue (holds t c w now r home)
unfolding holds
holds_leaves t (On s) w now r home = tt
holds_leaves t (Bare s) w now r home = tt
holds_leaves t OnHome w now r home = tt
holds_leaves t BareHome w now r home = tt
holds_leaves t (Current e) w now r home = tt
holds_leaves t (ResultIs x) w now r home = tt
holds_leaves t (Test e) w now r home = test_leaves e w
holds_leaves t (Last s) w now r home = tt

-- ---- worlds

-- an assignment keeps a mantissa, or faults by an overflow
keep_leaves : (vals : List Datum) (v : ℕ) (r : Result ℤ Overflow) → Leaves Any IsOfValue (keep vals v r)
keep_leaves vals v (Ok m) = tt
keep_leaves vals v (Err o) = tt

-- so does an assignment of a value
assigned_leaves : (vals : List Datum) (v : ℕ) (value : Value) → Leaves Any IsOfValue (assigned vals v value)
unfolding assigned
assigned_leaves vals v value = keep_leaves vals v (kept value (datum vals v))

-- new data use no step
data_leaves : (w : World) (r : Result (List Datum) Fault) → Leaves Any IsOfValue r
    → Leaves (IsSame w) IsOfValue (with_data r w)
data_leaves w (Ok vals) h = (refl, refl)
data_leaves w (Err x) h = h

-- nor does an assigned value
value_assigned : (v : ℕ) (r : Valued) (w : World) → Leaves Any IsOfValue r
    → Leaves (IsSame w) IsOfValue (assigned_value v r w)
value_assigned v (Ok x) w h = data_leaves w (assigned w.vals v x) (assigned_leaves w.vals v x)
value_assigned v (Err x) w h = h

-- an assignment uses none
pub assign_leaves : (v : ℕ) (e : Expr) (w : World) → Leaves (IsSame w) IsOfValue (assigned_in v e w)
unfolding assigned_in
assign_leaves v e w = value_assigned v (value_of w.vals w.marks e) w (value_leaves w.vals w.marks e)

-- paying uses a step, where one is left
paid_if : (b : Bounds) (w : World) (t : Bool) → nat_le b.steps w.used ≡ t
    → Leaves (IsPaid w) (IsSpent b w) (if t then Err faults.Steps else Ok (record w { used = w.used + 1 }))
paid_if b w true h = (refl, grind (arith, nat_tests, h))
paid_if b w false h = (omega arith, refl)

-- paying uses a step
pub paid_leaves : (b : Bounds) (w : World) → Leaves (IsPaid w) (IsSpent b w) (paid_in b w)
unfolding paid_in
paid_leaves b w = paid_if b w (nat_le b.steps w.used) refl

-- another mark uses none
mark_if : (s : ℕ) (w : World) (t on : Bool) → IsSame w (if t then set_mark s on w else w)
mark_if s w true on = (refl, refl)
mark_if s w false on = (refl, refl)

-- nor does marking a state
pub mark_same : (t : Tree) (s : ℕ) (w : World) → IsSame w (mark_in t s w)
unfolding mark_in
mark_same t s w = mark_if s w (can_mark t s w.marks) true

-- clearing a state uses none
pub clear_same : (t : Tree) (s : ℕ) (w : World) → IsSame w (clear_in t s w)
unfolding clear_in
clear_same t s w = mark_if s w (is_bare t s w.marks) false

-- keeping a state uses none
pub keep_same : (t : Tree) (s : ℕ) (w : World) → IsSame w (keep_in t s w)
unfolding keep_in
keep_same t s w = (refl, refl)
