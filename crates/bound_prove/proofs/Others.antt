-- Values, guards and assignments have no fault that is an overrun.
use Rattle.std.proofs.Common.{◌≡◌, ℕ, ◌≤◌, List, Option, Some, None, Result}
use Rattle.std.proofs.Common.{Ok, Err, Bool, true, false, cond, arith, refl}
use Rattle.std.specs.Prelude.{ℤ, ◌+◌, nat_le}
use Rattle.std.proofs.lemmas.Bool.Decides.{nat_tests}
use Rattle.flow_base.specs.declared.bounds.Bounds.{Bounds}
use Rattle.flow_base.specs.declared.fault.Fault.{Fault}
use Rattle.flow_base.specs.declared.fault.Fault.TheVariants as kinds
use Rattle.fixed_point.specs.declared.fitting.Overflow.{Overflow}
use Rattle.fixed_point.specs.declared.num.Num.{Num}
use Rattle.fixed_point.specs.declared.quotient.Zero.{Zero}
use Rattle.fixed_point.specs.Numbers.{quotient_of}
use Rattle.active_config.specs.Marks.{Configuration}
use Rattle.actions.specs.declared.expr.Op.{Op}
use Rattle.actions.specs.declared.expr.Op.TheVariants as ops
use Rattle.actions.specs.declared.expr.Value.{Value}
use Rattle.actions.specs.Data.{Datum, datum, keep, kept, assigned}
use Rattle.actions.specs.Exprs.{Expr, Lit, Flag, Read, Active, Neg, Not, Bin}
use Rattle.actions.specs.Values.{Valued, with_value, number_of, quotient_value, applied, decides, value_of}
use Rattle.actions.specs.World.{World}
use Rattle.actions.specs.Changes.{paid_in, with_data, assigned_value, assigned_in, truth, truth_of}
use Rattle.actions.specs.Work.{change_or_fault, flag_or_fault}
use Rattle.sos_rules.specs.Searches.{pay, assign, guard_holds}
use Rattle.sos_rules.proofs.Settles.{assigned_used}
use Rattle.bound_prove.proofs.Rooms.{IsOther, Within, ends, faults, Any}

-- no fault, or one that is no overrun
abbrev Sound : {A : Type 0} → Result A Fault → Type 0
Sound (Ok a) = Unit {0}
Sound (Err x) = IsOther x

with_value_sound : (r : Valued) (f : Value → Valued) → Sound r → ((v : Value) → Sound (f v)) → Sound (with_value r f)
with_value_sound (Ok v) f h k = k v
with_value_sound (Err x) f h k = h

quotient_sound : (r : Result Num Zero) → Sound (quotient_value r)
quotient_sound (Ok x) = tt
quotient_sound (Err z) = tt

applied_sound : (op : Op) (a b : Value) → Sound (applied op a b)
applied_sound ops.Or a b = tt
applied_sound ops.And a b = tt
applied_sound ops.Eq a b = tt
applied_sound ops.Ne a b = tt
applied_sound ops.Lt a b = tt
applied_sound ops.Le a b = tt
applied_sound ops.Gt a b = tt
applied_sound ops.Ge a b = tt
applied_sound ops.Add a b = tt
applied_sound ops.Sub a b = tt
applied_sound ops.Mul a b = tt
applied_sound ops.Div a b = quotient_sound (quotient_of (number_of a) (number_of b))

cond_sound : (b : Bool) (r s : Valued) → Sound r → Sound s → Sound (cond b r s)
cond_sound true r s h k = h
cond_sound false r s h k = k

value_sound : (vals : List Datum) (marks : Configuration) (e : Expr) → Sound (value_of vals marks e)
unfolding value_of
value_sound vals marks (Lit x) = tt
value_sound vals marks (Flag b) = tt
value_sound vals marks (Read v) = tt
value_sound vals marks (Active s) = tt
value_sound vals marks (Neg a) = with_value_sound (value_of vals marks a) _ (value_sound vals marks a) (λ v. tt)
value_sound vals marks (Not a) = with_value_sound (value_of vals marks a) _ (value_sound vals marks a) (λ v. tt)
value_sound vals marks (Bin op a b) =
    with_value_sound (value_of vals marks a) _ (value_sound vals marks a)
    (λ left. cond_sound (decides op left) (Ok left) _ tt
    (with_value_sound (value_of vals marks b) (applied op left) (value_sound vals marks b) (applied_sound op left)))

keep_sound : (vals : List Datum) (v : ℕ) (r : Result ℤ Overflow) → Sound (keep vals v r)
keep_sound vals v (Ok m) = tt
keep_sound vals v (Err o) = tt

assigned_sound : (vals : List Datum) (v : ℕ) (value : Value) → Sound (assigned vals v value)
unfolding assigned
assigned_sound vals v value = keep_sound vals v (kept value (datum vals v))

data_sound : (r : Result (List Datum) Fault) (w : World) → Sound r → Sound (with_data r w)
data_sound (Ok vals) w h = tt
data_sound (Err x) w h = h

assigned_value_sound : (v : ℕ) (r : Valued) (w : World) → Sound r → Sound (assigned_value v r w)
assigned_value_sound v (Ok x) w h = data_sound (assigned w.vals v x) w (assigned_sound w.vals v x)
assigned_value_sound v (Err x) w h = h

assigned_in_sound : (v : ℕ) (e : Expr) (w : World) → Sound (assigned_in v e w)
unfolding assigned_in
assigned_in_sound v e w = assigned_value_sound v (value_of w.vals w.marks e) w (value_sound w.vals w.marks e)

truth_sound : (r : Valued) → Sound r → Sound (truth r)
truth_sound (Ok x) h = tt
truth_sound (Err x) h = h

truth_of_sound : (e : Expr) (w : World) → Sound (truth_of e w)
unfolding truth_of
truth_of_sound e w = truth_sound (value_of w.vals w.marks e) (value_sound w.vals w.marks e)

change_within : (r : Result World Fault) (w : World) (m : ℕ) → ((v : World) → r ≡ Ok v → v.used ≤ m) → Sound r
    → Within m Any (change_or_fault r w)
change_within (Ok v) w m f h = ends tt v (f v refl) tt
change_within (Err x) w m f h = faults x w h

flag_within : (r : Result Bool Fault) (w : World) (m : ℕ) → w.used ≤ m → Sound r → Within m Any (flag_or_fault r w)
flag_within (Ok b) w m le h = ends b w le tt
flag_within (Err x) w m le h = faults x w h

-- an assignment takes no step
pub assign_within : (v : ℕ) (e : Expr) (w : World) (m : ℕ) → w.used ≤ m → Within m Any (assign v e w)
assign_within v e w m le =
    change_within (assigned_in v e w) w m (λ u q. let h = assigned_used v e w u q in omega (arith, le, h))
    (assigned_in_sound v e w)

-- and neither does a guard
pub guard_within : (g : Option Expr) (w : World) (m : ℕ) → w.used ≤ m → Within m Any (guard_holds g w)
guard_within None w m le = ends true w le tt
guard_within (Some e) w m le = flag_within (truth_of e w) w m le (truth_of_sound e w)

-- a payment takes one step
pay_if : (full : Bool) (w : World) (m : ℕ) → (full ≡ true → ⊥) → w.used + 1 ≤ m
    → Within m Any (change_or_fault (cond full (Err kinds.Steps) (Ok (record w { used = w.used + 1 }))) w)
pay_if true w m f le = absurd (f refl)
pay_if false w m f le = ends tt (record w { used = w.used + 1 }) le tt

pub pay_within : (b : Bounds) (w : World) (m : ℕ) → w.used + 1 ≤ m → m ≤ b.steps → Within m Any (pay b w)
unfolding paid_in
pay_within b w m le most = pay_if (nat_le b.steps w.used) w m (λ e. grind (arith, nat_tests)) le
