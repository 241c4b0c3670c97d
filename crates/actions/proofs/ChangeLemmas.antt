-- What rules and code do to a world: the facts that others need, so that the definitions stay shut.
use Rattle.std.proofs.Common.{◌≡◌, ℕ, Bool, true, false, Result, Ok, Err, ◌+◌, refl, ap, sym, ◌∙◌}
use Rattle.std.specs.Prelude.{nat_le, List, if◌then◌else◌}
use Rattle.flow_base.specs.declared.bounds.Bounds.{Bounds}
use Rattle.flow_base.specs.declared.fault.Fault.{Fault}
use Rattle.flow_base.specs.declared.fault.Fault.TheVariants.{Steps}
use Rattle.active_config.specs.Tree.{Tree}
use Rattle.active_config.specs.Marks.{can_mark, is_bare}
use Rattle.actions.specs.Data.{Datum, assigned}
use Rattle.actions.specs.Exprs.{Expr}
use Rattle.actions.specs.Values.{Valued, value_of}
use Rattle.actions.specs.World.{World}
use Rattle.actions.specs.Changes.{paid_in, with_data, assigned_value, assigned_in, set_mark, mark_in, clear_in}

-- where it is a world, that world has the marks of w
abbrev pub KeepsMarks : World → Result World Fault → Type 0
KeepsMarks w (Ok v) = v.marks ≡ w.marks
KeepsMarks w (Err x) = Unit {0}

-- paying keeps the marks, whether a step is left or not
paid_if : (w : World) (b : Bool) → KeepsMarks w (if b then Err Steps else Ok (record w { used = w.used + 1 }))
paid_if w true = tt
paid_if w false = refl

-- paying keeps the marks
pub paid_keeps : (b : Bounds) (w : World) → KeepsMarks w (paid_in b w)
unfolding paid_in
paid_keeps b w = paid_if w (nat_le b.steps w.used)

-- new data keep the marks
data_keeps : (w : World) (r : Result (List Datum) Fault) → KeepsMarks w (with_data r w)
data_keeps w (Ok vals) = refl
data_keeps w (Err x) = tt

-- assigning a value keeps the marks
value_keeps : (v : ℕ) (r : Valued) (w : World) → KeepsMarks w (assigned_value v r w)
value_keeps v (Ok x) w = data_keeps w (assigned w.vals v x)
value_keeps v (Err x) w = tt

-- an assignment keeps the marks
pub assigned_keeps : (v : ℕ) (e : Expr) (w : World) → KeepsMarks w (assigned_in v e w)
unfolding assigned_in
assigned_keeps v e w = value_keeps v (value_of w.vals w.marks e) w

-- the marks of the world that came of it
pub kept : (w : World) {v : World} {r : Result World Fault} → KeepsMarks w r → r ≡ Ok v → v.marks ≡ w.marks
kept w {v = v} {r = Ok u} h e = let f : u ≡ v = cc in sym (ap (λ (x : World). x.marks) f) ∙ h
kept w {v = v} {r = Err x} h e = absurd cc

-- a state that can be marked is marked
pub mark_done : (t : Tree) (s : ℕ) (w : World) → can_mark t s w.marks ≡ true → mark_in t s w ≡ set_mark s true w
unfolding mark_in
mark_done t s w h = ap (λ b. if b then set_mark s true w else w) h

-- a bare state is cleared
pub clear_done : (t : Tree) (s : ℕ) (w : World) → is_bare t s w.marks ≡ true → clear_in t s w ≡ set_mark s false w
unfolding clear_in
clear_done t s w h = ap (λ b. if b then set_mark s false w else w) h

-- a state that isn't bare stays as it is
pub clear_not : (t : Tree) (s : ℕ) (w : World) → is_bare t s w.marks ≡ false → clear_in t s w ≡ w
unfolding clear_in
clear_not t s w h = ap (λ b. if b then set_mark s false w else w) h
