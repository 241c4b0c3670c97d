-- The steps used never fall.
use Rattle.std.proofs.Common.{◌≡◌, ℕ, ◌+◌, ◌<◌, ◌≤◌, List, Bool, true, false, Result, Ok, Err, refl, ap, ◌∙◌, subst}
use Rattle.std.proofs.Common.{arith}
use Rattle.flow_base.specs.declared.bounds.Bounds.{Bounds}
use Rattle.flow_base.specs.declared.fault.Fault.{Fault}
use Rattle.active_config.specs.Tree.{IsTree}
use Rattle.actions.specs.Exprs.{Stmt}
use Rattle.actions.specs.World.{World, Life}
use Rattle.actions.specs.Changes.{paid_in, set_mark, keep_in}
use Rattle.actions.specs.Work.{Run, Ended, End, Now, change_or_fault}
use Rattle.sos_rules.proofs.Keeps.{Finishes, ended, faulted, unfinished, Closed, upto_keep}
use Rattle.sos_rules.proofs.Settles.{paid_ok, assigned_used}
use Rattle.sos_interpreter.specs.Settled.{Settled, settled}
use Rattle.sos_rules.specs.Rules.{upto}
use Rattle.sos_rules.specs.Searches.{pay}
use Rattle.checked_chart.specs.Chart.{Chart, is_remembered}
use Rattle.sos_rules.specs.Moves.{keep_if, entered_in}

-- keeping what is remembered costs nothing
kept_used : (c : Chart) (s : ℕ) (w : World) (h : Bool) → (keep_if h c.tree s (set_mark s true w)).used ≡ w.used
unfolding keep_in
kept_used c s w true = refl
kept_used c s w false = refl

-- entering a state costs nothing by itself
entered_used : (c : Chart) (s : ℕ) (w : World) → (entered_in c s w).used ≡ w.used
unfolding entered_in
entered_used c s w = kept_used c s w (is_remembered c s)

-- every change keeps the steps used at or above a number
used_closed : (c : Chart) (b : Bounds) (k : ℕ) → Closed c b (λ v. k ≤ v.used)
used_closed c b k = record {
  pays = λ w v e h. let f = (paid_ok b w v e).1 in omega arith;
  assigns = λ x e w v q h. let f = assigned_used x e w v q in omega arith;
  emits = λ e w h. h;
  marks = λ s w can h. let e = entered_used c s w in omega arith;
  clears = λ s w pos bare h. h;
}

-- what holds when work finishes holds of the world at its end
at_end : {A : Type 0} (P : World → Type 0) {r : Run A} → Finishes P r → (a : A) (w : World) → r ≡ Ended a w → P w
at_end P (ended x v p) a w e = let f : v ≡ w = cc in subst P f p
at_end P (faulted x v p) a w e = absurd cc
at_end P unfinished a w e = absurd cc

-- a block that ends has used no fewer steps than before
pub block_uses : (c : Chart) → IsTree c.tree
    → (b : Bounds) (life : Life) (stmts : List Stmt) (now : Now) (w v : World) (e : End)
    → Settled (λ n. (upto c b n).block life stmts now w) (Ended e v) → w.used ≤ v.used
block_uses c tree b life stmts now w v e (settled from h) =
    at_end (λ v. w.used ≤ v.used)
    ((upto_keep c tree b (λ v. w.used ≤ v.used) (used_closed c b w.used) from).block life stmts now w (omega arith)) e v
    (h from (omega arith))

-- a step that is paid was left, and one more is used
pub pay_done : (b : Bounds) (w v : World) → pay b w ≡ Ended tt v → (w.used < b.steps) × (v.used ≡ w.used + 1)
pay_done b w v e = at (paid_in b w) refl e
  where
    at : (r : Result World Fault) → paid_in b w ≡ r → change_or_fault r w ≡ Ended tt v
        → (w.used < b.steps) × (v.used ≡ w.used + 1)
    at (Ok u) q e = let g : u ≡ v = cc in paid_ok b w v (q ∙ ap (λ x. Ok x) g)
    at (Err x) q e = absurd cc
