-- What each instruction does to a run, a lemma for each.
use Rattle.std.proofs.Common.{◌≡◌, ℕ, suc, Bool, true, false, List, ◌∷◌, length, Option, Some, None, Result, Ok, Err}
use Rattle.std.proofs.Common.{refl, ap, ◌∙◌}
use Rattle.std.specs.Prelude.{nat_le, if◌then◌else◌}
use Rattle.flow_base.specs.declared.fault.Fault.{Fault}
use Rattle.flow_base.specs.declared.fault.Fault.TheVariants as faults
use Rattle.active_config.specs.Marks.{is_on, is_bare}
use Rattle.actions.specs.Exprs.{Expr}
use Rattle.actions.specs.World.{World, emitted}
use Rattle.actions.specs.Changes.{paid_in, assigned_in, mark_in, clear_in, keep_in}
use Rattle.actions.specs.Work.{Run, then_do, choose, fault, change_or_fault, Now}
use Rattle.code_language.specs.Code.{fetch}
use Rattle.code_language.specs.Instrs.{Cond, Instr}
use Rattle.code_language.specs.Machine.{Program, Frame, CodeState, machine, fresh}
use Rattle.code_language.specs.Machine.{next, past, Goes, Stops, holds, if_ok}
use Rattle.code_language.specs.Machine.{test_next, returned, noted, later, sent}
use Rattle.code_language.specs.Machine.{if_deep, play_next, act, step, and_then}
use Rattle.code_language.specs.Machine.{run}
use Rattle.code_language.specs.Instrs as instrs
use Rattle.code_language.specs.Reach.{Reaches, Falls, Aim, MeetsAim}
use Rattle.code_language.proofs.Joins.{meets_on, meets_fall}

-- a step that goes on is a stretch
pub one_step : {C : Program} {m m' : CodeState} → step C m ≡ Goes m' → Reaches C m m'
one_step {m' = m'} h = record { steps = 1; by = (m', h, refl) }

-- a step that stops with a fault falls
pub one_fall : {C : Program} {m : CodeState} {w : World} {x : Fault} → step C m ≡ Stops w (Some x) → Falls C m w x
one_fall {C = C} h = record { by = (1, ap (λ n. and_then n (run C 0)) h) }

-- the instruction at the top frame acts
acts : (C : Program) (w : World) (now : Now) (r : ℕ) (f : Frame) (fs : List Frame) (i : Instr)
    → fetch C.procedures f.proc f.place ≡ Some i → step C (machine w now r (f ∷ fs)) ≡ act C (Some i) w now r f fs
acts C w now r f fs i h = ap (λ o. act C o w now r f fs) h

-- a result that isn't 0 is passed on
pub go_pass : {C : Program} {w : World} {now : Now} {f : Frame} {fs : List Frame} {x : ℕ}
    → fetch C.procedures f.proc f.place ≡ Some instrs.Pass
    → Reaches C (machine w now (suc x) (f ∷ fs)) (returned w now (suc x) f.saved fs)
go_pass {C = C} {w = w} {now = now} {f = f} {fs = fs} {x = x} h = one_step (acts C w now (suc x) f fs instrs.Pass h)

-- at result 0 the procedure goes on
pub go_pass_zero : {C : Program} {w : World} {now : Now} {f : Frame} {fs : List Frame}
    → fetch C.procedures f.proc f.place ≡ Some instrs.Pass
    → Reaches C (machine w now 0 (f ∷ fs)) (machine w now 0 (next f ∷ fs))
go_pass_zero {C = C} {w = w} {now = now} {f = f} {fs = fs} h = one_step (acts C w now 0 f fs instrs.Pass h)

-- where the home isn't bare, `Play` runs no note
play_lame : (C : Program) (w : World) (now : Now) (r : ℕ) (f : Frame) (fs : List Frame) (o : Option (ℕ × ℕ))
    → is_bare C.tree f.home w.marks ≡ false → play_next C o w now r f fs ≡ Goes (machine w now r (next f ∷ fs))
play_lame C w now r f fs None h = refl
play_lame C w now r f fs (Some x) h =
    ap (λ t. if t then if_ok (paid_in C.bounds w) w (λ v. Goes (machine v now r
    (fresh x.1 None (suc (length fs)) f.home None ∷ record f { cursor = suc x.0 } ∷ fs))) else Goes
    (machine w now r (next f ∷ fs))) h

module _ {C : Program} {w : World} {now : Now} {r : ℕ} {f : Frame} {fs : List Frame} where
  -- a state becomes active where it can
  pub go_mark : {s : ℕ} → fetch C.procedures f.proc f.place ≡ Some (instrs.Mark s)
      → Reaches C (machine w now r (f ∷ fs)) (machine (mark_in C.tree s w) now r (next f ∷ fs))
  go_mark {s = s} h = one_step (acts C w now r f fs (instrs.Mark s) h)

  -- a state becomes inactive where it is bare
  pub go_clear : {s : ℕ} → fetch C.procedures f.proc f.place ≡ Some (instrs.Clear s)
      → Reaches C (machine w now r (f ∷ fs)) (machine (clear_in C.tree s w) now r (next f ∷ fs))
  go_clear {s = s} h = one_step (acts C w now r f fs (instrs.Clear s) h)

  -- the parent of a state remembers it
  pub go_keep : {s : ℕ} → fetch C.procedures f.proc f.place ≡ Some (instrs.Keep s)
      → Reaches C (machine w now r (f ∷ fs)) (machine (keep_in C.tree s w) now r (next f ∷ fs))
  go_keep {s = s} h = one_step (acts C w now r f fs (instrs.Keep s) h)

  -- instructions are passed over
  pub go_skip : {k : ℕ} → fetch C.procedures f.proc f.place ≡ Some (instrs.Skip k)
      → Reaches C (machine w now r (f ∷ fs)) (machine w now r (past f k ∷ fs))
  go_skip {k = k} h = one_step (acts C w now r f fs (instrs.Skip k) h)

  -- a procedure is called
  pub go_call : {p : ℕ} {tag : Option ℕ} → fetch C.procedures f.proc f.place ≡ Some (instrs.Call p tag)
      → Reaches C (machine w now r (f ∷ fs)) (machine w now r (fresh p tag f.base f.home None ∷ next f ∷ fs))
  go_call {p = p} {tag = tag} h = one_step (acts C w now r f fs (instrs.Call p tag) h)

  -- a state becomes the home
  pub go_home : {s : ℕ} → fetch C.procedures f.proc f.place ≡ Some (instrs.Home s)
      → Reaches C (machine w now r (f ∷ fs)) (machine w now r (next (record f { home = s }) ∷ fs))
  go_home {s = s} h = one_step (acts C w now r f fs (instrs.Home s) h)

  -- the frame becomes its own base
  pub go_begin : fetch C.procedures f.proc f.place ≡ Some instrs.Begin
      → Reaches C (machine w now r (f ∷ fs)) (machine w now r (next (record f { base = length fs }) ∷ fs))
  go_begin h = one_step (acts C w now r f fs instrs.Begin h)

  -- the frame returns with a result
  pub go_ret : {x : ℕ} → fetch C.procedures f.proc f.place ≡ Some (instrs.Ret x)
      → Reaches C (machine w now r (f ∷ fs)) (returned w now x f.saved fs)
  go_ret {x = x} h = one_step (acts C w now r f fs (instrs.Ret x) h)

  -- where the condition holds, the next instruction follows
  pub go_unless_true : {k : ℕ} {c : Cond} → fetch C.procedures f.proc f.place ≡ Some (instrs.Unless k c)
      → holds C.tree c w now r f.home ≡ Ok true → Reaches C (machine w now r (f ∷ fs)) (machine w now r (next f ∷ fs))
  go_unless_true {k = k} {c = c} h t =
      one_step (acts C w now r f fs (instrs.Unless k c) h ∙ ap (λ o. test_next o w
      (Goes (machine w now r (next f ∷ fs))) (Goes (machine w now r (past f k ∷ fs)))) t)

  -- where it doesn't, instructions are passed over
  pub go_unless_false : {k : ℕ} {c : Cond} → fetch C.procedures f.proc f.place ≡ Some (instrs.Unless k c)
      → holds C.tree c w now r f.home ≡ Ok false
      → Reaches C (machine w now r (f ∷ fs)) (machine w now r (past f k ∷ fs))
  go_unless_false {k = k} {c = c} h t =
      one_step (acts C w now r f fs (instrs.Unless k c) h ∙ ap (λ o. test_next o w
      (Goes (machine w now r (next f ∷ fs))) (Goes (machine w now r (past f k ∷ fs)))) t)

  -- where it is a fault, the run falls
  pub fall_unless : {k : ℕ} {c : Cond} {x : Fault} → fetch C.procedures f.proc f.place ≡ Some (instrs.Unless k c)
      → holds C.tree c w now r f.home ≡ Err x → Falls C (machine w now r (f ∷ fs)) w x
  fall_unless {k = k} {c = c} h t =
      one_fall (acts C w now r f fs (instrs.Unless k c) h ∙ ap (λ o. test_next o w
      (Goes (machine w now r (next f ∷ fs))) (Goes (machine w now r (past f k ∷ fs)))) t)

  -- what costs a step or may be a fault, and then the rest
  paid : {B : Type 0} {H : Aim B} (o : Result World Fault) (to : World → CodeState) (g : World → Run B)
      → step C (machine w now r (f ∷ fs)) ≡ if_ok o w (λ v. Goes (to v))
      → ((v : World) → o ≡ Ok v → MeetsAim C (to v) H (g v))
      → MeetsAim C (machine w now r (f ∷ fs)) H (then_do (change_or_fault o w) (λ _ v. g v))
  paid (Ok v) to g h t = meets_on (one_step h) (t v refl)
  paid (Err x) to g h t = meets_fall (one_fall h)

  -- a datum takes a value, and then the rest
  pub go_assign : {B : Type 0} {H : Aim B} {v : ℕ} {x : Expr} {g : World → Run B}
      → fetch C.procedures f.proc f.place ≡ Some (instrs.Assign v x)
      → ((u : World) → assigned_in v x w ≡ Ok u → MeetsAim C (machine u now r (next f ∷ fs)) H (g u))
      → MeetsAim C (machine w now r (f ∷ fs)) H (then_do (change_or_fault (assigned_in v x w) w) (λ _ u. g u))
  go_assign {v = v} {x = x} {g = g} h t =
      paid (assigned_in v x w) (λ u. machine u now r (next f ∷ fs)) g (acts C w now r f fs (instrs.Assign v x) h) t

  -- an event is emitted, and then the rest
  pub go_emit : {B : Type 0} {H : Aim B} {x : ℕ} {g : World → Run B}
      → fetch C.procedures f.proc f.place ≡ Some (instrs.Emit x)
      → ((u : World) → paid_in C.bounds w ≡ Ok u → MeetsAim C (machine (emitted x u) now r (next f ∷ fs)) H (g u))
      → MeetsAim C (machine w now r (f ∷ fs)) H (then_do (change_or_fault (paid_in C.bounds w) w) (λ _ u. g u))
  go_emit {x = x} {g = g} h t =
      paid (paid_in C.bounds w) (λ u. machine (emitted x u) now r (next f ∷ fs)) g
      (acts C w now r f fs (instrs.Emit x) h) t

  -- a step is paid and a procedure called, and then the rest
  pub go_visit : {B : Type 0} {H : Aim B} {q : ℕ} {tag : Option ℕ} {g : World → Run B}
      → fetch C.procedures f.proc f.place ≡ Some (instrs.Visit q tag)
      → ((u : World) → paid_in C.bounds w ≡ Ok u → MeetsAim C
      (machine u now r (fresh q tag f.base f.home None ∷ next f ∷ fs)) H (g u)) → MeetsAim C (machine w now r
      (f ∷ fs)) H (then_do (change_or_fault (paid_in C.bounds w) w) (λ _ u. g u))
  go_visit {q = q} {tag = tag} {g = g} h t =
      paid (paid_in C.bounds w) (λ u. machine u now r (fresh q tag f.base f.home None ∷ next f ∷ fs)) g
      (acts C w now r f fs (instrs.Visit q tag) h) t

  -- a fault where no depth is left, and else what costs a step, and then the rest
  deep_or_paid : {A : Type 0} {H : Aim A} (b : Bool) (o : World → Result World Fault) (to : World → CodeState)
      (g : World → Run A) → step C (machine w now r (f ∷ fs)) ≡ if_deep b w (if_ok (o w) w (λ v. Goes (to v)))
      → ((v : World) → o w ≡ Ok v → MeetsAim C (to v) H (g v))
      → MeetsAim C (machine w now r (f ∷ fs)) H
      (choose b (fault faults.Depth) (λ v. then_do (change_or_fault (o v) v) (λ _ u. g u)) w)
  deep_or_paid false o to g h t = paid (o w) to g h t
  deep_or_paid true o to g h t = meets_fall (one_fall h)

  -- an event is sent to the whole chart, and then the rest
  pub go_send : {A : Type 0} {H : Aim A} {x : ℕ} {g : World → Run A}
      → fetch C.procedures f.proc f.place ≡ Some (instrs.Send x)
      → ((u : World) → paid_in C.bounds w ≡ Ok u → MeetsAim C (sent true x C.procedures.react u now r f fs) H (g u))
      → MeetsAim C (machine w now r (f ∷ fs)) H
      (choose (nat_le C.bounds.depth now.depth) (fault faults.Depth)
      (λ v. then_do (change_or_fault (paid_in C.bounds v) v) (λ _ u. g u)) w)
  go_send {x = x} {g = g} h t =
      deep_or_paid (nat_le C.bounds.depth now.depth) (paid_in C.bounds)
      (λ u. sent true x C.procedures.react u now r f fs) g (acts C w now r f fs (instrs.Send x) h) t

  -- an event is sent to a state, and then the rest
  pub go_send_to : {A : Type 0} {H : Aim A} {x s p : ℕ} {g : World → Run A}
      → fetch C.procedures f.proc f.place ≡ Some (instrs.SendTo x s p)
      → ((u : World) → paid_in C.bounds w ≡ Ok u → MeetsAim C (sent (is_on s u.marks) x p u now r f fs) H (g u))
      → MeetsAim C (machine w now r (f ∷ fs)) H
      (choose (nat_le C.bounds.depth now.depth) (fault faults.Depth)
      (λ v. then_do (change_or_fault (paid_in C.bounds v) v) (λ _ u. g u)) w)
  go_send_to {x = x} {s = s} {p = p} {g = g} h t =
      deep_or_paid (nat_le C.bounds.depth now.depth) (paid_in C.bounds) (λ u. sent (is_on s u.marks) x p u now r f fs) g
      (acts C w now r f fs (instrs.SendTo x s p) h) t

  -- ---- `Play`

  -- `Play` where nothing is noted
  pub go_play_none : fetch C.procedures f.proc f.place ≡ Some instrs.Play
      → noted (later f.cursor (suc f.base)) (f ∷ fs) ≡ None
      → Reaches C (machine w now r (f ∷ fs)) (machine w now r (next f ∷ fs))
  go_play_none h n = one_step (acts C w now r f fs instrs.Play h ∙ ap (λ o. play_next C o w now r f fs) n)

  -- `Play` where the home isn't bare
  pub go_play_lame : fetch C.procedures f.proc f.place ≡ Some instrs.Play → is_bare C.tree f.home w.marks ≡ false
      → Reaches C (machine w now r (f ∷ fs)) (machine w now r (next f ∷ fs))
  go_play_lame h n =
      one_step (acts C w now r f fs instrs.Play h ∙ play_lame C w now r f fs
      (noted (later f.cursor (suc f.base)) (f ∷ fs)) n)

  -- `Play` where a noted procedure is called, and then the rest
  pub go_play : {B : Type 0} {H : Aim B} {i q : ℕ} {g : World → Run B}
      → fetch C.procedures f.proc f.place ≡ Some instrs.Play
      → noted (later f.cursor (suc f.base)) (f ∷ fs) ≡ Some (i, q) → is_bare C.tree f.home w.marks ≡ true
      → ((u : World) → paid_in C.bounds w ≡ Ok u → MeetsAim C
      (machine u now r (fresh q None (suc (length fs)) f.home None ∷ record f { cursor = suc i } ∷ fs)) H
      (g u)) → MeetsAim C (machine w now r (f ∷ fs)) H (then_do (change_or_fault (paid_in C.bounds w) w) (λ _ u. g u))
  go_play {i = i} {q = q} {g = g} h n b t =
      paid (paid_in C.bounds w) (λ u. machine u now r (fresh q None (suc (length fs)) f.home None ∷ record f
      { cursor = suc i } ∷ fs)) g (acts C w now r f fs instrs.Play h ∙ ap (λ o. play_next C o w now r f fs) n ∙ ap
      (λ t. if t then if_ok (paid_in C.bounds w) w (λ u. Goes (machine u now r
      (fresh q None (suc (length fs)) f.home None ∷ record f { cursor = suc i } ∷ fs))) else Goes
      (machine w now r (next f ∷ fs))) b) t
