-- Well-formed code never comes to a place without an instruction.
use Rattle.std.proofs.Common.{◌≡◌, ℕ, zero, suc, Bool, true, false, List, [], ◌∷◌, length, Option, Some, None, Result}
use Rattle.std.proofs.Common.{Ok, Err, if◌then◌else◌, refl, sym, ap, ◌∙◌, subst}
use Rattle.flow_base.specs.declared.bounds.Bounds.{Bounds}
use Rattle.flow_base.specs.declared.fault.Fault.{Fault}
use Rattle.active_config.specs.Marks.{is_bare}
use Rattle.actions.specs.Changes.{paid_in, assigned_in}
use Rattle.actions.specs.World.{World}
use Rattle.actions.specs.Work.{Now}
use Rattle.code_language.specs.Code.{Code}
use Rattle.code_language.specs.Instrs.{Instr}
use Rattle.code_language.specs.Instrs as i
use Rattle.code_language.specs.Machine.{Program, Frame, CodeState, Next, Goes}
use Rattle.code_language.specs.Machine.{Stops, if_ok, if_deep, test_next, pass_on}
use Rattle.code_language.specs.Machine.{holds, noted, later, machine, fresh, next, play_next, act, step}
use Rattle.code_language.specs.Reactions.{program_of}
use Rattle.code_language.specs.WellFormed.{IsCode}
use Rattle.code_language.specs.Moments.{IsMoment, StaysSound}
use Rattle.code_language.proofs.MomentLemmas.{step_sound, top_instr}
use Rattle.code_language.specs.Reach.{ReachesIn}
use Rattle.c_functions.specs.Runs.{Stuck}

-- ---- an instruction goes on or faults

-- it doesn't end the run without a fault
abbrev GoesOrFaults : Next → Type 0
GoesOrFaults (Goes m) = Unit {0}
GoesOrFaults (Stops w None) = ⊥
GoesOrFaults (Stops w (Some x)) = Unit {0}

ok_goes : (r : Result World Fault) (w : World) (go : World → CodeState) → GoesOrFaults (if_ok r w (λ v. Goes (go v)))
ok_goes (Ok v) w go = tt
ok_goes (Err x) w go = tt

deep_goes : (d : Bool) (r : Result World Fault) (w : World) (go : World → CodeState)
    → GoesOrFaults (if_deep d w (if_ok r w (λ v. Goes (go v))))
deep_goes true r w go = tt
deep_goes false r w go = ok_goes r w go

test_goes : (r : Result Bool Fault) (w : World) (a b : CodeState) → GoesOrFaults (test_next r w (Goes a) (Goes b))
test_goes (Ok true) w a b = tt
test_goes (Ok false) w a b = tt
test_goes (Err x) w a b = tt

pass_goes : (w : World) (now : Now) (r : ℕ) (f : Frame) (fs : List Frame) → GoesOrFaults (pass_on w now r f fs)
pass_goes w now zero f fs = tt
pass_goes w now (suc r) f fs = tt

play_goes : (C : Program) (q : Option (ℕ × ℕ)) (w : World) (now : Now) (r : ℕ) (f : Frame) (fs : List Frame)
    → GoesOrFaults (play_next C q w now r f fs)
play_goes C None w now r f fs = tt
play_goes C (Some q) w now r f fs = at (is_bare C.tree f.home w.marks)
  where
    at : (d : Bool) → GoesOrFaults (if d then if_ok (paid_in C.bounds w) w (λ v. Goes (machine v now r
        (fresh q.1 None (suc (length fs)) f.home None ∷ record f { cursor = suc q.0 } ∷ fs)))
        else Goes (machine w now r (next f ∷ fs)))
    at true = ok_goes (paid_in C.bounds w) w _
    at false = tt

act_goes : (C : Program) (x : Instr) (w : World) (now : Now) (r : ℕ) (f : Frame) (fs : List Frame)
    → GoesOrFaults (act C (Some x) w now r f fs)
act_goes C (i.Assign v e) w now r f fs = ok_goes (assigned_in v e w) w _
act_goes C (i.Emit e) w now r f fs = ok_goes (paid_in C.bounds w) w _
act_goes C (i.Mark s) w now r f fs = tt
act_goes C (i.Clear s) w now r f fs = tt
act_goes C (i.Keep s) w now r f fs = tt
act_goes C (i.Unless k c) w now r f fs = test_goes (holds C.tree c w now r f.home) w _ _
act_goes C (i.Skip k) w now r f fs = tt
act_goes C (i.Call p tag) w now r f fs = tt
act_goes C (i.Visit p tag) w now r f fs = ok_goes (paid_in C.bounds w) w _
act_goes C (i.Send e) w now r f fs = deep_goes _ (paid_in C.bounds w) w _
act_goes C (i.SendTo e s p) w now r f fs = deep_goes _ (paid_in C.bounds w) w _
act_goes C i.Play w now r f fs = play_goes C (noted (later f.cursor (suc f.base)) (f ∷ fs)) w now r f fs
act_goes C (i.Home s) w now r f fs = tt
act_goes C i.Begin w now r f fs = tt
act_goes C i.Pass w now r f fs = pass_goes w now r f fs
act_goes C (i.Ret x) w now r f fs = tt

-- ---- a run

-- each step of a run of well-formed code leads to a moment
pub moments_on : (k : Code) (b : Bounds) → IsCode k → (n : ℕ) (m m' : CodeState) → IsMoment k b m
    → ReachesIn (program_of k b) n m m' → IsMoment k b m'
moments_on k b is zero m m' h e = subst (λ (x : CodeState). IsMoment k b x) e h
moments_on k b is (suc n) m m' h way =
    moments_on k b is n way.0 m' (subst (λ (x : Next). StaysSound k b x) way.1 (step_sound k b is m h)) way.2

-- so it isn't stuck
pub never_stuck : (k : Code) (b : Bounds) (m : CodeState) → IsCode k → IsMoment k b m → Stuck (program_of k b) m → ⊥
never_stuck k b m is h stuck = at stuck.last.frames refl
  where
    C : Program
    C = program_of k b

    last : IsMoment k b stuck.last
    last = moments_on k b is stuck.reached.steps m stuck.last h stuck.reached.by

    at : (fs : List Frame) → stuck.last.frames ≡ fs → ⊥
    at [] e = stuck.frames e
    at (f ∷ fs) e =
        let x = top_instr k b is stuck.last f fs last e in
        let w = stuck.last.world in
        let acts : step C stuck.last ≡ act C (Some x.instr) w stuck.last.now stuck.last.result f fs =
        ap (λ (fs : List Frame). step C
        (record { world = w; now = stuck.last.now; result = stuck.last.result; frames = fs })) e
        ∙ ap (λ (o : Option Instr). act C o w stuck.last.now stuck.last.result f fs) x.there in
        subst (λ (x : Next). GoesOrFaults x) (sym acts ∙ stuck.stops)
        (act_goes C x.instr w stuck.last.now stuck.last.result f fs)
