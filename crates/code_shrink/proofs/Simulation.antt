-- Two runs go on side by side where a relation of their states is kept: from related states each run goes on by itself
-- for a while, and then both take a step that leads to related states or ends both in the same way. So each of them
-- ends as the other does.
use Rattle.std.proofs.Common.{◌≡◌, ℕ, zero, suc, ◌+◌, Bool, true, false, List, ◌∷◌, Option, Result, Ok, Err}
use Rattle.std.proofs.Common.{refl, sym, ap, ◌∙◌, subst, arith}
use Rattle.std.specs.Prelude.{if◌then◌else◌}
use Rattle.flow_base.specs.declared.fault.Fault.{Fault}
use Rattle.actions.specs.Runs.{Moment}
use Rattle.actions.specs.World.{World}
use Rattle.actions.specs.Work.{Now}
use Rattle.code_language.specs.Machine.{Program, Frame, CodeState, machine, next, past, Next, Goes, Stops, if_ok}
use Rattle.code_language.specs.Machine.{test_next, if_deep, step, and_then, run, Over}
use Rattle.code_language.specs.Reach.{ReachesIn, Reaches}
use Rattle.code_language.specs.Reactions.{Leads}
use Rattle.code_language.proofs.Endings.{over_longer}
use Rattle.code_language.proofs.Joins.{here, on_to, runs_on}
use Rattle.code_language.proofs.Steps.{one_step}

-- ---- steps

-- both runs go on, in related states, or both stop in the same way
pub data Alike (R : CodeState → CodeState → Type 0) : Next → Next → Type 0 where
  Go : {a a' : CodeState} → R a a' → Alike R (Goes a) (Goes a')
  Stop : {w : World} {x : Option Fault} → Alike R (Stops w x) (Stops w x)

module _ {R : CodeState → CodeState → Type 0} where
  -- after a payment or an assignment
  pub alike_if : (o : Result World Fault) (w : World) {go go' : World → Next}
      → ((v : World) → o ≡ Ok v → Alike R (go v) (go' v)) → Alike R (if_ok o w go) (if_ok o w go')
  alike_if (Ok v) w h = h v refl
  alike_if (Err x) w h = Stop

  -- after a test
  pub alike_test : (o : Result Bool Fault) (w : World) {x x' y y' : Next} → (o ≡ Ok true → Alike R x x')
      → (o ≡ Ok false → Alike R y y') → Alike R (test_next o w x y) (test_next o w x' y')
  alike_test (Ok true) w h g = h refl
  alike_test (Ok false) w h g = g refl
  alike_test (Err e) w h g = Stop

  -- where a depth may be left
  pub alike_deep : (d : Bool) (w : World) {x x' : Next} → Alike R x x' → Alike R (if_deep d w x) (if_deep d w x')
  alike_deep true w h = Stop
  alike_deep false w h = h

  -- one of two ways
  pub alike_either : (d : Bool) {x x' y y' : Next} → Alike R x x' → Alike R y y'
      → Alike R (if d then x else y) (if d then x' else y')
  alike_either true h g = h
  alike_either false h g = g

-- to pass over nothing is to go on at the next place
pub alike_next : {R : CodeState → CodeState → Type 0} {o : Next} (w : World) (now : Now) (r : ℕ) (f : Frame)
    (fs : List Frame) → Alike R o (Goes (machine w now r (next f ∷ fs)))
    → Alike R o (Goes (machine w now r (past f 0 ∷ fs)))
alike_next {R = R} {o = o} w now r f fs h =
    let e : f.place + 1 ≡ f.place + 1 + 0 = omega arith in
    subst (λ i. Alike R o (Goes (machine w now r (record f { place = i } ∷ fs)))) e h

-- ---- states

-- from these states each run goes on by itself, and then both take a step that is alike
pub record Ahead (R : CodeState → CodeState → Type 0) (C C' : Program) (a a' : CodeState) : Type 0 where
  pub to : CodeState
  pub to' : CodeState
  pub first : Reaches C a to
  pub second : Reaches C' a' to'
  pub alike : Alike R (step C to) (step C' to')

-- both take a step at once
pub at_once : {R : CodeState → CodeState → Type 0} {C C' : Program} {a a' : CodeState} {o o' : Next} → step C a ≡ o
    → step C' a' ≡ o' → Alike R o o' → Ahead R C C' a a'
at_once {R = R} {C' = C'} {a = a} {a' = a'} {o = o} e e' h = record {
  to = a;
  to' = a';
  first = here;
  second = here;
  alike = subst (λ x. Alike R x (step C' a')) (sym e) (subst (λ x. Alike R o x) (sym e') h);
}

-- the first run takes a step by itself
pub first_alone : {R : CodeState → CodeState → Type 0} {C C' : Program} {a b a' : CodeState} → step C a ≡ Goes b
    → Ahead R C C' b a' → Ahead R C C' a a'
first_alone e h = record {
  to = h.to;
  to' = h.to';
  first = on_to (one_step e) h.first;
  second = h.second;
  alike = h.alike;
}

-- the second run takes a step by itself
pub second_alone : {R : CodeState → CodeState → Type 0} {C C' : Program} {a a' b : CodeState} → step C' a' ≡ Goes b
    → Ahead R C C' a b → Ahead R C C' a a'
second_alone e h = record {
  to = h.to;
  to' = h.to';
  first = h.first;
  second = on_to (one_step e) h.second;
  alike = h.alike;
}

-- ---- runs

-- a run that is over is over from each state on its way
over_on : (C : Program) (n i : ℕ) (a to : CodeState) (w : World) (x : Option Fault) → ReachesIn C n a to
    → run C i a ≡ Over w x → run C i to ≡ Over w x
over_on C zero i a to w x h e = ap (run C i) (sym h) ∙ e
over_on C (suc n) zero a to w x h e = absurd (cc e)
over_on C (suc n) (suc i) a to w x h e =
    over_on C n (suc i) h.0 to w x h.2
    (over_longer C i (suc i) (omega arith) h.0 w x (ap (λ o. and_then o (run C i)) (sym h.1) ∙ e))

-- from related states the runs go on side by side
abbrev pub Simulates : (CodeState → CodeState → Type 0) → Program → Program → Type 0
Simulates R C C' = (a a' : CodeState) → R a a' → Ahead R C C' a a'

-- where the first run ends the second one ends so
ends : (R : CodeState → CodeState → Type 0) (C C' : Program) → Simulates R C C' → (i : ℕ) (o o' : Next) → Alike R o o'
    → (w : World) (x : Option Fault) → and_then o (run C i) ≡ Over w x
    → (j : ℕ) × (and_then o' (run C' j) ≡ Over w x)
ends R C C' s i o o' Stop w x e = (0, e)
ends R C C' s zero o o' (Go h) w x e = absurd (cc e)
ends R C C' s (suc i) o o' (Go {a = a} {a' = a'} h) w x e =
    let n = s a a' h in
    let d = ends R C C' s i (step C n.to) (step C' n.to') n.alike w x
    (over_on C n.first.steps (suc i) a n.to w x n.first.by e) in
    let way = runs_on C' n.second.steps (suc d.0) a' n.to' n.second.by in
    (way.0, way.1 ∙ d.1)

-- so it leads where the first one does
leads_on : (R : CodeState → CodeState → Type 0) (C C' : Program) → Simulates R C C' → (a a' : CodeState) → R a a'
    → (moment : Moment) → Leads C a moment → Leads C' a' moment
leads_on R C C' s a a' h moment l =
    let d = ends R C C' s l.steps (Goes a) (Goes a') (Go h) moment.world moment.fault l.ends in
    record { steps = d.0; ends = d.1 }

-- steps that are alike are so the other way round
turned : {R : CodeState → CodeState → Type 0} (o o' : Next) → Alike R o o' → Alike (λ b b'. R b' b) o' o
turned o o' (Go h) = Go h
turned o o' Stop = Stop

-- two runs lead to the same moment
pub record LeadAlike (C C' : Program) (a a' : CodeState) : Type 0 where
  pub on : (moment : Moment) → Leads C a moment → Leads C' a' moment
  pub back : (moment : Moment) → Leads C' a' moment → Leads C a moment

-- from related states both runs lead to the same moment
pub lead_alike : {R : CodeState → CodeState → Type 0} {C C' : Program} {a a' : CodeState} → Simulates R C C' → R a a'
    → LeadAlike C C' a a'
lead_alike {R = R} {C = C} {C' = C'} {a = a} {a' = a'} s h = record {
  on = leads_on R C C' s a a' h;
  back = leads_on (λ b b'. R b' b) C' C (λ b b' g. let n = s b' b g in record {
    to = n.to';
    to' = n.to;
    first = n.second;
    second = n.first;
    alike = turned (step C n.to) (step C' n.to') n.alike;
  }) a' a h;
}
