-- Where runs end, and that they have one ending.
use Rattle.std.proofs.Common.{◌≡◌, ℕ, zero, suc, ◌+◌, ◌≤◌, [], Option, Some, None, ap, ◌∙◌, arith}
use Rattle.flow_base.specs.declared.fault.Fault.{Fault}
use Rattle.actions.specs.Runs.{Moment}
use Rattle.actions.specs.World.{World}
use Rattle.code_language.specs.Machine.{Program, CodeState, Next, Goes, Stops, Over, and_then, act_on, step, run}
use Rattle.code_language.specs.Reactions.{Leads}
use Rattle.code_language.specs.Reach.{Reaches, Falls}
use Rattle.code_language.proofs.Joins.{runs_on}

-- a step before a run that is over
over_more : (C : Program) (n k : ℕ) (o : Next) (w : World) (x : Option Fault)
    → ((m : CodeState) → run C n m ≡ Over w x → run C k m ≡ Over w x) → and_then o (run C n) ≡ Over w x
    → and_then o (run C k) ≡ Over w x
over_more C n k (Goes m) w x t h = t m h
over_more C n k (Stops w' x') w x t h = h

-- a run that is over is over after more steps
pub over_longer : (C : Program) (n k : ℕ) → n ≤ k → (m : CodeState) (w : World) (x : Option Fault) → run C n m ≡ Over w x
    → run C k m ≡ Over w x
over_longer C zero k le m w x h = absurd (cc h)
over_longer C (suc n) zero le m w x h = absurd (omega arith)
over_longer C (suc n) (suc k) le m w x h =
    over_more C n k (step C m) w x (λ m' h'. over_longer C n k (omega arith) m' w x h') h

-- a run that is over has one world and one fault
pub one_ending : (C : Program) (n k : ℕ) (m : CodeState) (w w' : World) (x x' : Option Fault) → run C n m ≡ Over w x
    → run C k m ≡ Over w' x' → (w ≡ w') × (x ≡ x')
one_ending C n k m w w' x x' h h' =
    let a = over_longer C n (n + k) (omega arith) m w x h in
    let b = over_longer C k (n + k) (omega arith) m w' x' h' in (cc (a, b), cc (a, b))

-- a run that leads to a state without frames ends there
pub reached_leads : {C : Program} {m m' : CodeState} → Reaches C m m' → m'.frames ≡ []
    → Leads C m (record { world = m'.world; fault = None })
reached_leads {C = C} {m = m} {m' = m'} h e =
    let way = runs_on C h.steps 1 m m' h.by in
    record {
      steps = way.0;
      ends = way.1 ∙ ap (λ fs. and_then (act_on C m'.world m'.now m'.result fs) (run C 0)) e;
    }

-- a run that leads to a fault ends with it
pub falls_leads : {C : Program} {m : CodeState} {w : World} {x : Fault} → Falls C m w x
    → Leads C m (record { world = w; fault = Some x })
falls_leads h = record { steps = h.by.0; ends = h.by.1 }

-- a run leads to one moment
pub one_end : {C : Program} {m : CodeState} {x y : Moment} → Leads C m x → Leads C m y → x ≡ y
one_end {C = C} {m = m} {x = x} {y = y} a b =
    let e = one_ending C a.steps b.steps m x.world y.world x.fault y.fault a.ends b.ends in
    let w = e.0 in
    let f = e.1 in
    ap (λ v. record { world = v; fault = x.fault }) w ∙ ap (λ v. record { world = y.world; fault = v }) f
