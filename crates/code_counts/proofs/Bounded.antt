-- A certificate bounds what every start and every reaction takes.
use Rattle.std.proofs.Common.{◌≡◌, ℕ, zero, suc, Option, refl, subst}
use Rattle.flow_base.specs.declared.fault.Fault.{Fault}
use Rattle.actions.specs.declared.event.Event.TheVariants.{Start}
use Rattle.actions.specs.Runs.{Moment}
use Rattle.actions.specs.World.{World, begun}
use Rattle.actions.specs.Work.{from_outside}
use Rattle.code_language.specs.Code.{Code}
use Rattle.code_language.specs.Ahead.{next_then, ahead}
use Rattle.code_language.specs.Machine.{Program, CodeState, Next, Goes, Stops, Ending, Over, step, and_then, run}
use Rattle.code_language.specs.Reactions.{Leads, program_of}
use Rattle.code_counts.specs.Certificate.{Numbers, IsCertificate, IsMost}
use Rattle.code_counts.specs.Claims.{HasMost, IsWithin}
use Rattle.code_counts.specs.declared.numbers.Counted.{Counted}
use Rattle.code_counts.specs.declared.numbers.Counted.TheVariants.{Steps, Outputs, Depth, Notes}
use Rattle.code_counts.proofs.Levels.{IsLevel, depth_level, notes_level, level_stays}
use Rattle.code_counts.proofs.Sums.{steps_sum, outputs_sum, sum_within}

module _ (k : Code) (N : Numbers) (most : ℕ) (is : IsMost k.procedures N most) where
  -- depth and notes, which are levels
  by_level : (c : Counted) → IsLevel c → IsCertificate c k.procedures N → HasMost c k most
  by_level c s ok = record {
    start = λ b n w. level_stays (program_of k b) c N most s ok n (begun w) (from_outside Start)
        k.procedures.start refl is.start;
    reaction = λ b n w e. level_stays (program_of k b) c N most s ok n (begun w) (from_outside e)
        k.procedures.react refl is.reaction;
  }

  -- whatever is counted
  pub bounded : (c : Counted) → IsCertificate c k.procedures N → HasMost c k most
  bounded Steps ok = record {
    start = λ b n w. sum_within (program_of k b) Steps N most steps_sum ok n (begun w) (from_outside Start)
        k.procedures.start refl is.start;
    reaction = λ b n w e. sum_within (program_of k b) Steps N most steps_sum ok n (begun w) (from_outside e)
        k.procedures.react refl is.reaction;
  }
  bounded Outputs ok = record {
    start = λ b n w. sum_within (program_of k b) Outputs N most outputs_sum ok n (begun w) (from_outside Start)
        k.procedures.start refl is.start;
    reaction = λ b n w e. sum_within (program_of k b) Outputs N most outputs_sum ok n (begun w) (from_outside e)
        k.procedures.react refl is.reaction;
  }
  bounded Depth ok = by_level Depth depth_level ok
  bounded Notes ok = by_level Notes notes_level ok

-- ---- where events end

-- a run that is over has stopped
stopped_then : (o : Next) (go : CodeState → Ending) (go' : CodeState → Next) (w : World) (x : Option Fault)
    → ((m : CodeState) → go m ≡ Over w x → go' m ≡ Stops w x) → and_then o go ≡ Over w x → next_then o go' ≡ Stops w x
stopped_then (Goes m) go go' w x t h = t m h
stopped_then (Stops v y) go go' w x t h =
    let p : v ≡ w = cc h in
    let q : y ≡ x = cc h in
    cc (p, q)

stopped : (C : Program) (n : ℕ) (m : CodeState) (w : World) (x : Option Fault) → run C n m ≡ Over w x
    → ahead C n m ≡ Stops w x
stopped C zero m w x h = absurd (cc h)
stopped C (suc n) m w x h =
    stopped_then (step C m) (run C n) (ahead C n) w x (λ m' h'. stopped C n m' w x h') h

-- what holds at all times of an event holds at its end
pub at_end : (P : Next → Type 0) (C : Program) (m : CodeState) (moment : Moment) → Leads C m moment
    → ((n : ℕ) → P (ahead C n m)) → P (Stops moment.world moment.fault)
at_end P C m moment leads all =
    subst P (stopped C leads.steps m moment.world moment.fault leads.ends) (all leads.steps)

-- so do numbers
pub end_within : (c : Counted) (C : Program) (most : ℕ) (m : CodeState) (moment : Moment) → Leads C m moment
    → ((n : ℕ) → IsWithin c C.bounds most (ahead C n m)) → IsWithin c C.bounds most (Stops moment.world moment.fault)
end_within c C most m moment leads all = at_end (IsWithin c C.bounds most) C m moment leads all
