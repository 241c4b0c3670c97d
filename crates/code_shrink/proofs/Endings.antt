-- Codes whose starts and reactions lead alike have the same runs, and so have code and its copy.
use Rattle.std.proofs.Common.{ℕ, Bool, List, Option, sym, subst}
use Rattle.flow_base.specs.declared.bounds.Bounds.{Bounds}
use Rattle.flow_base.specs.declared.fault.Fault.{Fault}
use Rattle.actions.specs.declared.event.Event.{Event}
use Rattle.actions.specs.declared.event.Event.TheVariants.{Start}
use Rattle.actions.specs.Names.{Names}
use Rattle.actions.specs.Runs.{Moment, EventWithInputs}
use Rattle.actions.specs.World.{World, world_before, begun}
use Rattle.actions.specs.Work.{from_outside}
use Rattle.actions.proofs.RunLemmas.{Runs-along}
use Rattle.code_language.specs.Code.{Code, Procedures}
use Rattle.code_language.specs.Reactions.{program_of, start_machine, react_machine, Starts, Reacts, CodeRun}
use Rattle.code_shrink.specs.Follows.{HasCopy}
use Rattle.code_shrink.specs.RunsAlike.{with_names, RunAlike}
use Rattle.code_shrink.proofs.Lockstep.{copy_leads}
use Rattle.code_shrink.proofs.Simulation.{LeadAlike}

-- runs of code are runs of other code whose starts and reactions lead where those of the first one do
runs_along : (b : Bounds) (k k' : Code) → ((w : World) (f : Option Fault) → Starts k b w f → Starts k' b w f)
    → ((w : World) (e : Event) (w' : World) (f : Option Fault) → Reacts k b w e w' f → Reacts k' b w e w' f)
    → (events : List EventWithInputs) (moments : List Moment) → CodeRun k b events moments → CodeRun k' b events moments
runs_along b k k' s t =
    Runs-along (λ w. Unit {0}) (Starts k b) (Starts k' b) (Reacts k b) (Reacts k' b) (λ w f h. (s w f h, tt))
    (λ given w w' f _ h. ((h.0, h.1, t h.0 given.event w' f h.2), tt))

-- codes whose starts and reactions lead alike run alike
pub same_runs : (b : Bounds) (k k' : Code)
    → ((names : Names) → LeadAlike (program_of k b) (program_of k' b) (start_machine (with_names names k))
    (start_machine (with_names names k')))
    → ((w : World) (e : Event) → LeadAlike (program_of k b) (program_of k' b) (react_machine k w e)
    (react_machine k' w e)) → RunAlike b k k'
same_runs b k k' starts reacts names events moments =
    let first = with_names names k in
    let second = with_names names k' in (
      runs_along b first second (λ w f. (starts names).on (record { world = w; fault = f }))
          (λ w e w' f. (reacts w e).on (record { world = w'; fault = f })) events moments,
      runs_along b second first (λ w f. (starts names).back (record { world = w; fault = f }))
          (λ w e w' f. (reacts w e).back (record { world = w'; fault = f })) events moments,
    )

-- code with other procedures
abbrev pub with_procedures : Code → Procedures → Code
with_procedures k ps = record k { procedures = ps }

-- code and its copy run alike
pub copy_alike : (k k' : Code) (R : ℕ → Bool) (n : ℕ → ℕ) → HasCopy R n k k' → (b : Bounds) → RunAlike b k k'
copy_alike k k' R n h b =
    let ps = h.procedures in
    subst (λ t. RunAlike b k (record { tree = t; names = k'.names; procedures = k'.procedures })) (sym h.tree)
    (same_runs b k (record k { names = k'.names; procedures = k'.procedures })
    (λ names. copy_leads R n k.procedures k'.procedures ps k.tree b k.procedures.start k'.procedures.start ps.start
    ps.start_at (world_before k.tree names) (from_outside Start))
    (λ w e. copy_leads R n k.procedures k'.procedures ps k.tree b k.procedures.react k'.procedures.react ps.react
    ps.react_at (begun w) (from_outside e)))
