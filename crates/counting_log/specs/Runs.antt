-- Runs by the rules with counters and a log.
use Rattle.std.specs.Prelude.{◌≡◌, ◌≢◌, ℕ, List, [], ◌∷◌, Option, Some, None, slice_get}
use Rattle.flow_base.specs.declared.bounds.Bounds.{Bounds}
use Rattle.actions.specs.declared.names.Var.{Var}
use Rattle.actions.specs.declared.names.VarKind.TheVariants as kinds
use Rattle.actions.specs.Names.{Names}
use Rattle.actions.specs.Runs.{ReactionRelation, Moment, EventWithInputs, ReactsWithInputs, UnlessFaulted}
use Rattle.actions.specs.World.{World}
use Rattle.checked_chart.specs.Chart.{Chart}
use Rattle.counting_rules.specs.Counters.{Counters}
use Rattle.counting_log.specs.Log.{Note}
use Rattle.counting_log.specs.Reactions.{logged_start_upto, logged_react_upto}
use Rattle.counting_log.specs.Work.{Logged, Ended, Faulted, Unfinished}

-- no event line can give the datum a value
abbrev pub IsNoInput : Names → ℕ → Type 0
IsNoInput n v = (decl : Var) → slice_get n.vars v ≡ Some decl → decl.kind ≢ kinds.Input

-- the moment and the log that work leads to, once it is over
abbrev pub logged_moment : {A : Type 0} → Logged A → Option (Moment × List Note)
logged_moment (Ended a w l) = Some (record { world = w; fault = None }, l)
logged_moment (Faulted x w l) = Some (record { world = w; fault = Some x }, l)
logged_moment Unfinished = None

-- derivations of some height lead to the moment and the log
pub record LoggedGives {A : Type 0} (m : ℕ → Logged A) (moment : Moment) (log : List Note) : Type 0 where
  pub height : ℕ
  pub gives : logged_moment (m height) ≡ Some (moment, log)

-- with the first log before it and the second after it, the event leaves, from the first world, the second, with that
-- fault or none
abbrev pub LoggedReacts : Chart → Counters → Bounds → List Note → List Note → ReactionRelation
LoggedReacts c k b l l' w e w' f = LoggedGives (logged_react_upto c k b w l e) (record { world = w'; fault = f }) l'

module _ (c : Chart) (k : Counters) (b : Bounds) (P : World → List Note → Type 0) where
  -- after a moment with its log come those of the events, up to the first fault, and P holds of each without a fault
  abbrev pub GoesOnLogged : Moment → List Note → List EventWithInputs → List Moment → Type 0
  GoesOnLogged m l [] moments = moments ≡ []
  GoesOnLogged m l (given ∷ events) moments = UnlessFaulted m.fault moments
      ((next : Moment) × (later : List Moment) × (log : List Note) × (moments ≡ next ∷ later)
      × ReactsWithInputs (LoggedReacts c k b l log) m.world given next.world next.fault
      × (next.fault ≡ None → P next.world log) × GoesOnLogged next log events later)

  -- the run over events with inputs by the rules with a log: these are the moments after the start and after each
  -- event, up to the first fault, and P holds of each without a fault and of the log up to it
  abbrev pub LoggedRun : List EventWithInputs → List Moment → Type 0
  LoggedRun events [] = ⊥
  LoggedRun events (m ∷ moments) = (log : List Note) × LoggedGives (logged_start_upto c k b) m log
      × (m.fault ≡ None → P m.world log) × GoesOnLogged m log events moments
