-- Starts, reactions and runs by the rules.
use Rattle.std.specs.Prelude.{◌≡◌, ℕ, List, Option, Some, None, true}
use Rattle.flow_base.specs.declared.bounds.Bounds.{Bounds}
use Rattle.active_config.specs.Marks.{is_on, IsConsistent}
use Rattle.actions.specs.declared.event.Event.{Event}
use Rattle.actions.specs.declared.event.Event.TheVariants.{Start}
use Rattle.actions.specs.Runs.{Moment, EventWithInputs, StartRelation, ReactionRelation, Runs}
use Rattle.actions.specs.World.{World, world_before, begun}
use Rattle.actions.specs.Work.{Run, Ended, Faulted, Unfinished}
pub use Rattle.actions.specs.Work.{from_outside}
use Rattle.checked_chart.specs.Chart.{Chart}
use Rattle.sos_rules.specs.Parts.{Went}
use Rattle.sos_rules.specs.Rules.{upto}

-- the moment that work leads to, once it is over
abbrev pub moment_of : {A : Type 0} → Run A → Option Moment
moment_of (Ended a w) = Some (record { world = w; fault = None })
moment_of (Faulted x w) = Some (record { world = w; fault = Some x })
moment_of Unfinished = None

-- derivations of some height lead to the moment
pub record Gives {A : Type 0} (m : ℕ → Run A) (moment : Moment) : Type 0 where
  pub height : ℕ
  pub gives : moment_of (m height) ≡ Some moment

-- the root is entered from the world before the start
abbrev pub start_upto : Chart → Bounds → ℕ → Run (Unit {0})
start_upto c b n = (upto c b n).enter 0 0 (from_outside Start) (world_before c.tree c.names)

-- nothing is emitted yet and no step is used, and then the root is processed
abbrev pub react_upto : Chart → Bounds → World → Event → ℕ → Run Went
react_upto c b w e n = (upto c b n).process 0 (from_outside e) (begun w)

-- the start leaves that world, with that fault or none
abbrev pub Starts : Chart → Bounds → StartRelation
Starts c b w f = Gives (start_upto c b) (record { world = w; fault = f })

-- the event leaves, from the first world, the second, with that fault or none
abbrev pub Reacts : Chart → Bounds → ReactionRelation
Reacts c b w e w' f = Gives (react_upto c b w e) (record { world = w'; fault = f })

-- the run over events with inputs: the moments after the start and after each event, up to the first fault
abbrev pub RulesRun : Chart → Bounds → List EventWithInputs → List Moment → Type 0
RulesRun c b events moments = Runs (Starts c b) (Reacts c b) events moments

-- ---- laws

-- exactly one moment
pub record HasOne (P : Moment → Type 0) : Type 0 where
  pub moment : Moment
  pub holds : P moment
  pub only : (other : Moment) → P other → other ≡ moment

-- exactly one run over the events: a list of moments that is one, and every other such list is the same
pub record HasOneRun (c : Chart) (b : Bounds) (events : List EventWithInputs) : Type 0 where
  pub moments : List Moment
  pub runs : RulesRun c b events moments
  pub only : (others : List Moment) → RulesRun c b events others → others ≡ moments

-- what every start and every reaction leaves: active states are consistent, and the root is active
pub record IsRunning (c : Chart) (w : World) : Type 0 where
  pub consistent : IsConsistent c.tree w.marks
  pub root : is_on 0 w.marks ≡ true
