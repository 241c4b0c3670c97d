-- What is true of every engine of this crate, and what its answers say.
use Rattle.std.proofs.Common.{◌≡◌, ℕ, ◌<◌, Some, length, Result, Ok, Err, refl, sym, ap, ◌∙◌, subst, arith}
use Rattle.flow_base.specs.declared.bounds.Bounds.{Bounds}
use Rattle.active_config.specs.Tree.{Tree}
use Rattle.actions.specs.declared.engine.Halt.{Halt}
use Rattle.actions.specs.declared.engine.Halt.TheVariants as halts
use Rattle.actions.specs.declared.event.Event.{Event}
use Rattle.actions.specs.declared.expr.Value.{Value}
use Rattle.actions.specs.Data.{IsValueOf, datum}
use Rattle.actions.specs.Engines.{Fresh, Running, IsInputValue, IsInputSet, AnswersBy, fault_of, IsFaultOf}
use Rattle.actions.specs.Names.{Names}
use Rattle.actions.specs.Runs.{Moment}
use Rattle.actions.specs.World.{World, world_before}
use Rattle.actions.proofs.InputLemmas.{input_value, IsInputSet-fits}
use Rattle.actions.proofs.WorldLemmas.{world_before_fits}
use Rattle.actions.specs.Work.{Run}
use Rattle.checked_chart.specs.Chart.{Chart}
use Rattle.checked_chart.specs.Kept.{Kept, chart_of}
use Rattle.checked_chart.specs.Valid.{IsValid}
use Rattle.sos_rules.specs.Reactions as rules
use Rattle.sos_rules.proofs.Faults.{start_faults, reaction_faults}
use Rattle.sos_interpreter.specs.Charts.{FitsChart}
use Rattle.sos_interpreter.specs.Engine.{EngineState, IsEngine, first_world}
use Rattle.sos_interpreter.specs.Gives.{Gives}
use Rattle.sos_interpreter.specs.Settled.{Settled, settled}

-- what is given from some height on is given
pub given : {A : Type 0} (m : ℕ → Run A) (r : Run A) (x : Moment) → Settled m r → rules.moment_of r ≡ Some x
    → rules.Gives m x
given m r x (settled from h) e = record { height = from; gives = ap rules.moment_of (h from (omega arith)) ∙ e }

-- the answer of a call that failed, as an answer of an engine
pub answered : {A B : Type 0} (v : A → B) (m : ℕ → Run B) (halt : Halt) (w : World) → Gives v m (Err halt) w
    → AnswersBy (λ f. rules.Gives m (record { world = w; fault = f })) (Err halt)
answered v m (halts.Fault x) w g = given m _ _ g refl
answered v m halts.Memory w g = tt

-- the answer of a call without a value, as an answer of an engine
pub answered_unit : (m : ℕ → Run (Unit {0})) (r : Result (Unit {0}) Halt) (w : World)
    → Gives {A = Unit {0}} (λ _. tt) m r w → AnswersBy (λ f. rules.Gives m (record { world = w; fault = f })) r
answered_unit m (Ok a) w g = given m _ _ g refl
answered_unit m (Err halt) w g = answered {A = Unit {0}} (λ _. tt) m halt w g

-- the world before the start is one of its chart
pub first_fits : (c : Chart) → IsValid c → FitsChart c (first_world c)
first_fits c v = world_before_fits c.tree c.names v.state_names v.inits

-- an engine that is made of the tree, the names and the world before the start
pub new_engine : (c : Kept) (b : Bounds) (t : Tree) (n : Names) (w : World) → t ≡ (chart_of c).tree
    → n ≡ (chart_of c).names → IsValid (chart_of c) → w ≡ world_before t n
    → IsEngine (record { chart = c; bounds = b; world = w; stage = Fresh })
new_engine c b t n w tree names valid is =
    let first : w ≡ first_world (chart_of c) =
    is ∙ ap (λ (x : Tree). world_before x n) tree ∙ ap (λ (x : Names). world_before (chart_of c).tree x) names in
    record { fits = subst (FitsChart (chart_of c)) (sym first) (first_fits (chart_of c) valid); fresh = λ _. first }

-- a value of an input of an engine is one of the input of its chart
input_of : (e same : EngineState) (v : ℕ) (value : Value) → e ≡ same → IsInputValue (chart_of same.chart).names v value
    → IsInputValue (chart_of e.chart).names v value
input_of e same v value is given' =
    subst (λ (x : EngineState). IsInputValue (chart_of x.chart).names v value) (sym is) given'

-- the value that an input is given is one of its datum, which is there
pub engine_input : (e same : EngineState) (v : ℕ) (value : Value) → e ≡ same → FitsChart (chart_of e.chart) e.world
    → IsInputValue (chart_of same.chart).names v value
    → (v < length e.world.vals) × IsValueOf (datum e.world.vals v).sort value
engine_input e same v value is fits given' =
    input_value (chart_of e.chart).tree (chart_of e.chart).names e.world v value fits
    (input_of e same v value is given')

-- after an input is set the engine still meets its invariant
pub engine_set : (e same : EngineState) (v : ℕ) (value : Value) (w : World) → e ≡ same → IsEngine e
    → same.stage ≡ Running → IsInputValue (chart_of same.chart).names v value → IsInputSet e.world v value w
    → IsEngine (record e { world = w })
engine_set e same v value w is whole going given' set =
    let running : e.stage ≡ Running = ap (λ (x : EngineState). x.stage) is ∙ going in
    record {
      fits = IsInputSet-fits (chart_of e.chart).tree (chart_of e.chart).names e.world w v value whole.fits
          (input_of e same v value is given') set;
      fresh = λ fresh. absurd cc;
    }

-- the fault that an answer of a start has names a datum that is declared
pub started_fault : (c : Chart) → IsValid c → (b : Bounds) (r : Result (Unit {0}) Halt) (w : World)
    → AnswersBy (rules.Starts c b w) r → IsFaultOf c.names (fault_of r)
started_fault c v b (Ok a) w h = tt
started_fault c v b (Err (halts.Fault x)) w h = start_faults c v b _ h
started_fault c v b (Err halts.Memory) w h = tt

-- the fault that an answer of a reaction has names a datum that is declared
pub reacted_fault : (c : Chart) → IsValid c
    → (b : Bounds) (w : World) (e : Event) (r : Result (Unit {0}) Halt) (w' : World)
    → AnswersBy (rules.Reacts c b w e w') r → IsFaultOf c.names (fault_of r)
reacted_fault c v b w e (Ok a) w' h = tt
reacted_fault c v b w e (Err (halts.Fault x)) w' h = reaction_faults c v b w e _ h
reacted_fault c v b w e (Err halts.Memory) w' h = tt
