-- A counter to which no statement assigns is exact at each moment of a run.
use Rattle.std.proofs.Common.{◌≡◌, ◌≢◌, ℕ, ◌+◌, List, [], ◌∷◌, Option, Some, None, refl, sym, ap, ◌∙◌}
use Rattle.std.proofs.Common.{subst, min}
use Rattle.std.specs.Prelude.{slice_get}
use Rattle.std.specs.List.{AllByRecursion}
use Rattle.flow_base.specs.declared.bounds.Bounds.{Bounds}
use Rattle.flow_base.specs.declared.fault.Fault.{Fault}
use Rattle.actions.specs.declared.expr.Value.{Value}
use Rattle.actions.specs.Data.{Datum, datum, initial, kept, assigned}
use Rattle.actions.specs.Engines.{IsInputSet}
use Rattle.actions.specs.Names.{Names}
use Rattle.actions.specs.Runs.{Moment, EventWithInputs, CanBeGiven, AreInputValues, AreSet, UnlessFaulted, GoesOn}
use Rattle.actions.specs.World.{World}
use Rattle.actions.specs.Work.{Run}
use Rattle.checked_chart.specs.Chart.{Chart}
use Rattle.sos_rules.specs.Reactions.{moment_of}
use Rattle.counting_rules.specs.Counters.{Counters}
use Rattle.counting_rules.specs.Numbers.{IsCounter}
use Rattle.counting_rules.specs.Reactions.{CountingReacts, CountingRun}
use Rattle.counting_log.specs.Assigned.{OnlyChart}
use Rattle.counting_log.specs.Log.{Note, since}
use Rattle.counting_log.specs.Runs.{IsNoInput, logged_moment, LoggedReacts, GoesOnLogged, LoggedRun}
use Rattle.counting_log.specs.Tells.{Tells, ended, faulted, unfinished}
use Rattle.counting_log.specs.Times.{IsCounterOf, IsCount}
use Rattle.counting_log.specs.Work.{Logged}
use Rattle.counting_log.proofs.Since.{other_kept}
use Rattle.counting_log.proofs.Exact.{exact_start, exact_reaction}

-- ---- what work with a log leads to

-- the log beside a moment, of which P holds where there is no fault
record Beside (P : World → List Note → Type 0) {A : Type 0} (r : Logged A) (m : Moment) : Type 0 where
  log : List Note
  leads : logged_moment r ≡ Some (m, log)
  holds : m.fault ≡ None → P m.world log

-- where work without a log leads, work with one leads, with some log
beside : (P : World → List Note → Type 0) {A : Type 0} (r : Logged A) (q : Run A) (m : Moment) → Tells P r q
    → moment_of q ≡ Some m → Beside P r m
beside P _ _ m (ended a w l h) e =
    let same : record { world = w; fault = None } ≡ m = cc in
    record { log = l; leads = ap (λ x. Some (x, l)) same; holds = λ _. subst (λ (x : Moment). P x.world l) same h }
beside P _ _ m (faulted x w l) e =
    let same : record { world = w; fault = Some x } ≡ m = cc in
    record {
      log = l;
      leads = ap (λ y. Some (y, l)) same;
      holds = λ none. absurd (let f = ap (λ (y : Moment). y.fault) same ∙ none in cc);
    }
beside P _ _ m unfinished e = absurd cc

-- ---- inputs

-- setting another datum leaves the counter
set_other : (w w' : World) (u v : ℕ) (value : Value) → u ≢ v → IsInputSet w u value w' → datum w'.vals v ≡ datum w.vals v
unfolding assigned
set_other w w' u v value ne set =
    other_kept w u v (kept value (datum w.vals u)) w' ne
    (let f = set.1 in let g = set.2 in cc)

-- setting inputs leaves a datum that is none
inputs_leave : (n : Names) (v u : ℕ) (inputs : List (Option Value)) (w w' : World) → IsNoInput n v
    → AreInputValues n u inputs → AreSet u inputs w w' → datum w'.vals v ≡ datum w.vals v
inputs_leave n v u [] w w' free are set = ap (λ (x : World). datum x.vals v) set
inputs_leave n v u (None ∷ inputs) w w' free are set = inputs_leave n v (u + 1) inputs w w' free are set
inputs_leave n v u (Some value ∷ inputs) w w' free are set =
    inputs_leave n v (u + 1) inputs set.0 w' free are.1 set.2
    ∙ set_other w set.0 u v value
    (λ same. free are.0.0 (subst (λ x. slice_get n.vars x ≡ Some are.0.0) same are.0.1) are.0.2) set.1

-- ---- runs

module _ (c : Chart) (k : Counters) (b : Bounds) (v s e greatest : ℕ) (own : IsCounterOf k v s e)
    (only : OnlyChart (λ u. u ≢ v) c) (free : IsNoInput c.names v) where
  abbrev Count : World → List Note → Type 0
  Count = IsCount v s e greatest

  -- an event from a moment without a fault
  next_counts : (m : Moment) (l : List Note) (given : EventWithInputs) (events : List EventWithInputs)
      (moments : List Moment) (next : Moment) (later : List Moment) → Count m.world l → CanBeGiven c.names given
      → moments ≡ next ∷ later
      → (r : (set : World) × AreSet 0 given.inputs m.world set × CountingReacts c k b set given.event next.world next.fault)
      → ((log : List Note) → (next.fault ≡ None → Count next.world log) → GoesOnLogged c k b Count next log events later)
      → (x : Moment) × (y : List Moment) × (log : List Note) × (moments ≡ x ∷ y)
      × ((set : World) × AreSet 0 given.inputs m.world set × LoggedReacts c k b l log set given.event x.world x.fault)
      × (x.fault ≡ None → Count x.world log) × GoesOnLogged c k b Count x log events y
  next_counts m l given events moments next later count can is r more =
      let here : Count r.0 l = (
        count.0,
        subst (λ (d : Datum). IsCounter d greatest (min (since s e l) greatest))
            (sym (inputs_leave c.names v 0 given.inputs m.world r.0 free can.inputs r.1)) count.1,
      ) in
      let y = beside Count _ _ (record { world = next.world; fault = next.fault })
      (exact_reaction c k b v s e greatest r.2.height own only r.0 l given.event here) r.2.gives in
      (next, later, y.log, is, (r.0, r.1, record { height = r.2.height; gives = y.leads }), y.holds, more y.log y.holds)

  unless_counts : (f : Option Fault) {A B : Type 0} (moments : List Moment) → (f ≡ None → A → B)
      → UnlessFaulted f moments A → UnlessFaulted f moments B
  unless_counts (Some x) moments h run = run
  unless_counts None moments h run = h refl run

  goes_on : (m : Moment) (l : List Note) (events : List EventWithInputs) (moments : List Moment)
      → (m.fault ≡ None → Count m.world l) → AllByRecursion (CanBeGiven c.names) events
      → GoesOn (CountingReacts c k b) m events moments → GoesOnLogged c k b Count m l events moments
  goes_on m l [] moments count all run = run
  goes_on m l (given ∷ events) moments count all run =
      unless_counts m.fault moments (λ none x.
      next_counts m l given events moments x.0 x.1 (count none) all.0 x.2 x.3
      (λ log holds. goes_on x.0 log events x.1 holds all.1 x.4)) run

  pub run_counts : (events : List EventWithInputs) (moments : List Moment) → IsCounter (datum (initial c.names) v) greatest 0
      → AllByRecursion (CanBeGiven c.names) events → CountingRun c k b events moments
      → LoggedRun c k b Count events moments
  run_counts events [] first all run = run
  run_counts events (m ∷ moments) first all run =
      let y = beside Count _ _ m (exact_start c k b v s e greatest run.0.height own only first) run.0.gives in
      (y.log, record { height = run.0.height; gives = y.leads }, y.holds, goes_on m y.log events moments y.holds all run.1)
