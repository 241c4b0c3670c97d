-- A run of the code is the run of the rules: the start, and then each event.
use Rattle.std.proofs.Common.{◌≡◌, ◌+◌, ℕ, List, [], ◌∷◌, Option, Some, None, refl, sym, ap, ◌∙◌, subst}
use Rattle.std.specs.Prelude.{◌↔◌}
use Rattle.flow_base.specs.declared.bounds.Bounds.{Bounds}
use Rattle.flow_base.specs.declared.fault.Fault.{Fault}
use Rattle.active_config.specs.Marks.{is_on, IsConsistent}
use Rattle.active_config.proofs.MarksLemmas.{no_marks_consistent}
use Rattle.active_config.proofs.PathLemmas.{is_at_or_below-same}
use Rattle.actions.specs.declared.event.Event.{Event}
use Rattle.actions.specs.declared.event.Event.TheVariants.{Start}
use Rattle.actions.specs.declared.expr.Value.{Value}
use Rattle.actions.specs.Runs.{Moment, EventWithInputs, StartRelation, ReactionRelation, AreSet, ReactsWithInputs}
use Rattle.actions.specs.Runs.{UnlessFaulted, GoesOn, Runs}
use Rattle.actions.specs.World.{World, world_before, begun}
use Rattle.actions.specs.Work.{Run, Ended, Faulted, Unfinished, Now, from_outside}
use Rattle.checked_chart.specs.Chart.{Chart}
use Rattle.checked_chart.specs.Valid.{IsValid}
use Rattle.sos_rules.specs.Reactions.{moment_of, Gives, start_upto, react_upto, HasOne, IsRunning, RulesRun}
use Rattle.sos_rules.specs.Rules.{upto}
use Rattle.sos_rules.specs.Reactions as rules
use Rattle.sos_rules.proofs.Reactions.{one_start, one_reaction, start_keeps, reaction_keeps}
use Rattle.code_language.specs.Code.{Code, Procedures}
use Rattle.code_language.specs.Machine.{Program, CodeState, machine, fresh}
use Rattle.code_language.specs.Reactions.{Leads, first_frame, CodeRun}
use Rattle.code_language.specs.Reactions as code
use Rattle.code_language.specs.Reach.{MeetsAim, returns, Any}
use Rattle.code_language.proofs.Endings.{reached_leads, falls_leads, one_end}
use Rattle.chart_code.specs.Compiled.{Compiled, ListsCompiled}
use Rattle.chart_code.specs.Kinds.{program, AllDo}
use Rattle.chart_code.specs.Numbers.{Numbers, ListNumbers}
use Rattle.chart_code.specs.StateProcedures.{went_result}
use Rattle.chart_code.proofs.Lists.{searches_do}
use Rattle.chart_code.proofs.ByHeight.{all_do}

-- ---- one start or reaction

-- code that meets work leads to the moment that the work leads to
said : {A : Type 0} (C : Program) (m : CodeState) (now : Now) (Q : A → World → ℕ → Type 0) (o : Run A)
    → MeetsAim C m (returns now [] Q) o → (r : Moment) → moment_of o ≡ Some r → Leads C m r
said C m now Q (Ended a w) h r e =
    let f : record { world = w; fault = None } ≡ r = cc in subst (Leads C m) f (reached_leads h.by.reached refl)
said C m now Q (Faulted x w) h r e =
    let f : record { world = w; fault = Some x } ≡ r = cc in subst (Leads C m) f (falls_leads h.by)
said C m now Q Unfinished h r e = absurd cc

-- where there is one moment, which code leads to, code leads to no other
back : (P : Moment → Type 0) (C : Program) (m : CodeState) → HasOne P → ((r : Moment) → P r → Leads C m r)
    → (r : Moment) → Leads C m r → P r
back P C m one to r leads = subst P (one_end (to one.moment one.holds) leads) one.holds

module _ (c : Chart) (valid : IsValid c) (b : Bounds) (k : Procedures) (N : Numbers) (M : ListNumbers)
    (K : Compiled c k N) (L : ListsCompiled c k N M) where
  -- the chart's code under these bounds
  abbrev C : Program
  C = program c b k

  -- every kind of procedure does its work, at every height
  pub each_does : (n : ℕ) → AllDo C c N (upto c b n)
  each_does n = all_do c b k N valid K (searches_do c valid b k N M L) n

  -- the code begins the start
  abbrev starting : CodeState
  starting = first_frame k.start (world_before c.tree c.names) (from_outside Start)

  -- the code begins an event
  abbrev reacting : World → Event → CodeState
  reacting w e = first_frame k.react (begun w) (from_outside e)

  -- what the rules do at the start, the code does
  starts : (r : Moment) → Gives (start_upto c b) r → Leads C starting r
  starts r x =
      let now = from_outside Start in
      let w = world_before c.tree c.names in
      let does =
      (each_does x.height).enter.by 0 0
      (record { state = valid.tree.some; below = is_at_or_below-same c.tree 0 0 refl }) w
      (no_marks_consistent c.tree) now
      0 None 0 0 [] in
      said C starting now Any (start_upto c b x.height)
      (subst (λ q. MeetsAim C (machine w now 0 (fresh q None 0 0 None ∷ [])) (returns now [] Any)
      (start_upto c b x.height))
      (sym K.start) does) r x.gives

  -- and what they do at an event
  reacts : (w : World) (e : Event) → IsRunning c w → (r : Moment) → Gives (react_upto c b w e) r
      → Leads C (reacting w e) r
  reacts w e h r x =
      let now = from_outside e in
      let does =
      (each_does x.height).process.by 0 valid.tree.some (begun w) h.consistent h.root now 0 None 0 0 None [] in
      said C (reacting w e) now (λ a v x. x ≡ went_result a) (react_upto c b w e x.height)
      (subst (λ q. MeetsAim C (machine (begun w) now 0 (fresh q None 0 0 None ∷ []))
      (returns now [] (λ a v x. x ≡ went_result a))
      (react_upto c b w e x.height)) (sym K.react) does) r x.gives

  -- the code does nothing else at the start
  starts_back : (r : Moment) → Leads C starting r → Gives (start_upto c b) r
  starts_back r leads = back (Gives (start_upto c b)) C starting (one_start c b valid.tree) starts r leads

  -- nor at an event
  reacts_back : (w : World) (e : Event) → IsRunning c w → (r : Moment) → Leads C (reacting w e) r
      → Gives (react_upto c b w e) r
  reacts_back w e h r leads =
      back (Gives (react_upto c b w e)) C (reacting w e) (one_reaction c b valid.tree w e) (reacts w e h) r leads

-- ---- runs over events

-- whether a chart is running depends on the marks alone
same_marks : (c : Chart) (w v : World) → v.marks ≡ w.marks → IsRunning c w → IsRunning c v
same_marks c w v e h =
    record { consistent = subst (IsConsistent c.tree) (sym e) h.consistent; root = ap (is_on 0) e ∙ h.root }

-- values of inputs leave the marks as they are
set_marks : (v : ℕ) (inputs : List (Option Value)) (w w' : World) → AreSet v inputs w w' → w'.marks ≡ w.marks
set_marks v [] w w' h = ap (λ (x : World). x.marks) h
set_marks v (None ∷ inputs) w w' h = set_marks (v + 1) inputs w w' h
set_marks v (Some value ∷ inputs) w w' h =
    set_marks (v + 1) inputs h.0 w' h.2 ∙ ap (λ (x : World). x.marks) h.1.2

-- a run of one engine is a run of another, where what the first does the second does, in worlds that the first keeps
module _ (P : World → Type 0) (same : (w v : World) → v.marks ≡ w.marks → P w → P v)
    (react react' : ReactionRelation)
    (keeps : (w : World) (e : Event) (v : World) (x : Option Fault) → P w → react w e v x → P v)
    (does : (w : World) (e : Event) (v : World) (x : Option Fault) → P w → react w e v x → react' w e v x) where
  -- after a moment come the same moments
  goes_on : (events : List EventWithInputs) (m : Moment) (moments : List Moment) → P m.world
      → GoesOn react m events moments → GoesOn react' m events moments
  goes_on [] m moments p h = h
  goes_on (given ∷ events) m moments p h = go m.fault (goes_on events) h
    where
      go : (x : Option Fault)
          → ((next : Moment) (later : List Moment) → P next.world → GoesOn react next events later
          → GoesOn react' next events later)
          → UnlessFaulted x moments ((next : Moment) × (later : List Moment) × (moments ≡ next ∷ later)
          × ReactsWithInputs react m.world given next.world next.fault × GoesOn react next events later)
          → UnlessFaulted x moments ((next : Moment) × (later : List Moment) × (moments ≡ next ∷ later)
          × ReactsWithInputs react' m.world given next.world next.fault × GoesOn react' next events later)
      go (Some x) more y = y
      go None more y =
          let next = y.0 in
          let set = y.3.0 in
          let p' = same m.world set (set_marks 0 given.inputs m.world set y.3.1) p in
          let k = keeps set given.event next.world next.fault p' y.3.2 in (
            next,
            y.1,
            y.2,
            (set, y.3.1, does set given.event next.world next.fault p' y.3.2),
            more next y.1 k y.4,
          )

  -- and so after the start
  pub runs : (start start' : StartRelation) → ((w : World) (x : Option Fault) → start w x → P w)
      → ((w : World) (x : Option Fault) → start w x → start' w x)
      → (events : List EventWithInputs) (moments : List Moment)
      → Runs start react events moments → Runs start' react' events moments
  runs start start' first to events [] h = absurd h
  runs start start' first to events (m ∷ moments) h =
      (to m.world m.fault h.0, goes_on events m moments (first m.world m.fault h.0) h.1)

-- where the procedures of a valid chart stand, the code has the runs of the chart and no others
module _ (c : Chart) (valid : IsValid c) (b : Bounds) (k : Procedures) (N : Numbers) (M : ListNumbers)
    (K : Compiled c k N) (L : ListsCompiled c k N M) where
  -- the chart's code
  abbrev chart_code : Code
  chart_code = record { tree = c.tree; names = c.names; procedures = k }

  -- what the rules do, the code does
  to_code : (events : List EventWithInputs) (moments : List Moment) → RulesRun c b events moments
      → CodeRun chart_code b events moments
  to_code events moments h =
      runs (IsRunning c) (same_marks c) (rules.Reacts c b) (code.Reacts chart_code b)
      (λ w e v x p r. reaction_keeps c valid.tree b w e _ p r)
      (λ w e v x p r. reacts c valid b k N M K L w e p _ r)
      (rules.Starts c b) (code.Starts chart_code b) (λ w x s. start_keeps c valid.tree b _ s)
      (λ w x s. starts c valid b k N M K L _ s) events moments h

  -- what the code does, the rules do
  from_code : (events : List EventWithInputs) (moments : List Moment) → CodeRun chart_code b events moments
      → RulesRun c b events moments
  from_code events moments h =
      runs (IsRunning c) (same_marks c) (code.Reacts chart_code b) (rules.Reacts c b)
      (λ w e v x p r. reaction_keeps c valid.tree b w e _ p (reacts_back c valid b k N M K L w e p _ r))
      (λ w e v x p r. reacts_back c valid b k N M K L w e p _ r)
      (code.Starts chart_code b) (rules.Starts c b)
      (λ w x s. start_keeps c valid.tree b _ (starts_back c valid b k N M K L _ s))
      (λ w x s. starts_back c valid b k N M K L _ s) events moments h

-- the same for code that has the states and the names of the chart
pub same_runs : (c : Chart) (k : Code) (N : Numbers) (M : ListNumbers) → IsValid c → k.tree ≡ c.tree → k.names ≡ c.names
    → Compiled c k.procedures N → ListsCompiled c k.procedures N M
    → (b : Bounds) (events : List EventWithInputs) (moments : List Moment)
    → RulesRun c b events moments ↔ CodeRun k b events moments
same_runs c k N M valid tree names K L b events moments =
    let e : record { tree = c.tree; names = c.names; procedures = k.procedures } ≡ k =
    ap (λ t. record { tree = t; names = c.names; procedures = k.procedures }) (sym tree)
    ∙ ap (λ n. record { tree = k.tree; names = n; procedures = k.procedures }) (sym names) in (
      λ h. subst (λ x. CodeRun x b events moments) e (to_code c valid b k.procedures N M K L events moments h),
      λ h. from_code c valid b k.procedures N M K L events moments (subst (λ x. CodeRun x b events moments) (sym e) h),
    )
