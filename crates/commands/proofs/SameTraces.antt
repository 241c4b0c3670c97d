-- Two programs with the same runs are traced in the same ways.
use Rattle.std.proofs.Common.{◌≡◌, ◌↔◌, ℕ, true, List, [], ◌∷◌, Option, Result, Ok, Err, refl, sym, subst}
use Rattle.flow_base.specs.declared.bounds.Bounds.{Bounds}
use Rattle.flow_base.specs.declared.fault.Fault.{Fault}
use Rattle.active_config.specs.Tree.{Tree}
use Rattle.actions.specs.Names.{Names}
use Rattle.actions.specs.Runs.{EventWithInputs, Moment, StartRelation, ReactionRelation, Runs}
use Rattle.actions.specs.World.{World}
use Rattle.checked_chart.specs.Chart.{Chart}
use Rattle.checked_chart.specs.Valid.{IsValid}
use Rattle.sos_rules.specs.Reactions as rules
use Rattle.code_language.specs.Code.{Code}
use Rattle.code_language.specs.Reactions as code
use Rattle.code_shrink.specs.Shrunk.{IsShrunk}
use Rattle.code_shrink.proofs.RunsAlike.{alike_runs}
use Rattle.chart_compile.specs.Compiled.{RunsAs}
use Rattle.chart_code.specs.Bodies.{code_of_chart}
use Rattle.chart_code.proofs.Whole.{code_runs}
use Rattle.commands.specs.Call.{Call}
use Rattle.step_driver.specs.Traces.{RunFault, Ran}
use Rattle.step_driver.specs.Driving.{Seen, Wrote, RanFirst, IsStartLine, engine_runs, Drives}
use Rattle.step_driver.specs.StepRuns.{StepRuns}
use Rattle.step_driver.specs.declared.driver.DriveEnd.{DriveEnd}
use Rattle.step_driver.specs.declared.driver.DriveEnd.TheVariants as ends
use Rattle.commands.specs.declared.traced.TraceEnd.{TraceEnd}
use Rattle.commands.specs.Trace.{Behaviour, TraceEnds, Driven, NotBegun, seen_of}
use Rattle.commands.specs.Exec.{by_code}
use Rattle.commands.specs.Run.{by_compiled}
use Rattle.commands.proofs.SameSteps.{wrote_all, wrote_given, wrote_part, wrote_some, takes_no_more, wrote}

-- every run of the first is one of the second
abbrev pub RunsToo : StartRelation → ReactionRelation → StartRelation → ReactionRelation → Type 0
RunsToo start react start' react' =
    (events : List EventWithInputs) (moments : List Moment) → Runs start react events moments
    → Runs start' react' events moments

module _ (start start' : StartRelation) (react react' : ReactionRelation) (t : Tree) (n : Names)
    (to : RunsToo start react start' react') (back : RunsToo start' react' start react) where
  -- a traced run
  ran : (events : List EventWithInputs) (text : List ℕ) (fault : Option RunFault)
      → Ran start react t n events text fault → Ran start' react' t n events text fault
  ran events text fault r = record {
    moments = r.moments;
    runs = to events r.moments r.runs;
    traced = r.traced;
    ended = r.ended;
  }

  -- a start is the run over no events
  started : (w : World) (f : Option Fault) → start' w f → start w f
  started w f s = (back [] (record { world = w; fault = f } ∷ []) (s, refl)).0

  -- a traced run over the first events
  ran_first : (events : List EventWithInputs) (text : List ℕ) (fault : Option RunFault)
      → RanFirst start react t n events text fault → RanFirst start' react' t n events text fault
  ran_first events text fault r = record {
    events = r.events;
    rest = r.rest;
    first_events = r.first_events;
    ran = ran r.events text fault r.ran;
  }

  -- the line of a start
  begin : (text : List ℕ) → IsStartLine start' t n text → IsStartLine start t n text
  begin text b = record { world = b.world; fault = b.fault; starts = started b.world b.fault b.starts; line = b.line }

  -- the steps of the first
  abbrev first : StepRuns
  first = engine_runs start react t n

  -- the whole trace, and what was taken
  wrote_too : (seen : Seen) (result : Result (Unit {0}) DriveEnd) → Wrote first seen result
      → Wrote (engine_runs start' react' t n) seen result
  wrote_too seen result w =
      wrote first (Ran start' react' t n) (RanFirst start' react' t n) (IsStartLine start' t n) ran ran_first begin seen result w

  -- what was driven
  pub drives : (seen : Seen) (result : Result (Unit {0}) DriveEnd) → Drives start react t n seen result
      → Drives start' react' t n seen result
  drives seen (Ok done) d = (
    wrote_all first (Ran start' react' t n) (RanFirst start' react' t n) (IsStartLine start' t n) ran ran_first begin seen
        (Ok done) d.0,
    d.1,
  )
  drives seen (Err (ends.Line number fault)) d = wrote_too seen (Err (ends.Line number fault)) d
  drives seen (Err (ends.Fault index fault)) d = wrote_too seen (Err (ends.Fault index fault)) d
  drives seen (Err ends.Read) d =
      wrote_given first (Ran start' react' t n) (RanFirst start' react' t n) (IsStartLine start' t n) ran ran_first begin seen d
  drives seen (Err ends.Write) d = (
    wrote_part first (Ran start' react' t n) (RanFirst start' react' t n) (IsStartLine start' t n) ran ran_first begin seen d.0,
    takes_no_more first (Ran start' react' t n) (RanFirst start' react' t n) (IsStartLine start' t n) ran ran_first begin seen d.1,
  )
  drives seen (Err ends.TooManyLines) d = wrote_too seen (Err ends.TooManyLines) d
  drives seen (Err ends.FileTooLong) d = wrote_too seen (Err ends.FileTooLong) d
  drives seen (Err ends.Memory) d = (
    wrote_some first (Ran start' react' t n) (RanFirst start' react' t n) (IsStartLine start' t n) ran ran_first begin seen d.0,
    takes_no_more first (Ran start' react' t n) (RanFirst start' react' t n) (IsStartLine start' t n) ran ran_first begin seen d.1,
  )

module _ (c : Chart) (k : Code) (b : Bounds) (runs : RunsAs c k) (tree : k.tree ≡ c.tree) (names : k.names ≡ c.names) where
  -- the code runs as the chart
  code_to_rules : RunsToo (code.Starts k b) (code.Reacts k b) (rules.Starts c b) (rules.Reacts c b)
  code_to_rules events moments h = (runs b events moments).1 h

  -- and the chart as the code
  rules_to_code : RunsToo (rules.Starts c b) (rules.Reacts c b) (code.Starts k b) (code.Reacts k b)
  rules_to_code events moments h = (runs b events moments).0 h

  -- how the code behaves, with these states and declarations
  abbrev code_with : Tree → Names → Behaviour
  code_with t n = record {
    starts = code.Starts k b;
    reacts = code.Reacts k b;
    tree = t;
    names = n;
    never_wants_memory = true;
  }

  -- what is traced with those of the chart is traced of the chart
  with_to_rules : (call : Call) (second : List ℕ) (end : TraceEnd)
      → TraceEnds (code_with c.tree c.names) call second end → TraceEnds (by_compiled c b) call second end
  with_to_rules call second end (Driven d) = Driven (record {
    answer = d.answer;
    drives = drives _ _ _ _ c.tree c.names code_to_rules rules_to_code (seen_of call second) d.answer d.drives;
    reads = d.reads;
    writes = d.writes;
    counts = d.counts;
    others = d.others;
    memory = d.memory;
    end_is = d.end_is;
  })
  with_to_rules call second end (NotBegun e same out) = NotBegun e same out

  -- and the other way
  with_to_code : (call : Call) (second : List ℕ) (end : TraceEnd)
      → TraceEnds (by_compiled c b) call second end → TraceEnds (code_with c.tree c.names) call second end
  with_to_code call second end (Driven d) = Driven (record {
    answer = d.answer;
    drives = drives _ _ _ _ c.tree c.names rules_to_code code_to_rules (seen_of call second) d.answer d.drives;
    reads = d.reads;
    writes = d.writes;
    counts = d.counts;
    others = d.others;
    memory = d.memory;
    end_is = d.end_is;
  })
  with_to_code call second end (NotBegun e same out) = NotBegun e same out

  -- so what is traced of the code is traced of the chart
  pub code_as_rules : (call : Call) (second : List ℕ) (end : TraceEnd)
      → TraceEnds (by_code k b) call second end → TraceEnds (by_compiled c b) call second end
  code_as_rules call second end h =
      with_to_rules call second end
      (subst (λ (n : Names). TraceEnds (code_with c.tree n) call second end) names
      (subst (λ (t : Tree). TraceEnds (code_with t k.names) call second end) tree h))

  -- and the other way
  pub rules_as_code : (call : Call) (second : List ℕ) (end : TraceEnd)
      → TraceEnds (by_compiled c b) call second end → TraceEnds (by_code k b) call second end
  rules_as_code call second end h =
      subst (λ (t : Tree). TraceEnds (code_with t k.names) call second end) (sym tree)
      (subst (λ (n : Names). TraceEnds (code_with c.tree n) call second end) (sym names) (with_to_code call second end h))

module _ (c : Chart) (valid : IsValid c) (b : Bounds) where
  -- what is traced of the code of a chart is traced of the chart
  pub traced_to_rules : (call : Call) (second : List ℕ) (end : TraceEnd)
      → TraceEnds (by_code (code_of_chart c) b) call second end → TraceEnds (by_compiled c b) call second end
  unfolding code_of_chart
  traced_to_rules call second end h = code_as_rules c (code_of_chart c) b (code_runs c valid) refl refl call second end h

  -- and the other way
  pub traced_to_code : (call : Call) (second : List ℕ) (end : TraceEnd)
      → TraceEnds (by_compiled c b) call second end → TraceEnds (by_code (code_of_chart c) b) call second end
  unfolding code_of_chart
  traced_to_code call second end h = rules_as_code c (code_of_chart c) b (code_runs c valid) refl refl call second end h

module _ (c : Chart) (k : Code) (valid : IsValid c) (shrunk : IsShrunk (code_of_chart c) k) where
  -- smaller code of a chart's code runs as the chart
  pub shrunk_runs : RunsAs c k
  shrunk_runs b events moments =
      let chart = code_runs c valid b events moments in
      let smaller = alike_runs b (code_of_chart c) k shrunk.names (shrunk.runs b) events moments in (
        λ h. smaller.0 (chart.0 h),
        λ h. chart.1 (smaller.1 h),
      )

  -- and is traced as the chart
  pub shrunk_traced : (b : Bounds) (call : Call) (second : List ℕ) (end : TraceEnd)
      → TraceEnds (by_code k b) call second end ↔ TraceEnds (by_compiled c b) call second end
  unfolding code_of_chart
  shrunk_traced b call second end = (
    code_as_rules c k b shrunk_runs shrunk.tree shrunk.names call second end,
    rules_as_code c k b shrunk_runs shrunk.tree shrunk.names call second end,
  )
