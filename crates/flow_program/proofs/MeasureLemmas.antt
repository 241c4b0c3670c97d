-- A run whose whole trace was kept, and its measures.
use Rattle.std.proofs.Common.{◌≡◌, ℕ, ◌-◌, ◌≤◌, Bool, true, List, [], ◌∷◌, length, Option, Some, None, Result, Ok, Err}
use Rattle.std.proofs.Common.{IfOk, OnOk}
use Rattle.std.proofs.Common.{refl, sym, ap, ◌∙◌, subst, arith}
use Rattle.std.specs.Io.KnownBytes.{append_known}
use Rattle.flow_base.specs.declared.bounds.Bounds.{Bounds}
use Rattle.actions.specs.Names.{Names}
use Rattle.actions.specs.Runs.{EventWithInputs, Moment}
use Rattle.actions.proofs.RunLemmas.{Runs-one}
use Rattle.checked_chart.specs.Chart.{Chart}
use Rattle.checked_chart.specs.Valid.{HasNames}
use Rattle.sos_rules.specs.Reactions.{Starts, Reacts, RulesRun}
use Rattle.event_file.specs.EventFile.{Stop, AtEnd, AtLine, AtEvent, AtLimit, event_file}
use Rattle.step_driver.specs.Driving.{Seen, IsText, Drives, WroteAll, answer_of, engine_runs}
use Rattle.step_driver.specs.Traces.{RunFault, run_fault, trace}
use Rattle.step_driver.specs.declared.driver.DriveEnd.{DriveEnd}
use Rattle.step_driver.specs.declared.driver.DriveEnd.TheVariants as answers
use Rattle.commands.specs.Call.{Call}
use Rattle.commands.specs.declared.traced.TraceEnd.{TraceEnd}
use Rattle.commands.specs.Trace.{Behaviour, TraceEnds, Driven, NotBegun, seen_of, end_of}
use Rattle.sos_interpreter.specs.Engine.{Program}
use Rattle.sos_interpreter.specs.EngineLaws.{rules_one_start, rules_one_reaction}
use Rattle.flow_program.specs.declared.measure.EndFault.{EndFault}
use Rattle.flow_program.specs.declared.measure.Measures.{Measures}
use Rattle.flow_program.specs.Measures.{HasMeasures, AreCounts, shown_fault, fault_of_end, is_whole}
use Rattle.flow_program.specs.Newlines.{newlines}
use Rattle.flow_program.proofs.TraceLines.{are_names, trace_lines}

-- ---- the whole trace

-- where the whole trace was written, the run is one over all events of the file
all_written : (b : Behaviour) (seen : Seen) (answer : Result (Unit {0}) DriveEnd)
    → Drives b.starts b.reacts b.tree b.names seen answer
    → is_whole (end_of b.names answer) ≡ true
    → WroteAll (engine_runs b.starts b.reacts b.tree b.names) seen answer
all_written b seen (Ok done) drives whole = drives.0
all_written b seen (Err (answers.Line number fault)) drives whole = drives.0
all_written b seen (Err (answers.Fault index fault)) drives whole = drives.0
all_written b seen (Err answers.Read) drives whole = absurd (cc)
all_written b seen (Err answers.Write) drives whole = absurd (cc)
all_written b seen (Err answers.TooManyLines) drives whole = drives.0
all_written b seen (Err answers.FileTooLong) drives whole = drives.0
all_written b seen (Err answers.Memory) drives whole = absurd (cc)

-- the fault that the ending tells is that of the run
fault_told : (n : Names) (fault : Option RunFault) (stop : Stop) → fault_of_end (end_of n (answer_of fault stop))
    ≡ shown_fault n fault
fault_told n (Some f) stop = refl
fault_told n None AtEnd = refl
fault_told n None (AtLine number fault) = refl
fault_told n None AtEvent = refl
fault_told n None AtLimit = refl

-- the kept bytes are the trace of a run of the chart over the events of the text, and that fault or none ended it
pub record Keeps (c : Chart) (bounds : Bounds) (text kept : List ℕ) (fault : Option EndFault) : Type 0 where
  pub moments : List Moment
  pub runs : RulesRun c bounds (event_file c.names text).events moments
  pub kept_is : kept ≡ trace c.tree c.names (event_file c.names text).events moments
  pub fault_is : fault ≡ shown_fault c.names (run_fault 0 moments)

-- how a chart behaves by the rules, where memory may be wanted or not
abbrev pub behaviour : Chart → Bounds → Bool → Behaviour
behaviour c bounds never = record {
  starts = Starts c bounds;
  reacts = Reacts c bounds;
  tree = c.tree;
  names = c.names;
  never_wants_memory = never;
}

-- what was kept of a run whose whole trace was written to a sink that was empty
pub keeps : (c : Chart) (bounds : Bounds) (never : Bool) (call : Call) (second text kept : List ℕ) (end : TraceEnd)
    → call.sources_before.left second ≡ Some text → call.output_before.holds ≡ Some [] → call.output_after.holds
    ≡ Some kept
    → TraceEnds (behaviour c bounds never) call second end → is_whole end ≡ true
    → Keeps c bounds text kept (fault_of_end end)
keeps c bounds never call second text kept end left before after (NotBegun memory _ _) whole = absurd (cc)
keeps c bounds never call second text kept end left before after (Driven d) whole =
    let b = behaviour c bounds never in
    let w = all_written b (seen_of call second) d.answer d.drives (ap is_whole (sym d.end_is) ∙ whole) in
    let told : text ≡ w.text = told_text (call.sources_before.left second) w.text left w.is_text in
    let bytes : Some kept ≡ Some w.trace =
    sym after ∙ w.wrote ∙ ap (λ (z : Option (List ℕ)). append_known z w.trace) before in
    let same : kept ≡ w.trace = let e = bytes in cc in
    record {
      moments = w.ran.moments;
      runs = subst (λ (z : List ℕ). RulesRun c bounds (event_file c.names z).events w.ran.moments) (sym told)
          w.ran.runs;
      kept_is = same ∙ w.ran.traced ∙ ap (λ (z : List ℕ). trace c.tree c.names (event_file c.names z).events
          w.ran.moments) (sym told);
      fault_is = ap fault_of_end d.end_is ∙ ap (λ (a : Result (Unit {0}) DriveEnd). fault_of_end (end_of c.names a))
          w.answer
          ∙ fault_told c.names w.end (event_file c.names w.text).stop ∙ ap (shown_fault c.names) (sym w.ran.ended);
    }
  where
    told_text : (told : Option (List ℕ)) (other : List ℕ) → told ≡ Some text → IsText told other → text ≡ other
    told_text None other is at = absurd (cc)
    told_text (Some bytes) other is at = let e = is in cc

-- ---- the measures

-- a trace has a newline for each moment
newlines_are : (c : Chart) (bounds : Bounds) (text kept : List ℕ) (fault : Option EndFault) → HasNames c.tree c.names
    → (k : Keeps c bounds text kept fault) → newlines kept ≡ length k.moments
newlines_are c bounds text kept fault names k =
    ap newlines k.kept_is
    ∙ trace_lines (Starts c bounds) (Reacts c bounds) c.tree c.names (are_names c.tree c.names names)
    (event_file c.names text).events k.moments k.runs

-- a run has a moment
begun : (c : Chart) (bounds : Bounds) (given : List EventWithInputs) (moments : List Moment)
    → RulesRun c bounds given moments → 1 ≤ length moments
begun c bounds given [] runs = absurd runs
begun c bounds given (m ∷ moments) runs = omega arith

-- where a whole trace was kept, it is that of a run over the events of the text
pub record Kept (c : Chart) (bounds : Bounds) (text kept : List ℕ) (end : TraceEnd) : Type 0 where
  pub names : HasNames c.tree c.names
  pub trace : is_whole end ≡ true → Keeps c bounds text kept (fault_of_end end)

-- so it is after a run that wrote to a sink that was empty
pub kept_of : (c : Chart) (bounds : Bounds) (never : Bool) (call : Call) (second text kept : List ℕ) (end : TraceEnd)
    → HasNames c.tree c.names → call.sources_before.left second ≡ Some text → call.output_before.holds ≡ Some []
    → call.output_after.holds ≡ Some kept → TraceEnds (behaviour c bounds never) call second end
    → Kept c bounds text kept end
kept_of c bounds never call second text kept end names left before after traced =
    record { names = names; trace = keeps c bounds never call second text kept end left before after traced }

-- a trace that was kept has a newline
pub some_newline : (c : Chart) (bounds : Bounds) (text kept : List ℕ) (end : TraceEnd) → Kept c bounds text kept end
    → is_whole end ≡ true → 1 ≤ newlines kept
some_newline c bounds text kept end k whole =
    let trace = k.trace whole in
    let one = begun c bounds (event_file c.names text).events trace.moments trace.runs in
    omega (arith, newlines_are c bounds text kept (fault_of_end end) k.names trace, one)

-- what is counted of the bytes are the measures of the run
pub measured : {E : Type 0} → (c : Chart) (bounds : Bounds) (text kept : List ℕ) (end : TraceEnd)
    (result : Result Measures E)
    → Kept c bounds text kept end → OnOk result (is_whole end ≡ true) → IfOk result (AreCounts kept end)
    → IfOk result (HasMeasures c bounds text)
measured c bounds text kept end (Err e) k whole counts = tt
measured c bounds text kept end (Ok m) k whole counts =
    let trace = k.trace whole in
    record {
      moments = trace.moments;
      runs = trace.runs;
      events = counts.events ∙ ap (λ (x : ℕ). x - 1) (newlines_are c bounds text kept (fault_of_end end) k.names trace);
      trace_bytes = counts.trace_bytes ∙ ap (λ (z : List ℕ). length z) trace.kept_is;
      fault = counts.fault ∙ trace.fault_is;
    }

-- ---- one run

-- a chart has one run over events
one_run : (c : Chart) (bounds : Bounds) (given : List EventWithInputs) (moments others : List Moment)
    → RulesRun c bounds given moments
    → RulesRun c bounds given others → moments ≡ others
one_run c bounds given moments others a b =
    let p : Program = record { chart = c; bounds = bounds } in
    Runs-one (Starts c bounds) (Reacts c bounds) (rules_one_start p) (rules_one_reaction p) given moments others a b

-- so it has the same measures each time
pub one_measure : (c : Chart) (bounds : Bounds) (text : List ℕ) (m m' : Measures) → HasMeasures c bounds text m
    → HasMeasures c bounds text m'
    → m ≡ m'
one_measure c bounds text m m' a b =
    let given = (event_file c.names text).events in
    let same = one_run c bounds given a.moments b.moments a.runs b.runs in
    let events : m.events ≡ m'.events = a.events ∙ ap (λ (l : List Moment). length l - 1) same ∙ sym b.events in
    let bytes : m.trace_bytes ≡ m'.trace_bytes =
    a.trace_bytes ∙ ap (λ (l : List Moment). length (trace c.tree c.names given l)) same ∙ sym b.trace_bytes in
    let fault : m.fault ≡ m'.fault =
    a.fault ∙ ap (λ (l : List Moment). shown_fault c.names (run_fault 0 l)) same ∙ sym b.fault in
    ap (λ (x : ℕ). record { events = x; trace_bytes = m.trace_bytes; fault = m.fault }) events
    ∙ ap (λ (x : ℕ). record { events = m'.events; trace_bytes = x; fault = m.fault }) bytes
    ∙ ap (λ (x : Option EndFault). record { events = m'.events; trace_bytes = m'.trace_bytes; fault = x }) fault
