-- The line of `selftest`, and how the command ends.
use Rattle.std.specs.Prelude.{◌≡◌, ℕ, ◌-◌, List, length, Option, Some, None}
use Rattle.flow_base.specs.declared.bounds.Bounds.{Bounds}
use Rattle.active_config.specs.Tree.{state_count}
use Rattle.actions.specs.Names.{Names}
use Rattle.actions.specs.Runs.{EventWithInputs, Moment}
use Rattle.checked_chart.specs.Chart.{Chart}
use Rattle.sos_rules.specs.Reactions.{RulesRun}
use Rattle.accepted_charts.specs.Accepted.{IsAccepted}
use Rattle.event_file.specs.EventFile.{event_file}
use Rattle.trace_text.specs.Trace.{result_word}
use Rattle.step_driver.specs.Traces.{RunFault, run_fault, trace}
use Rattle.commands.specs.Call.{Output}
use Rattle.commands.specs.Writing.{Wrote, WroteFront}
use Rattle.commands.specs.Accepted.{RefusesAccepted}
use Rattle.chart_gen.specs.Cases.{chart_text, events_text}
use Rattle.flow_program.specs.CaseLine.{line_text, result_of}
use Rattle.flow_program.specs.Measures.{shown_fault}
use Rattle.flow_program.specs.declared.selftest.SelftestEnd.{SelftestEnd}
use Rattle.flow_program.specs.declared.measure.EndFault.{EndFault}
use Rattle.flow_program.specs.declared.selftest.SelftestEnd.TheVariants as ends

-- the events of a case, for what its chart declares
abbrev pub case_events : Names → ℕ → List EventWithInputs
case_events names n = (event_file names (events_text n)).events

-- a run of case n by the rules: the depth is 8, and an event has 10,000 steps
pub record CaseRun (n : ℕ) : Type 0 where
  pub chart : Chart
  pub accepted : IsAccepted (chart_text n) chart
  pub bounds : Bounds
  pub depth : bounds.depth ≡ 8
  pub steps : bounds.steps ≡ 10000
  pub moments : List Moment
  pub runs : RulesRun chart bounds (case_events chart.names n) moments

-- The line of a run: the states with the root, the moments after the start, the length of the trace and the result
-- in its last line.
abbrev pub line_of_run : (n : ℕ) → CaseRun n → List ℕ
line_of_run n run =
    line_text n (state_count run.chart.tree) (length run.moments - 1)
    (length (trace run.chart.tree run.chart.names (case_events run.chart.names n) run.moments))
    (result_of (shown_fault run.chart.names (run_fault 0 run.moments)))

-- a run of the case ended so, and its line was written as said
pub record RanAnd (n : ℕ) (Ended : Names → Option RunFault → Type 0) (Written : Output → Output → List ℕ → Type 0)
    (before after : Output) : Type 0 where
  pub run : CaseRun n
  pub ended : Ended run.chart.names (run_fault 0 run.moments)
  pub written : Written before after (line_of_run n run)

-- a run ended in the fault of that word at that index
pub record IsFaultAt (index : ℕ) (word : List ℕ) (names : Names) (fault : Option RunFault) : Type 0 where
  pub ended_in : RunFault
  pub is_that : fault ≡ Some ended_in
  pub index_is : index ≡ ended_in.index
  pub word_is : word ≡ result_word names (Some ended_in.fault)

-- the ending of a run whose line was written, by the fault that ended it
abbrev pub end_of : Option EndFault → SelftestEnd
end_of None = ends.Done
end_of (Some fault) = ends.Fault fault.index fault.word

-- How `selftest` ends, and when: between these moments of the sink, by the number of the case. Memory runs out only
-- before the first byte is written.
abbrev pub SelftestEnds : ℕ → Output → Output → SelftestEnd → Type 0
SelftestEnds n before after ends.Done = RanAnd n (λ names fault. fault ≡ None) Wrote before after
SelftestEnds n before after (ends.Fault index word) = RanAnd n (IsFaultAt index word) Wrote before after
SelftestEnds n before after (ends.NoChart refusal) = RefusesAccepted (chart_text n) refusal × (after ≡ before)
SelftestEnds n before after ends.Write = RanAnd n (λ names fault. Unit {0}) WroteFront before after
SelftestEnds n before after ends.Memory = after ≡ before
