-- What is measured of a run by the rules.
use Rattle.std.specs.Prelude.{◌≡◌, ℕ, ◌-◌, Bool, true, false, List, length, Option, Some, None}
use Rattle.flow_base.specs.declared.bounds.Bounds.{Bounds}
use Rattle.actions.specs.Names.{Names}
use Rattle.actions.specs.Runs.{Moment}
use Rattle.checked_chart.specs.Chart.{Chart}
use Rattle.sos_rules.specs.Reactions.{RulesRun}
use Rattle.event_file.specs.EventFile.{event_file}
use Rattle.trace_text.specs.Trace.{result_word}
use Rattle.step_driver.specs.Traces.{RunFault, run_fault, trace}
use Rattle.commands.specs.declared.traced.TraceEnd.{TraceEnd}
use Rattle.commands.specs.declared.traced.TraceEnd.TheVariants as runs
use Rattle.flow_program.specs.declared.measure.EndFault.{EndFault}
use Rattle.flow_program.specs.declared.measure.Measures.{Measures}
use Rattle.flow_program.specs.Newlines.{newlines}

-- the fault of a run as the trace shows it
abbrev pub shown_fault : Names → Option RunFault → Option EndFault
shown_fault n None = None
shown_fault n (Some f) = Some (record { index = f.index; word = result_word n (Some f.fault) })

-- the events that ran are the moments after the start
pub record HasMeasures (c : Chart) (bounds : Bounds) (text : List ℕ) (m : Measures) : Type 0 where
  pub moments : List Moment
  pub runs : RulesRun c bounds (event_file c.names text).events moments
  pub events : m.events ≡ length moments - 1
  pub trace_bytes : m.trace_bytes ≡ length (trace c.tree c.names (event_file c.names text).events moments)
  pub fault : m.fault ≡ shown_fault c.names (run_fault 0 moments)

-- the whole trace was written
abbrev pub is_whole : TraceEnd → Bool
is_whole runs.Done = true
is_whole (runs.Line number fault) = true
is_whole runs.TooManyLines = true
is_whole runs.FileTooLong = true
is_whole (runs.Fault index word) = true
is_whole runs.Read = false
is_whole runs.Write = false
is_whole runs.Memory = false

-- the fault that ended the run
abbrev pub fault_of_end : TraceEnd → Option EndFault
fault_of_end runs.Done = None
fault_of_end (runs.Line number fault) = None
fault_of_end runs.TooManyLines = None
fault_of_end runs.FileTooLong = None
fault_of_end (runs.Fault index word) = Some (record { index = index; word = word })
fault_of_end runs.Read = None
fault_of_end runs.Write = None
fault_of_end runs.Memory = None

-- what is counted of the bytes of a trace, and the fault of the ending
pub record AreCounts (kept : List ℕ) (end : TraceEnd) (m : Measures) : Type 0 where
  pub events : m.events ≡ newlines kept - 1
  pub trace_bytes : m.trace_bytes ≡ length kept
  pub fault : m.fault ≡ fault_of_end end
