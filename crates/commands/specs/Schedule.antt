-- How a net's run over a schedule ends, whose trace is written.
use Rattle.std.specs.Prelude.{◌≡◌, ◌≢◌, ℕ, List, Option, Some, Result, Ok, Err}
use Rattle.std.specs.Option.{option_map_or}
use Rattle.flow_base.specs.Causes.{OthersKept, NoneFalls}
use Rattle.actions.specs.Names.{Names}
use Rattle.checked_chart.specs.Chart.{Chart}
use Rattle.trace_text.specs.Trace.{result_word}
use Rattle.chart_net.specs.Nets.{Net}
use Rattle.chart_net.specs.NetDriving.{HasReadCause, HasWriteCause, NetDrives}
use Rattle.chart_net.specs.declared.driver.NetEnd.{NetEnd}
use Rattle.chart_net.specs.declared.driver.NetEnd.TheVariants as answers
use Rattle.commands.specs.Call.{Call}
use Rattle.commands.specs.NetRules.{no_names}
use Rattle.commands.specs.Trace.{seen_of}
use Rattle.commands.specs.declared.schedule.ScheduleEnd.{ScheduleEnd}
use Rattle.commands.specs.declared.schedule.ScheduleEnd.TheVariants as ends

-- the ending for an answer of the driver, where the charts declare that; a fault of a chart is shown by its word in the
-- trace
abbrev pub end_with : (ℕ → Names) → Result (Unit {0}) NetEnd → ScheduleEnd
end_with declared (Ok done) = ends.Done
end_with declared (Err (answers.Line number fault)) = ends.Line number fault
end_with declared (Err (answers.Fault step c fault)) = ends.Fault step (result_word (declared c) (Some fault))
end_with declared (Err answers.Read) = ends.Read
end_with declared (Err answers.Write) = ends.Write
end_with declared (Err answers.TooManyLines) = ends.TooManyLines
end_with declared (Err answers.FileTooLong) = ends.FileTooLong
end_with declared (Err answers.Memory) = ends.Memory
end_with declared (Err (answers.Full step route)) = ends.Full step route
end_with declared (Err (answers.Empty step route)) = ends.Empty step route

-- the ending, where these are the charts by their numbers
abbrev pub end_by : (ℕ → Option Chart) → Result (Unit {0}) NetEnd → ScheduleEnd
end_by charts = end_with (λ c. option_map_or (λ (chart : Chart). chart.names) (charts c) no_names)

-- The net was driven over the schedule, and that is the answer: what was written by it, and the causes of Read and
-- Write.
-- Memory didn't run out. No other file is read.
pub record NetWasDriven (net : Net) (call : Call) (second : List ℕ) (end : ScheduleEnd) : Type 0 where
  pub answer : Result (Unit {0}) NetEnd
  pub drives : NetDrives net (seen_of call second) answer
  pub reads : HasReadCause second call.sources_before.faults call.sources_after.faults answer
  pub writes : HasWriteCause call.output_before.faults call.output_after.faults answer
  pub counts : NoneFalls call.sources_before.faults call.sources_after.faults
  pub others : OthersKept second call.sources_before.left call.sources_after.left
  pub memory : answer ≢ Err answers.Memory
  pub end_is : end ≡ end_with net.declared answer

-- how a net's run over the schedule `second` ends, whose trace is written, and when
pub data ScheduleEnds (net : Net) (call : Call) (second : List ℕ) (end : ScheduleEnd) : Type 0 where
  -- the net was driven over the schedule
  Driven : NetWasDriven net call second end → ScheduleEnds net call second end
  -- memory ran out before anything was read or written
  NotBegun : end ≡ ends.Memory → call.sources_after ≡ call.sources_before → call.output_after ≡ call.output_before
      → ScheduleEnds net call second end
