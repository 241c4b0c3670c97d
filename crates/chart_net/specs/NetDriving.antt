-- What the driver of a net writes, by its answer.
use Rattle.std.specs.Prelude.{◌≡◌, ℕ, List, [], ◌++◌, Option, Some, None, Result, Ok, Err}
use Rattle.std.specs.Io.KnownBytes.{IsAtEnd}
use Rattle.event_file.specs.EventFile.{Stop, AtEnd, AtLine, AtEvent, AtLimit}
use Rattle.step_driver.specs.Causes.{ReadCause, WriteCause}
use Rattle.step_driver.specs.Driving.{Seen, WroteAll, WroteGiven, WrotePart, WroteSome, TakesNoMore, Wrote}
use Rattle.step_driver.specs.StepRuns.{StepRuns}
use Rattle.step_driver.specs.declared.lines.NoLine.{NoLine}
use Rattle.step_driver.specs.declared.lines.NoLine.TheVariants as no_lines
use Rattle.event_file.specs.declared.fault.LineFault.TheVariants as line_faults
use Rattle.chart_net.specs.Causes.{is_read, is_write}
use Rattle.chart_net.specs.Moving.{answer_for}
use Rattle.chart_net.specs.Nets.{Net, net_before}
use Rattle.chart_net.specs.NetRuns.{NetStep, NetMoment, NetGoesOn, NetRuns, starts_of}
use Rattle.chart_net.specs.NetTraces.{RunEnd, NetRan, net_trace, end_from}
use Rattle.chart_net.specs.Schedules.{step_of_line}
use Rattle.chart_net.specs.declared.driver.NetEnd.{NetEnd}
use Rattle.chart_net.specs.declared.driver.NetEnd.TheVariants as ends

-- There is a run over a front of all steps, the starts among them, with that trace, which ended so. (A write may fail,
-- or memory run out, before all charts are started.)
pub record RanFront (net : Net) (steps : List NetStep) (trace : List ℕ) (end : Option RunEnd) : Type 0 where
  pub front : List NetStep
  pub rest : List NetStep
  pub parts : starts_of net ++ steps ≡ front ++ rest
  pub moments : List NetMoment
  pub goes : NetGoesOn net net_before front moments
  pub traced : trace ≡ net_trace net moments
  pub ended : end_from 0 moments ≡ end

-- the text is the trace of the run over the starts alone
pub record IsStartTrace (net : Net) (text : List ℕ) : Type 0 where
  pub moments : List NetMoment
  pub runs : NetRuns net [] moments
  pub traced : text ≡ net_trace net moments

-- the answer for the whole schedule: how the run ended, or else where the steps stop
abbrev pub answer_of : Option RunEnd → Stop → Result (Unit {0}) NetEnd
answer_of (Some end) stop = Err (answer_for end.number end.why)
answer_of None AtEnd = Ok tt
answer_of None (AtLine number fault) = Err (ends.Line number fault)
answer_of None AtEvent = Err ends.TooManyLines
answer_of None AtLimit = Err ends.FileTooLong

-- a net is driven over the steps of a schedule; before the first step its trace has the lines of the starts
abbrev pub net_runs : Net → StepRuns
net_runs net = record {
  Step = NetStep;
  say = step_of_line net;
  End = RunEnd;
  Ran = NetRan net;
  RanFirst = RanFront net;
  IsBegin = IsStartTrace net;
  Error = NetEnd;
  answer_of = answer_of;
}

-- What the driver did, by its answer.
abbrev pub NetDrives : Net → Seen → Result (Unit {0}) NetEnd → Type 0
NetDrives net seen (Ok done) = WroteAll (net_runs net) seen (Ok done) × IsAtEnd seen.left_after
NetDrives net seen (Err (ends.Line number fault)) = Wrote (net_runs net) seen (Err (ends.Line number fault))
NetDrives net seen (Err (ends.Fault p c fault)) = Wrote (net_runs net) seen (Err (ends.Fault p c fault))
NetDrives net seen (Err ends.Read) = WroteGiven (net_runs net) seen
NetDrives net seen (Err ends.Write) = WrotePart (net_runs net) seen × TakesNoMore (net_runs net) seen
NetDrives net seen (Err ends.TooManyLines) = Wrote (net_runs net) seen (Err ends.TooManyLines)
NetDrives net seen (Err ends.FileTooLong) = Wrote (net_runs net) seen (Err ends.FileTooLong)
NetDrives net seen (Err ends.Memory) = WroteSome (net_runs net) seen × TakesNoMore (net_runs net) seen
NetDrives net seen (Err (ends.Full p r)) = Wrote (net_runs net) seen (Err (ends.Full p r))
NetDrives net seen (Err (ends.Empty p r)) = Wrote (net_runs net) seen (Err (ends.Empty p r))

-- the answer where no line was taken
abbrev pub end_of_line : NoLine → NetEnd
end_of_line (no_lines.TooLong number) = ends.Line number line_faults.LineTooLong
end_of_line no_lines.FileTooLong = ends.FileTooLong
end_of_line no_lines.Read = ends.Read
end_of_line no_lines.Write = ends.Write

-- a read fault comes only where the count of that name rose, and with every other answer each count is as it was
abbrev pub HasReadCause : List ℕ → (List ℕ → ℕ) → (List ℕ → ℕ) → Result (Unit {0}) NetEnd → Type 0
HasReadCause name before after result = ReadCause (is_read result) name before after

-- a write fault comes only where the sink's count rose, and with every other answer the count is as it was
abbrev pub HasWriteCause : ℕ → ℕ → Result (Unit {0}) NetEnd → Type 0
HasWriteCause before after result = WriteCause (is_write result) before after
