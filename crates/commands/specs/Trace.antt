-- How a run over an event file ends, whose trace is written: for any engine, by its own definitions.
use Rattle.std.specs.Prelude.{◌≡◌, ◌≢◌, ℕ, ◌≤◌, Bool, IsTrue, List, length, Some, Result, Ok, Err}
use Rattle.flow_base.specs.Causes.{OthersKept, NoneFalls}
use Rattle.chart_lexer.specs.declared.words.TheConstants.{NAME_LIMIT}
use Rattle.active_config.specs.Tree.{Tree}
use Rattle.actions.specs.Names.{Names}
use Rattle.actions.specs.Runs.{StartRelation, ReactionRelation}
use Rattle.actions.specs.declared.engine.Engine.{Ghosts as Engine}
use Rattle.trace_text.specs.Trace.{datum_name, result_word}
use Rattle.step_driver.specs.Causes.{HasReadCause, HasWriteCause}
use Rattle.step_driver.specs.Driving.{Seen, Drives}
use Rattle.step_driver.specs.declared.driver.DriveEnd.{DriveEnd}
use Rattle.step_driver.specs.declared.driver.DriveEnd.TheVariants as answers
use Rattle.commands.specs.Call.{Call}
use Rattle.commands.specs.declared.traced.TraceEnd.{TraceEnd}
use Rattle.commands.specs.declared.traced.TraceEnd.TheVariants as ends

-- the names of the data have at most 63 bytes
abbrev pub HasShortNames : Names → Type 0
HasShortNames n = (v : ℕ) → length (datum_name n v) ≤ NAME_LIMIT

-- how a program behaves: which worlds its start and its events may give, its tree of states, what it declares, and
-- whether the engine that runs it never wants memory once it is made
pub record Behaviour : Type 1 where
  pub starts : StartRelation
  pub reacts : ReactionRelation
  pub tree : Tree
  pub names : Names
  pub never_wants_memory : Bool

-- how a program of an engine behaves, by the engine's own definitions
abbrev pub behaviour_of : {G : Type 0} → (members : Engine G) → members.Program → Behaviour
behaviour_of members p = record {
  starts = members.Starts p;
  reacts = members.Reacts p;
  tree = members.tree p;
  names = members.declared p;
  never_wants_memory = members.never_wants_memory;
}

-- what the driver of a run sees of a call
abbrev pub seen_of : Call → List ℕ → Seen
seen_of call second = record {
  wrote_before = call.output_before.holds;
  wrote_after = call.output_after.holds;
  left_before = call.sources_before.left second;
  left_after = call.sources_after.left second;
}

-- the ending for an answer of the driver; a fault of the run is shown by its word in the trace
abbrev pub end_of : Names → Result (Unit {0}) DriveEnd → TraceEnd
end_of n (Ok done) = ends.Done
end_of n (Err (answers.Line number fault)) = ends.Line number fault
end_of n (Err (answers.Fault index fault)) = ends.Fault index (result_word n (Some fault))
end_of n (Err answers.Read) = ends.Read
end_of n (Err answers.Write) = ends.Write
end_of n (Err answers.TooManyLines) = ends.TooManyLines
end_of n (Err answers.FileTooLong) = ends.FileTooLong
end_of n (Err answers.Memory) = ends.Memory

-- The run was driven over the event file, and that is the answer: what was written by it, the causes of Read and Write,
-- and where memory may run out. No other file is read.
pub record WasDriven (b : Behaviour) (call : Call) (second : List ℕ) (end : TraceEnd) : Type 0 where
  pub answer : Result (Unit {0}) DriveEnd
  pub drives : Drives b.starts b.reacts b.tree b.names (seen_of call second) answer
  pub reads : HasReadCause second call.sources_before.faults call.sources_after.faults answer
  pub writes : HasWriteCause call.output_before.faults call.output_after.faults answer
  pub counts : NoneFalls call.sources_before.faults call.sources_after.faults
  pub others : OthersKept second call.sources_before.left call.sources_after.left
  pub memory : IsTrue b.never_wants_memory → answer ≢ Err answers.Memory
  pub end_is : end ≡ end_of b.names answer

-- how a run over the event file `second` ends, whose trace is written, and when
pub data TraceEnds (b : Behaviour) (call : Call) (second : List ℕ) (end : TraceEnd) : Type 0 where
  -- the run was driven over the file
  Driven : WasDriven b call second end → TraceEnds b call second end
  -- memory ran out before anything was read or written
  NotBegun : end ≡ ends.Memory → call.sources_after ≡ call.sources_before → call.output_after ≡ call.output_before
      → TraceEnds b call second end
