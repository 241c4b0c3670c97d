-- A program that is read from one file and runs over the events of another.
use Rattle.std.specs.Prelude.{◌≡◌, ℕ, List}
use Rattle.std.specs.Io.KnownBytes.{IsAtEnd}
use Rattle.flow_base.specs.declared.bounds.Bounds.{Bounds}
use Rattle.commands.specs.Call.{Sources, Call}
use Rattle.commands.specs.Reading.{Gives}
use Rattle.commands.specs.declared.traced.TraceEnd.{TraceEnd}
use Rattle.commands.specs.declared.traced.TraceEnd.TheVariants as runs
use Rattle.commands.specs.Trace.{Behaviour, TraceEnds}

-- The first file was read whole, and what its text means ran over the events of the second, each event with these bounds.
-- Where the run ended well, nothing is left of either file.
pub record FileRan {P : Type 0} (Means : List ℕ → P → Type 0) (behaves : P → Bounds → Behaviour) (bounds : Bounds)
    (call : Call) (first second : List ℕ) (end : TraceEnd) : Type 0 where
  pub program : P
  pub between : Sources
  pub first_read : Gives Means call.sources_before between first program
  pub traces : TraceEnds (behaves program bounds) (record call { sources_before = between }) second end
  pub first_end : end ≡ runs.Done → IsAtEnd (call.sources_after.left first)
  pub second_end : end ≡ runs.Done → IsAtEnd (call.sources_after.left second)
