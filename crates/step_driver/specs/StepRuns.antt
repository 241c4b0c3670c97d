-- The steps that the lines of a file say, and the runs over them: what a driver needs to know of what it drives.
use Rattle.std.specs.Prelude.{ℕ, List, Option, Result}
use Rattle.event_file.specs.EventFile.{Stop}
use Rattle.event_file.specs.declared.fault.LineFault.{LineFault}

-- What is driven over the lines of a file.
pub record StepRuns : Type 1 where
  -- a step, and what a line says: a step, nothing where it is skipped, or its fault
  pub Step : Type 0
  pub say : List ℕ → Result (Option Step) LineFault
  -- how a run may end before its steps do
  pub End : Type 0
  -- there is a run over the steps with that trace, which ended so
  pub Ran : List Step → List ℕ → Option End → Type 0
  -- there is a run over the first of the steps with that trace, which ended so
  pub RanFirst : List Step → List ℕ → Option End → Type 0
  -- the text is all that the trace has before the first step
  pub IsBegin : List ℕ → Type 0
  -- the errors of the driver, and its answer where the run ended so, or else where the steps stop
  pub Error : Type 0
  pub answer_of : Option End → Stop → Result (Unit {0}) Error
