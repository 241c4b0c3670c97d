-- The commands of the program.
use Rattle.std.specs.Prelude.{ℕ, List, [], ◌∷◌, Option, Some, None}
use Rattle.command_words.specs.Numbers.{Text}

-- the bounds of a run: its depth, and the steps of one event
pub record RunBounds : Type 0 where
  pub depth : ℕ
  pub steps : ℕ

-- the default bounds, which are those of `Bounds::usual` of `flow_base` and of `CaseRun` of `flow_program`
abbrev pub usual_bounds : RunBounds
usual_bounds = record { depth = 8; steps = 10000 }

-- a command with its files, and with its bounds or its number
pub data Command : Type 0 where
  -- `check CHART`
  Check : Text → Command
  -- `fmt CHART`
  Fmt : Text → Command
  -- `rules CHART EVENTS`
  Rules : Text → Text → RunBounds → Command
  -- `compile CHART`
  Compile : Text → Command
  -- `exec CODE EVENTS`
  Exec : Text → Text → RunBounds → Command
  -- `run CHART EVENTS`
  Run : Text → Text → RunBounds → Command
  -- `upgrade CODE`
  Upgrade : Text → Command
  -- `bounds CHART`
  Bound : Text → Command
  -- `shrink CODE`
  Shrink : Text → Command
  -- `net NET SCHEDULE`
  Net : Text → Text → RunBounds → Command
  -- `selftest N`
  Selftest : ℕ → Command

-- the files that a command names; `selftest` names none
abbrev pub files_named : Command → List Text
files_named (Check first) = first ∷ []
files_named (Fmt first) = first ∷ []
files_named (Rules first second bounds) = first ∷ second ∷ []
files_named (Compile first) = first ∷ []
files_named (Exec first second bounds) = first ∷ second ∷ []
files_named (Run first second bounds) = first ∷ second ∷ []
files_named (Upgrade first) = first ∷ []
files_named (Bound first) = first ∷ []
files_named (Shrink first) = first ∷ []
files_named (Net first second bounds) = first ∷ second ∷ []
files_named (Selftest number) = []

-- the files that the words name, none where they name no command
abbrev pub files_of : Option Command → List Text
files_of None = []
files_of (Some command) = files_named command
