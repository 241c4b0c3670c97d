-- The commands of `chart_to_c`.
use Rattle.std.specs.Prelude.{List, [], ◌∷◌, Option}
use Rattle.command_words.specs.Numbers.{Text}
use Rattle.command_words.specs.Commands.{RunBounds}

-- a command with its file and the bounds that its options set, if one of them stands there
pub data Command : Type 0 where
  -- `header CHART`
  Header : Text → Option RunBounds → Command
  -- `source CHART`
  Source : Text → Option RunBounds → Command
  -- `--version`
  Version : Command

-- the files that a command names
abbrev pub files_named : Command → List Text
files_named (Header first asked) = first ∷ []
files_named (Source first asked) = first ∷ []
files_named Version = []
