-- The command that the rows of a parse stand for: a row has the values of one argument.
use Rattle.std.specs.Prelude.{◌||◌, List, Option, None, is_some, option_map, option_and_then, if◌then◌else◌, codes}
use Rattle.std.specs.Str.{bytes_eq}
use Rattle.clap.specs.Words.{Row, first_of}
use Rattle.command_words.specs.Numbers.{Text}
use Rattle.command_words.specs.Commands.{RunBounds}
use Rattle.command_words.specs.Asked.{bounds_found, number_at}
use Rattle.c_program.specs.Commands.{Command, Header, Source}

-- the bounds that the options set, none where no option does
abbrev pub asked_found : List Row → Option RunBounds
asked_found rows =
    if is_some (number_at (codes "depth") rows) || is_some (number_at (codes "steps") rows) then bounds_found rows
    else None

-- a command of one file and bounds
abbrev pub text_found : (Text → Option RunBounds → Command) → List Row → Option Command
text_found command rows = option_map (λ first. command first (asked_found rows)) (first_of (codes "first") rows)

-- the command of that name with what its rows give
abbrev pub found_named : Text → List Row → Option Command
found_named name rows =
    if bytes_eq (codes "header") name then text_found Header rows else
    if bytes_eq (codes "source") name then text_found Source rows else None

-- the command of a parse, from the name of its subcommand and from that one's rows
abbrev pub command_found : Option (Text × List Row) → Option Command
command_found = option_and_then (λ found. found_named found.0 found.1)
