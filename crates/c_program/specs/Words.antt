-- What the words of the command line of `chart_to_c` ask for.
use Rattle.std.specs.Prelude.{◌||◌, Bool, true, false, List, [], ◌∷◌, map, Option, Some, None, is_some, option_and_then}
use Rattle.std.specs.Prelude.{String, string_bytes, if◌then◌else◌, codes}
use Rattle.std.specs.declared.alloc.Global.{Global}
use Rattle.std.specs.Str.{bytes_eq}
use Rattle.command_words.specs.Numbers.{Text}
use Rattle.command_words.specs.Commands.{RunBounds}
use Rattle.command_words.specs.Reading.{Given, nothing, read_words}
use Rattle.command_words.specs.Words.{bounds_of, with_one}
use Rattle.c_program.specs.Commands.{Command, Header, Source, Version}

-- the bounds that the options set, and the default ones where only one option stands there; none where no option does
abbrev pub asked_of : Given → Option RunBounds
asked_of given = if is_some given.depth || is_some given.steps then Some (bounds_of given) else None

-- a command of one file, which takes bounds
abbrev pub text_command : (Text → Option RunBounds → Command) → List Text → Option Command
text_command command words =
    option_and_then (λ given. with_one (λ first. command first (asked_of given)) given.files)
    (read_words true None words nothing)

-- the command of that name; any other name is none's
abbrev pub command_named : Text → List Text → Option Command
command_named name words =
    if bytes_eq (codes "header") name then text_command Header words else
    if bytes_eq (codes "source") name then text_command Source words else None

-- the first word names the command
abbrev pub command_of_texts : List Text → Option Command
command_of_texts [] = None
command_of_texts (name ∷ words) = command_named name words

-- the words are the one word `--version`
abbrev pub asks_version : List Text → Bool
asks_version [] = false
asks_version (word ∷ []) = bytes_eq (codes "--version") word
asks_version (word ∷ next ∷ words) = false

-- what the words ask for; none where they are no list of words of the program
abbrev pub command_of : List (String Global) → Option Command
command_of words =
    if asks_version (map string_bytes words) then Some Version else command_of_texts (map string_bytes words)
