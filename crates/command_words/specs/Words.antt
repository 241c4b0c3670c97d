-- What the words of the command line ask for.
use Rattle.std.specs.Prelude.{ℕ, nat_le, true, false, List, [], ◌∷◌, map}
use Rattle.std.specs.Prelude.{Option, Some, None, option_map, option_and_then}
use Rattle.std.specs.Prelude.{unwrap_or, String, string_bytes, if◌then◌else◌, codes}
use Rattle.std.specs.declared.alloc.Global.{Global}
use Rattle.std.specs.Str.{bytes_eq}
use Rattle.command_words.specs.declared.words.TheConstants.{NUMBER_LIMIT, NET_STEP_LIMIT}
use Rattle.command_words.specs.Numbers.{Text, is_number_in, number_of}
use Rattle.command_words.specs.Commands.{RunBounds, usual_bounds}
use Rattle.command_words.specs.Commands.{Command, Check, Fmt, Rules, Compile, Exec, Run, Upgrade, Bound, Shrink, Net}
use Rattle.command_words.specs.Commands.{Selftest}
use Rattle.command_words.specs.Reading.{Given, nothing, read_words}

-- the bounds that the options set, and the default ones where they don't
abbrev pub bounds_of : Given → RunBounds
bounds_of given = record {
  depth = unwrap_or (option_map number_of given.depth) usual_bounds.depth;
  steps = unwrap_or (option_map number_of given.steps) usual_bounds.steps;
}

-- the bounds of a net, whose default steps are the most that a net may have
abbrev pub net_bounds_of : Given → RunBounds
net_bounds_of given = record {
  depth = unwrap_or (option_map number_of given.depth) usual_bounds.depth;
  steps = unwrap_or (option_map number_of given.steps) NET_STEP_LIMIT;
}

-- a command of exactly one file
abbrev pub with_one : {C : Type 0} → (Text → C) → List Text → Option C
with_one command [] = None
with_one command (first ∷ []) = Some (command first)
with_one command (first ∷ second ∷ rest) = None

-- a command of exactly two files
abbrev pub with_two : (Text → Text → Command) → List Text → Option Command
with_two command [] = None
with_two command (first ∷ []) = None
with_two command (first ∷ second ∷ []) = Some (command first second)
with_two command (first ∷ second ∷ third ∷ rest) = None

-- a command of exactly one number, up to the greatest of 32 bits
abbrev pub with_number : (ℕ → Command) → List Text → Option Command
with_number command [] = None
with_number command (number ∷ []) =
    if is_number_in 0 NUMBER_LIMIT number then Some (command (number_of number)) else None
with_number command (number ∷ second ∷ rest) = None

-- a command of one file, which takes no options
abbrev pub file_command : (Text → Command) → List Text → Option Command
file_command command words =
    option_and_then (λ given. with_one command given.files) (read_words false None words nothing)

-- a command of two files, which takes bounds
abbrev pub run_command : (Text → Text → RunBounds → Command) → List Text → Option Command
run_command command words =
    option_and_then (λ given. with_two (λ first second. command first second (bounds_of given)) given.files)
    (read_words true None words nothing)

-- the command of a net, which takes two files and bounds of few steps
abbrev pub net_command : List Text → Option Command
net_command words =
    option_and_then (λ given. if nat_le (net_bounds_of given).steps NET_STEP_LIMIT
    then with_two (λ first second. Net first second (net_bounds_of given)) given.files else None)
    (read_words true None words nothing)

-- a command of one number, which takes no options
abbrev pub number_command : (ℕ → Command) → List Text → Option Command
number_command command words =
    option_and_then (λ given. with_number command given.files) (read_words false None words nothing)

-- the command of that name; any other name is none's
abbrev pub command_named : Text → List Text → Option Command
command_named name words =
    if bytes_eq (codes "check") name then file_command Check words else
    if bytes_eq (codes "fmt") name then file_command Fmt words else
    if bytes_eq (codes "rules") name then run_command Rules words else
    if bytes_eq (codes "compile") name then file_command Compile words else
    if bytes_eq (codes "exec") name then run_command Exec words else
    if bytes_eq (codes "run") name then run_command Run words else
    if bytes_eq (codes "upgrade") name then file_command Upgrade words else
    if bytes_eq (codes "bounds") name then file_command Bound words else
    if bytes_eq (codes "shrink") name then file_command Shrink words else
    if bytes_eq (codes "net") name then net_command words else
    if bytes_eq (codes "selftest") name then number_command Selftest words else None

-- the first word names the command
abbrev pub command_of_texts : List Text → Option Command
command_of_texts [] = None
command_of_texts (name ∷ words) = command_named name words

-- what the words ask for; none where they are no list of words of the program
abbrev pub command_of : List (String Global) → Option Command
command_of words = command_of_texts (map string_bytes words)
