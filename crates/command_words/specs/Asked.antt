-- The command that the rows of a parse stand for: a row has the values of one argument.
use Rattle.std.specs.Prelude.{ℕ, nat_le, ◌&&◌, List, Option, Some, None, option_map, option_and_then, unwrap_or}
use Rattle.std.specs.Prelude.{if◌then◌else◌, codes}
use Rattle.std.specs.Str.{bytes_eq}
use Rattle.flow_base.specs.declared.bounds.TheConstants.{DEPTH_LIMIT, STEP_LIMIT}
use Rattle.clap.specs.Words.{Row, first_of, one_of}
use Rattle.command_words.specs.declared.words.TheConstants.{NUMBER_LIMIT, NET_STEP_LIMIT}
use Rattle.command_words.specs.Numbers.{Text, is_number_in, number_of}
use Rattle.command_words.specs.Commands.{RunBounds, usual_bounds}
use Rattle.command_words.specs.Commands.{Command, Check, Fmt, Rules, Compile, Exec, Run, Upgrade, Bound, Shrink, Net}
use Rattle.command_words.specs.Commands.{Selftest}

-- the number that a text denotes, if it is one of 32 bits
abbrev pub number_in : Text → Option ℕ
number_in text = if is_number_in 0 NUMBER_LIMIT text then Some (number_of text) else None

-- the number of an argument
abbrev pub number_at : Text → List Row → Option ℕ
number_at id rows = option_and_then number_in (one_of id rows)

-- the bounds with these numbers, or none where one is out of its range
abbrev pub bounds_with : ℕ → ℕ → Option RunBounds
bounds_with depth steps =
    if (nat_le 1 depth && nat_le depth DEPTH_LIMIT) && (nat_le 1 steps && nat_le steps STEP_LIMIT)
    then Some (record { depth = depth; steps = steps }) else None

-- the bounds of a run, the default ones where they aren't given
abbrev pub bounds_found : List Row → Option RunBounds
bounds_found rows =
    bounds_with (unwrap_or (number_at (codes "depth") rows) usual_bounds.depth)
    (unwrap_or (number_at (codes "steps") rows) usual_bounds.steps)

-- the bounds of a net, or none where its steps are too many
abbrev pub net_bounds_with : ℕ → ℕ → Option RunBounds
net_bounds_with depth steps = if nat_le steps NET_STEP_LIMIT then bounds_with depth steps else None

-- the bounds of a net, the default ones of nets where they aren't given
abbrev pub net_bounds_found : List Row → Option RunBounds
net_bounds_found rows =
    net_bounds_with (unwrap_or (number_at (codes "depth") rows) usual_bounds.depth)
    (unwrap_or (number_at (codes "steps") rows) NET_STEP_LIMIT)

-- the two files of a run
abbrev pub files_found : List Row → Option (Text × Text)
files_found rows = option_and_then (λ first. option_map (λ second. (first, second)) (first_of (codes "second") rows))
    (first_of (codes "first") rows)

-- a command of one file
abbrev pub file_found : (Text → Command) → List Row → Option Command
file_found command rows = option_map command (first_of (codes "first") rows)

-- a command of two files and bounds
abbrev pub run_found : (Text → Text → RunBounds → Command) → List Row → Option Command
run_found command rows =
    option_and_then (λ (files : Text × Text). option_map (command files.0 files.1) (bounds_found rows))
    (files_found rows)

-- the command of a net
abbrev pub net_found : List Row → Option Command
net_found rows =
    option_and_then (λ (files : Text × Text). option_map (Net files.0 files.1) (net_bounds_found rows))
    (files_found rows)

-- a command of one number
abbrev pub number_found : (ℕ → Command) → List Row → Option Command
number_found command rows = option_map command (number_at (codes "first") rows)

-- the command of one file of that name, if it is one
abbrev pub file_command : Text → Text → Option Command
file_command name first =
    if bytes_eq (codes "check") name then Some (Check first) else
    if bytes_eq (codes "fmt") name then Some (Fmt first) else
    if bytes_eq (codes "compile") name then Some (Compile first) else
    if bytes_eq (codes "upgrade") name then Some (Upgrade first) else
    if bytes_eq (codes "bounds") name then Some (Bound first) else
    if bytes_eq (codes "shrink") name then Some (Shrink first) else None

-- the command of one file of that name with what its rows give
abbrev pub file_found_named : Text → List Row → Option Command
file_found_named name rows = option_and_then (file_command name) (first_of (codes "first") rows)

-- the command of two files and bounds of that name, `run` for any other name
abbrev pub run_of_name : Text → Text → Text → RunBounds → Command
run_of_name name =
    if bytes_eq (codes "rules") name then Rules else if bytes_eq (codes "exec") name then Exec else Run

-- the command of that name with what its rows give
abbrev pub found_named : Text → List Row → Option Command
found_named name rows =
    if bytes_eq (codes "check") name then file_found Check rows else
    if bytes_eq (codes "fmt") name then file_found Fmt rows else
    if bytes_eq (codes "rules") name then run_found Rules rows else
    if bytes_eq (codes "compile") name then file_found Compile rows else
    if bytes_eq (codes "exec") name then run_found Exec rows else
    if bytes_eq (codes "run") name then run_found Run rows else
    if bytes_eq (codes "upgrade") name then file_found Upgrade rows else
    if bytes_eq (codes "bounds") name then file_found Bound rows else
    if bytes_eq (codes "shrink") name then file_found Shrink rows else
    if bytes_eq (codes "net") name then net_found rows else
    if bytes_eq (codes "selftest") name then number_found Selftest rows else None

-- the command of a parse, from the name of its subcommand and from that one's rows
abbrev pub command_found : Option (Text × List Row) → Option Command
command_found = option_and_then (λ found. found_named found.0 found.1)
