-- The parser of the words, as `clap` sees it.
use Rattle.std.specs.Prelude.{◌≡◌, ℕ, true, false, [], ◌∷◌, Some, codes, fold}
use Rattle.flow_base.specs.declared.bounds.TheConstants.{DEPTH_LIMIT, STEP_LIMIT}
use Rattle.clap.specs.Words.{App, Rule, app_of, new_app, new_rule, with_rule, with_subcommand}
use Rattle.clap.specs.declared.builder.command.Command.{Command}
use Rattle.clap.specs.declared.builder.command.Command.TheViews.{out-Command}
use Rattle.clap.specs.declared.builder.value_parser.ValueParser.TheVariants as parsers
use Rattle.command_words.specs.declared.words.TheConstants.{NUMBER_LIMIT}
use Rattle.command_words.specs.Numbers.{Text}

-- an argument without a name, which must be given; its value may be any text
abbrev pub file_rule : Text → Rule
file_rule id = record (new_rule id) { required = true }

-- such an argument whose value is a number of 32 bits
abbrev pub number_rule : Text → Rule
number_rule id = record (file_rule id) { parser = Some (parsers.Unsigned 0 NUMBER_LIMIT) }

-- an option of that name whose value is a number from 1 to `most`
abbrev pub option_rule : Text → ℕ → Rule
option_rule name most = record (new_rule name) { long = Some name; parser = Some (parsers.Unsigned 1 most) }

-- the parser is of that form, and its arguments are its own
abbrev pub Builds : App → Command → Type 0
Builds app parser = (app_of parser ≡ app) × ((out-Command parser).has_globals ≡ false)

-- a command of one file
abbrev pub file_app : Text → App
file_app name = with_rule (new_app name) (file_rule (codes "first"))

-- a command of two files
abbrev pub files_app : Text → App
files_app name = with_rule (file_app name) (file_rule (codes "second"))

-- a command of two files, which takes bounds
abbrev pub run_app : Text → App
run_app name =
    with_rule (with_rule (files_app name) (option_rule (codes "depth") DEPTH_LIMIT))
    (option_rule (codes "steps") STEP_LIMIT)

-- a command of one number
abbrev pub number_app : Text → App
number_app name = with_rule (new_app name) (number_rule (codes "first"))

-- a program of that name without a help option and a help command, whose first word names a command
abbrev pub bare_app : Text → App
bare_app name = record (new_app name) {
  top = record (new_app name).top {
    no_binary_name = true;
    disable_help_flag = true;
    disable_help_subcommand = true;
    subcommand_required = true;
  };
}

-- the program with the first of its commands
abbrev pub first_app : App
first_app = fold with_subcommand (bare_app (codes "flowc")) (
    (file_app (codes "check")).top ∷ (file_app (codes "fmt")).top ∷ (run_app (codes "rules")).top
    ∷ (file_app (codes "compile")).top ∷ []
    )

-- the program with its commands
abbrev pub program_app : App
program_app = fold with_subcommand (bare_app (codes "flowc")) (
    (file_app (codes "check")).top ∷ (file_app (codes "fmt")).top ∷ (run_app (codes "rules")).top
    ∷ (file_app (codes "compile")).top ∷ (run_app (codes "exec")).top ∷ (run_app (codes "run")).top
    ∷ (file_app (codes "upgrade")).top ∷ (file_app (codes "bounds")).top ∷ (file_app (codes "shrink")).top
    ∷ (run_app (codes "net")).top ∷ (number_app (codes "selftest")).top ∷ []
    )
