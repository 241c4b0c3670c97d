-- The parser of the words, as `clap` sees it.
use Rattle.std.specs.Prelude.{[], ◌∷◌, codes, fold}
use Rattle.flow_base.specs.declared.bounds.TheConstants.{DEPTH_LIMIT, STEP_LIMIT}
use Rattle.clap.specs.Words.{App, with_rule, with_subcommand}
use Rattle.command_words.specs.Numbers.{Text}
use Rattle.command_words.specs.Parser.{bare_app, file_app, option_rule}

-- a command of one file, which takes bounds
abbrev pub text_app : Text → App
text_app name =
    with_rule (with_rule (file_app name) (option_rule (codes "depth") DEPTH_LIMIT))
    (option_rule (codes "steps") STEP_LIMIT)

-- the program with its commands
abbrev pub program_app : App
program_app = fold with_subcommand (bare_app (codes "chart_to_c")) (
    (text_app (codes "header")).top ∷ (text_app (codes "source")).top ∷ []
    )
