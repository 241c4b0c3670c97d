use Rattle.std.proofs.Common.{codes}
use Rattle.command_words.specs.Parser.{bare_app, file_app, run_app}
use Rattle.clap.specs.Words.{App, with_subcommand}
use Rattle.command_words.proofs.ParserLemmas.{further_if_ok}
use Rattle.command_words.proofs.parser.first_commands.Goals as goal

-- the commands one after another
pub returns : goal.returns
returns c =
    let one : App = with_subcommand (bare_app (codes "flowc")) (file_app (codes "check")).top in
    let two : App = with_subcommand one (file_app (codes "fmt")).top in
    let three : App = with_subcommand two (run_app (codes "rules")).top in
    let check =
    further_if_ok _ _ _ (file_app (codes "check")) c.bare.ensures
    (c.with_command-parser.ensures (file_app (codes "check")) c.with_file.ensures) in
    let fmt = c.then_file-parser.ensures one check in
    let rules = c.then_run-parser.ensures two fmt in
    c.then_file.ensures three rules
