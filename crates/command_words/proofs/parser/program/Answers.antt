use Rattle.std.proofs.Common.{codes}
use Rattle.clap.specs.Words.{App, with_subcommand}
use Rattle.command_words.specs.Parser.{file_app, first_app, number_app, run_app}
use Rattle.command_words.proofs.ParserLemmas.{further_if_ok}
use Rattle.command_words.proofs.parser.program.Goals as goal

-- the commands one after another, from the first ones on
pub returns-in-Ok : goal.returns-in-Ok
returns-in-Ok c =
    let five : App = with_subcommand first_app (run_app (codes "exec")).top in
    let six : App = with_subcommand five (run_app (codes "run")).top in
    let seven : App = with_subcommand six (file_app (codes "upgrade")).top in
    let eight : App = with_subcommand seven (file_app (codes "bounds")).top in
    let nine : App = with_subcommand eight (file_app (codes "shrink")).top in
    let ten : App = with_subcommand nine (run_app (codes "net")).top in
    let exec = c.then_run-parser.ensures first_app c.first_commands-parser.ensures in
    let run' = c.then_run-parser-2.ensures five exec in
    let upgrade = c.then_file-parser.ensures six run' in
    let bounds = c.then_file-parser-2.ensures seven upgrade in
    let shrink = c.then_file-parser-3.ensures eight bounds in
    let net = c.then_run.ensures nine shrink in
    let was = rw c.in-Ok.is at net in
    further_if_ok _ _ ten (number_app (codes "selftest")) was
    (c.with_command.ensures (number_app (codes "selftest")) c.with_number.ensures)
