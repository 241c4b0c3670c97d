use Rattle.command_words.specs.Parser.{file_app}
use Rattle.command_words.proofs.ParserLemmas.{further_if_ok}
use Rattle.command_words.proofs.parser.then_file.Goals as goal

-- one more command of one file
pub returns-in-Ok : goal.returns-in-Ok
returns-in-Ok c = λ app built.
    let was = rw c.in-Ok.is at built in
    further_if_ok _ c.with_command.result app (file_app c.args.name.now) was
    (c.with_command.ensures (file_app c.args.name.now) c.with_file.ensures)
