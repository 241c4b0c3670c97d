use Rattle.std.proofs.Common.{codes}
use Rattle.std.proofs.lemmas.Result.{IfOk-weaker}
use Rattle.command_words.proofs.ParserLemmas.{further}
use Rattle.c_program.specs.Parser.{text_app}
use Rattle.c_program.proofs.parser.program.Goals as goal

-- the commands one after another
pub returns : goal.returns
returns c =
    let header =
    further _ _ _ (text_app (codes "header")) c.bare.ensures
    (c.in_ok-parser.ensures (text_app (codes "header")) c.with_text.ensures) in
    IfOk-weaker c.with_command-2.result _ _ (λ parser is. further _ parser _ (text_app (codes "source")) header is)
    (c.with_command-2.ensures (text_app (codes "source")) c.with_text-2.ensures)
