use Rattle.actions.specs.Names.{names_of}
use Rattle.trace_text.specs.LineEnds.{end_word}
use Rattle.trace_text.specs.Trace.{line_of}
use Rattle.trace_text.proofs.PutLemmas.{puts_line}
use Rattle.trace_text.proofs.trace.put_line.Goals as goal

-- the front and the end make the line
pub returns : goal.returns
unfolding line_of
returns g c = puts_line _ _ _ _ _ _ _ _ _ _
    (end_word (names_of c.args.view.now.names.now) c.args.end) c.put_front.ensures c.put_end.ensures
