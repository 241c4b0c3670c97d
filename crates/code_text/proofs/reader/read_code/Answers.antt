use Rattle.code_text.proofs.FaultLemmas.{answer_short, answer_spelled, answer_formed, answer_only}
use Rattle.code_text.proofs.reader.read_code.Goals as goal

pub returns-clause-read : goal.returns-clause-read
returns-clause-read c = answer_spelled c.args.text.now c.read_formed.result c.read_formed.ensures

pub returns-clause-formed : goal.returns-clause-formed
returns-clause-formed c = answer_formed c.args.text.now c.read_formed.result c.read_formed.ensures

pub returns-clause-short : goal.returns-clause-short
returns-clause-short c = answer_short c.args.text.now c.read_formed.result c.read_formed.ensures

pub returns-clause-only : goal.returns-clause-only
returns-clause-only c = answer_only c.args.text.now c.read_formed.result c.read_formed.ensures
