use Rattle.code_text.proofs.FaultLemmas.{cause_of-fault}
use Rattle.code_text.proofs.reader.read_formed.Goals as goal

pub returns-in-Err : goal.returns-in-Err
returns-in-Err c = cause_of-fault c.args.text.now c.in-Err.fault c.in-Err.ensures
