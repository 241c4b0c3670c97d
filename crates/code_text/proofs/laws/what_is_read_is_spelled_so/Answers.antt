use Rattle.code_text.proofs.OutcomeLemmas.{spelled-ok}
use Rattle.code_text.proofs.laws.what_is_read_is_spelled_so.Goals as goal

pub returns : goal.returns
returns c = spelled-ok
