use Rattle.code_text.proofs.OutcomeLemmas.{spelled-text}
use Rattle.code_text.proofs.laws.a_text_is_read.Goals as goal

pub returns : goal.returns
returns c = spelled-text
