use Rattle.code_text.proofs.OutcomeLemmas.{code_text-apart}
use Rattle.code_text.proofs.laws.no_text_begins_another.Goals as goal

pub returns : goal.returns
returns c = code_text-apart
