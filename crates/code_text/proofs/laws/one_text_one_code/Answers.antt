use Rattle.code_text.proofs.OutcomeLemmas.{code_text-one}
use Rattle.code_text.proofs.laws.one_text_one_code.Goals as goal

pub returns : goal.returns
returns c = code_text-one
