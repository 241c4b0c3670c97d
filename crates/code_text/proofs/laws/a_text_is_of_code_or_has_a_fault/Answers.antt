use Rattle.code_text.proofs.CauseLemmas.{formed_or_refused}
use Rattle.code_text.proofs.laws.a_text_is_of_code_or_has_a_fault.Goals as goal

pub returns : goal.returns
returns c = formed_or_refused
