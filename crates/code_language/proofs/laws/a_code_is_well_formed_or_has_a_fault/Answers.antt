use Rattle.code_language.proofs.DecideLemmas.{formed_or_faulty}
use Rattle.code_language.proofs.laws.a_code_is_well_formed_or_has_a_fault.Goals as goal

pub returns : goal.returns
returns c = formed_or_faulty
