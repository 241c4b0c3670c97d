use Rattle.code_text.proofs.SpellableLemmas.{formed_spellable}
use Rattle.code_text.proofs.laws.well_formed_code_is_spellable.Goals as goal

pub returns : goal.returns
returns c = formed_spellable
