use Rattle.code_text.proofs.SpellableLemmas.{code_spellable}
use Rattle.code_text.proofs.printer.print_code.Goals as goal

pub returns-clause-spellable : goal.returns-clause-spellable
returns-clause-spellable c =
    code_spellable c.args.code.now c.raw.ensures.well_formed (rw c.raw.ensures.raw at c.in_ok-text.ensures.parents) (rw c.raw.ensures.raw at c.in_ok-text.ensures.numbers)
