use Rattle.code_machine.proofs.EngineLemmas.{new_machine}
use Rattle.code_machine.proofs.engine.Machine.make.Goals as goal

pub invariant_of-result : goal.invariant_of-result
invariant_of-result c =
    new_machine c.args.code c.args.bounds c.in_ok-code.code c.in_ok-state.state c.load.ensures.well_formed
    c.in_ok-code.ensures.loaded c.in_ok-state.ensures
