use Rattle.sos_interpreter.proofs.EngineLemmas.{engine_input, engine_set}
use Rattle.sos_interpreter.proofs.engine.RulesEngine.set_input.Goals as goal

pub set_input-requires-clause-there : goal.set_input-requires-clause-there
set_input-requires-clause-there c =
    (engine_input _ _ c.args.datum c.args.value c.self.view_is c.self.invariant.fits c.requires.value).0

pub set_input-requires-clause-value : goal.set_input-requires-clause-value
set_input-requires-clause-value c =
    (engine_input _ _ c.args.datum c.args.value c.self.view_is c.self.invariant.fits c.requires.value).1

pub invariant_of-self : goal.invariant_of-self
invariant_of-self c =
    engine_set _ _ c.args.datum c.args.value c.set_input.new.self c.self.view_is c.self.invariant
    c.requires.running c.requires.value c.set_input.ensures
