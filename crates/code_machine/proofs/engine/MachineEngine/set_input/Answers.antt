use Rattle.std.proofs.Common.{ap}
use Rattle.actions.specs.Engines.{stage_of}
use Rattle.code_machine.specs.Engine.{EngineState}
use Rattle.code_machine.specs.States.{world_of}
use Rattle.code_machine.proofs.EngineLemmas.{machine_input, machine_set, input_set}
use Rattle.code_machine.proofs.engine.MachineEngine.set_input.Goals as goal

pub store-requires-clause-there : goal.store-requires-clause-there
store-requires-clause-there c =
    (machine_input _ _ c.args.datum c.args.value c.self.view_is c.self.invariant.fits c.requires.value).0

pub store-requires-clause-value : goal.store-requires-clause-value
store-requires-clause-value c =
    (machine_input _ _ c.args.datum c.args.value c.self.view_is c.self.invariant.fits c.requires.value).1

pub invariant_of-self : goal.invariant_of-self
invariant_of-self c =
    machine_set c.self.inside.code c.self.inside.state (stage_of c.self.inside.phase) _ c.args.datum c.args.value
    c.store.new.vals c.self.view_is c.self.invariant c.requires.running c.requires.value c.store.ensures

pub returns-clause-set : goal.returns-clause-set
returns-clause-set c =
    input_set (world_of c.self.inside.state) _ c.args.datum c.args.value c.store.new.vals
    (ap (λ (e : EngineState). e.world) c.self.view_is) c.store.ensures
