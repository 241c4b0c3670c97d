use Rattle.sos_interpreter.proofs.Worlds.{input_set}
use Rattle.sos_interpreter.proofs.world.LiveWorld.set_input.Goals as goal

pub returns : goal.returns
returns c = input_set _ _ c.args.datum c.args.value _ c.self.view_is c.store.ensures
