use Rattle.c_functions.proofs.RunsArithmetic.{world_is, own_agrees}
use Rattle.c_functions.proofs.plan_laws.memory_tells_its_world.Goals as goal

pub returns-clause-world : goal.returns-clause-world
returns-clause-world c t n m w num h = world_is t n num m w h

pub returns-clause-agrees : goal.returns-clause-agrees
returns-clause-agrees c t n num = own_agrees t n num
