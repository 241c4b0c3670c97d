use Rattle.c_facts.proofs.Changing.{framed-holds, forgotten-holds}
use Rattle.c_facts.proofs.Touching.{all-touch}
use Rattle.c_facts.proofs.laws.framed_facts_hold.Goals as goal

pub returns-clause-after : goal.returns-clause-after
returns-clause-after c touched known left s after h j stays = framed-holds s after touched stays known left h j

pub returns-clause-forgotten : goal.returns-clause-forgotten
returns-clause-forgotten c touched known s after h stays = forgotten-holds s after touched stays known h

pub returns-clause-within : goal.returns-clause-within
returns-clause-within c few many q e t = all-touch few many q e t
