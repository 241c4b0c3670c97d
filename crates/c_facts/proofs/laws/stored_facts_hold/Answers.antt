use Rattle.c_facts.proofs.Holding.{element-keeps}
use Rattle.c_facts.proofs.Storing.{stored-holds}
use Rattle.c_facts.proofs.Touching.{stores-within}
use Rattle.c_facts.proofs.laws.stored_facts_hold.Goals as goal

pub returns-clause-after : goal.returns-clause-after
returns-clause-after c int known f e s l x h m = stored-holds int s l f e x known m h

pub returns-clause-within : goal.returns-clause-within
returns-clause-within c int places known f e may s l x h m q t = stores-within int s l f e x places known may m h q t

pub returns-clause-element : goal.returns-clause-element
returns-clause-element c known s a i x h = element-keeps s a i x known h
