use Rattle.active_config.proofs.BitListLemmas.{count_is}
use Rattle.active_config.proofs.bit_list.BitList.len.Goals as goal

pub returns : goal.returns
returns c = count_is _ _ _ c.self.view_is c.self.invariant
