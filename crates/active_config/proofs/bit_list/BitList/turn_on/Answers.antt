use Rattle.std.proofs.Common.{arith}
use Rattle.active_config.proofs.BitListLemmas.{word_within, bit_turned_on}
use Rattle.active_config.proofs.bit_list.BitList.turn_on.Goals as goal

pub index_mut-requires : goal.index_mut-requires
index_mut-requires c = omega (arith, word_within _ _ _ c.self.view_is c.self.invariant c.args.index c.requires)

pub returns : goal.returns
returns c = bit_turned_on _ _ _ c.self.view_is c.self.invariant c.args.index _ c.requires c.index_mut.ensures.value
