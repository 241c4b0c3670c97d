use Rattle.std.proofs.Common.{arith}
use Rattle.active_config.proofs.BitListLemmas.{word_within, bit_read}
use Rattle.active_config.proofs.bit_list.BitList.get.Goals as goal

pub index-requires : goal.index-requires
index-requires c = omega (arith, word_within _ _ _ c.self.view_is c.self.invariant c.args.index c.requires)

pub returns : goal.returns
returns c = bit_read _ _ _ c.self.view_is c.self.invariant c.args.index _ c.requires c.index.ensures
