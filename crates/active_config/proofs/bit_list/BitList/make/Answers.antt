use Rattle.active_config.proofs.BitListLemmas.{bits_of-new}
use Rattle.active_config.proofs.bit_list.BitList.make.Goals as goal

pub returns : goal.returns
returns c = bits_of-new c.args.count _ _ (c.in_ok-words.ensures.items_if_clones_equal (λ y h. h))
