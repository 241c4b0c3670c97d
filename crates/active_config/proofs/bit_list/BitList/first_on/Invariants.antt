use Rattle.std.proofs.Common.{◌-◌}
use Rattle.active_config.proofs.BitListLemmas.{Passed}
use Rattle.active_config.proofs.bit_list.BitList.first_on.Given as goal

-- every flag before the place is off
abbrev pub invariant-words : goal.invariant-words
invariant-words l = Passed l.self l.from l.at

abbrev pub decreases-words : goal.decreases-words
decreases-words l = l.end - l.at
