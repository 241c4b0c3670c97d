use Rattle.c_facts.proofs.constants.+single_gap.Given as goal

abbrev pub decreases-single_gap : goal.decreases-single_gap
decreases-single_gap l = l.count
