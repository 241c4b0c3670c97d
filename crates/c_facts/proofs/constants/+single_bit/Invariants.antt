use Rattle.c_facts.proofs.constants.+single_bit.Given as goal

abbrev pub decreases-single_bit : goal.decreases-single_bit
decreases-single_bit l = l.count
