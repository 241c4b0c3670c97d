use Rattle.c_facts.proofs.settling.+sunk.Given as goal

abbrev pub decreases-sunk : goal.decreases-sunk
decreases-sunk l = l.rounds
