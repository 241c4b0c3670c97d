use Rattle.c_shape.proofs.RankLemmas.{RanksTo}
use Rattle.c_shape.proofs.ranks.ranks_of.Given as goal

-- the states so far are counted
abbrev pub invariant-loop-state : goal.invariant-loop-state
invariant-loop-state l = RanksTo l.tree l.state l.ors l.ranks.items
