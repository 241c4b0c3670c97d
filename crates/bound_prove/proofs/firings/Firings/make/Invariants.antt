use Rattle.bound_prove.proofs.FiringLemmas.{AreEmptyRows}
use Rattle.bound_prove.proofs.firings.Firings.make.Given as goal

abbrev pub invariant-loop : goal.invariant-loop
invariant-loop l = AreEmptyRows l.rows.items
