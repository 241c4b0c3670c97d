use Rattle.checked_chart.specs.Kept.{chart_of}
use Rattle.bound_prove.proofs.RootLemmas.{AreRootsBelow}
use Rattle.bound_prove.proofs.find.root_cells.Given as goal

-- the roots of the events so far
abbrev pub invariant-loop-number : goal.invariant-loop-number
invariant-loop-number l = AreRootsBelow (chart_of l.chart) l.number l.cells.items
