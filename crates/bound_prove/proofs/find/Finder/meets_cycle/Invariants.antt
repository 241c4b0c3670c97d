use Rattle.checked_chart.specs.Kept.{chart_of}
use Rattle.bound_prove.specs.Colourings.{colours_of}
use Rattle.bound_prove.specs.Finding.{IsFinding}
use Rattle.bound_prove.specs.WorkLeft.{work_left}
use Rattle.bound_prove.proofs.find.Finder.meets_cycle.Given as goal

abbrev pub invariant-loop-cell : goal.invariant-loop-cell
invariant-loop-cell l = IsFinding (chart_of l.chart) l.self l.self.stack.items

-- each cell is looked at once while it is white, and once while it is grey
abbrev pub decreases-loop-cell : goal.decreases-loop-cell
decreases-loop-cell l = work_left (chart_of l.chart) (colours_of l.self.colours)
