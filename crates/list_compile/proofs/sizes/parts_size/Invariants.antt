use Rattle.std.proofs.Common.{◌≡◌, ◌+◌, drop}
use Rattle.checked_chart.specs.Views.{list_seen}
use Rattle.chart_code.specs.Places.{parts_size}
use Rattle.list_compile.proofs.sizes.parts_size.Given as goal

-- those that are counted and those of the rest are all
abbrev pub invariant-loop-trans : goal.invariant-loop-trans
invariant-loop-trans l = l.size + parts_size (list_seen (drop l.trans-index l.list)) ≡ parts_size (list_seen l.list)
