use Rattle.std.proofs.Common.{◌≡◌, map, take}
use Rattle.resolved_tree.specs.Plain as plain
use Rattle.resolved_tree.specs.Views.{trans_of}
use Rattle.checked_chart.specs.Views.{trans_seen}
use Rattle.chart_check.proofs.parts.plain_list.Given as goal

-- the transitions so far are made
abbrev pub invariant-loop-trans : goal.invariant-loop-trans
invariant-loop-trans l =
    map trans_seen l.made.items ≡ map (λ x. plain.plain_trans (trans_of x)) (take l.trans-index l.trans-items)
