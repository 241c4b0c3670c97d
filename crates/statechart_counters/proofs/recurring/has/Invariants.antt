use Rattle.std.proofs.Common.{◌≡◌, map, drop}
use Rattle.std.specs.List.{list_any}
use Rattle.statechart_meaning.specs.Counting as spec
use Rattle.statechart_counters.specs.Again.{recurring_seen}
use Rattle.statechart_counters.proofs.recurring.has.Given as goal

-- what is left gives what all give
abbrev pub invariant-loop-other : goal.invariant-loop-other
invariant-loop-other l =
    list_any (spec.is_same (recurring_seen l.one)) (map recurring_seen (drop l.other-index l.all))
    ≡ list_any (spec.is_same (recurring_seen l.one)) (map recurring_seen l.all)
