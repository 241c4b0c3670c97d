use Rattle.std.proofs.Common.{◌≡◌, map, drop}
use Rattle.statechart_tree.specs.Views.{case_of}
use Rattle.statechart_meaning.specs.Counting as spec
use Rattle.statechart_names.specs.Seen.{scope_seen}
use Rattle.statechart_counters.specs.Again.{recurring_seen, collected, on_cases, trans_cases}
use Rattle.statechart_counters.proofs.recurring.add_cases.Given as goal

-- what is collected so far, with what is left, is all
abbrev pub invariant-loop-case : goal.invariant-loop-case
invariant-loop-case l =
    collected (map recurring_seen l.all.items)
    (spec.every_cases (scope_seen l.scope) (map case_of (drop l.case-index l.cases)))
    ≡ collected (map recurring_seen l.fn.all.items)
    (spec.every_cases (scope_seen l.scope) (map case_of l.cases))
