use Rattle.std.proofs.Common.{◌≡◌, map, drop}
use Rattle.std.specs.List.{flat_map}
use Rattle.statechart_tree.specs.Views.{action_of}
use Rattle.statechart_meaning.specs.Counting as spec
use Rattle.statechart_names.specs.Seen.{scope_seen}
use Rattle.statechart_counters.specs.Again.{recurring_seen, collected, on_cases, trans_cases}
use Rattle.statechart_counters.proofs.recurring.add_ons.Given as goal

-- what is collected so far, with what is left, is all
abbrev pub invariant-loop-action : goal.invariant-loop-action
invariant-loop-action l =
    collected (map recurring_seen l.all.items)
    (flat_map (on_cases (scope_seen l.scope)) (spec.ons_in (map action_of (drop l.action-index l.actions))))
    ≡ collected (map recurring_seen l.fn.all.items)
    (flat_map (on_cases (scope_seen l.scope)) (spec.ons_in (map action_of l.actions)))
