use Rattle.std.proofs.Common.{◌≡◌, map, drop}
use Rattle.statechart_tree.specs.Views.{state_of}
use Rattle.statechart_meaning.specs.Scope.{child_named}
use Rattle.statechart_names.specs.Seen.{row_of, lowest_path, child_in}
use Rattle.statechart_names.proofs.states.child_of.Given as goal

-- what is left of the states gives what all give
abbrev pub invariant-loop-state : goal.invariant-loop-state
invariant-loop-state l =
    child_named (lowest_path l.frames) l.number (row_of (map state_of (drop l.state-index l.states))) l.name
    ≡ child_in l.frames l.name
