use Rattle.std.proofs.Common.{◌≡◌, map, drop, is_some}
use Rattle.flow_base.specs.Names.{index_of}
use Rattle.statechart_tree.specs.Views.{case_of}
use Rattle.statechart_transitions.specs.Cases.{alone_in}
use Rattle.statechart_transitions.proofs.cases.has_alone.Given as goal

-- what is left of the cases gives what all give
abbrev pub invariant-loop-case : goal.invariant-loop-case
invariant-loop-case l =
    is_some (index_of l.name (alone_in (map case_of (drop l.case-index l.cases))))
    ≡ is_some (index_of l.name (alone_in (map case_of l.cases)))
