use Rattle.std.proofs.Common.{◌≡◌, ◌++◌, map, take, drop}
use Rattle.chart_tree.specs.Views as core
use Rattle.statechart_tree.specs.Views.{case_of, stmt_of}
use Rattle.statechart_names.specs.Seen.{scope_seen}
use Rattle.statechart_transitions.specs.Cases.{alone_in, case_transitions}
use Rattle.statechart_transitions.proofs.CaseLemmas.{of_cases}
use Rattle.statechart_transitions.proofs.transitions.push_cases.Given as goal

-- the transitions so far, and those of the cases that are left, are all
abbrev pub invariant-loop-index : goal.invariant-loop-index
invariant-loop-index l =
    let cond = map stmt_of l.shared.cond.now in
    let act = map stmt_of l.shared.act.now in
    let dest = core.dest_of l.shared.dest.now in
    map core.trans_of l.into.items
    ++ of_cases (scope_seen l.scope) l.shared.at cond act dest (alone_in (map case_of (take l.index l.cases)))
    (map case_of (drop l.index l.cases))
    ≡ map core.trans_of l.fn.into.items
    ++ case_transitions (scope_seen l.scope) l.shared.at (map case_of l.cases) cond act dest
