use Rattle.std.proofs.Common.{sym}
use Rattle.chart_scope.proofs.FoundLemmas.{three_found}
use Rattle.chart_scope.proofs.StateViews.{entry-seen, during-seen, exit-seen}
use Rattle.chart_scope.proofs.states.state_actions.Goals as goal

-- each list is resolved
pub returns-clause-entry : goal.returns-clause-entry
returns-clause-entry c = rw (entry-seen c.args.placed.now.state.now, sym c.items.ensures) c.in_ok-entry.ensures.built

pub returns-clause-during : goal.returns-clause-during
returns-clause-during c = rw (during-seen c.args.placed.now.state.now, sym c.items-2.ensures) c.in_ok-during.ensures.built

pub returns-clause-exit : goal.returns-clause-exit
returns-clause-exit c = rw (exit-seen c.args.placed.now.state.now, sym c.items-3.ensures) c.in_ok-exit.ensures.built

-- and the first fault of the actions is kept
pub returns-clause-kept : goal.returns-clause-kept
returns-clause-kept c =
    let s = c.args.placed.now.state.now in
    rw (entry-seen s, during-seen s, exit-seen s, sym c.items.ensures, sym c.items-2.ensures, sym c.items-3.ensures)
    (three_found _ _ _ _ _ _ _ c.in_ok-entry.ensures.kept c.in_ok-during.ensures.kept c.in_ok-exit.ensures.kept)
