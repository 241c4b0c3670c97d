use Rattle.std.proofs.Common.{sym}
use Rattle.chart_scope.proofs.FoundLemmas.{three_found}
use Rattle.chart_scope.proofs.StateViews.{outer-seen, inner-seen, default-seen}
use Rattle.chart_scope.proofs.states.state_lists.Goals as goal

-- each list is resolved
pub returns-clause-outer : goal.returns-clause-outer
returns-clause-outer c = rw (outer-seen c.args.placed.now.state.now, sym c.items.ensures) c.in_ok-outer.ensures.built

pub returns-clause-inner : goal.returns-clause-inner
returns-clause-inner c = rw (inner-seen c.args.placed.now.state.now, sym c.items-2.ensures) c.in_ok-inner.ensures.built

pub returns-clause-default : goal.returns-clause-default
returns-clause-default c = rw (default-seen c.args.placed.now.state.now, sym c.items-3.ensures) c.in_ok-default.ensures.built

-- and the first fault of the transitions is kept
pub returns-clause-kept : goal.returns-clause-kept
returns-clause-kept c =
    let s = c.args.placed.now.state.now in
    rw (outer-seen s, inner-seen s, default-seen s, sym c.items.ensures, sym c.items-2.ensures, sym c.items-3.ensures)
    (three_found _ _ _ _ _ _ _ c.in_ok-outer.ensures.kept c.in_ok-inner.ensures.kept c.in_ok-default.ensures.kept)
