use Rattle.std.proofs.Common.{refl}
use Rattle.chart_places.specs.Survey.{placed_of}
use Rattle.chart_places.proofs.SurveyLemmas.{name-seen}
use Rattle.chart_scope.specs.Uses.{block_faults, list_faults}
use Rattle.chart_scope.proofs.FoundLemmas.{three_more_found}
use Rattle.chart_scope.proofs.StateViews.{history-seen}
use Rattle.chart_scope.proofs.states.state.Goals as goal

-- each part is resolved
pub returns-clause-built : goal.returns-clause-built
returns-clause-built c =
    let s = c.args.placed.now.state.now in
    rw (
      name-seen s,
      history-seen s,
      c.word.ensures,
      c.in_ok-actions.ensures.entry,
      c.in_ok-actions.ensures.during,
      c.in_ok-actions.ensures.exit,
      c.in_ok-lists.ensures.outer,
      c.in_ok-lists.ensures.inner,
      c.in_ok-lists.ensures.default,
    )
    refl

-- and the first fault of all parts is kept
pub returns-clause-kept : goal.returns-clause-kept
returns-clause-kept c =
    let p = c.args.scopes.now in
    let s = c.args.number in
    let x = (placed_of c.args.placed.now).parts in
    three_more_found _ _ _ (block_faults p s x.entry) (block_faults p s x.during) (block_faults p s x.exit)
    (list_faults p s x.outer) (list_faults p s x.inner) (list_faults p s x.default) c.in_ok-actions.ensures.kept
    c.in_ok-lists.ensures.kept
