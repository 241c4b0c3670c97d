use Rattle.std.proofs.Common.{refl, sym}
use Rattle.chart_scope.proofs.FoundLemmas.{five_found}
use Rattle.chart_scope.proofs.transitions.trans.Goals as goal

-- each part is resolved
pub returns-clause-built : goal.returns-clause-built
returns-clause-built c =
    rw (
      c.trigger-event.ensures.built,
      c.in_ok-guard.ensures.built,
      c.in_ok-cond.ensures.built,
      c.items.ensures,
      c.in_ok-act.ensures.built,
      c.items-2.ensures,
      c.dest-dest.ensures.built,
    )
    refl

-- and the first fault of all parts is kept
pub returns-clause-kept : goal.returns-clause-kept
returns-clause-kept c =
    rw (sym c.items.ensures, sym c.items-2.ensures)
    (five_found _ _ _ _ _ _ _ _ _ _ _ c.trigger-event.ensures.kept c.in_ok-guard.ensures.kept c.in_ok-cond.ensures.kept
    c.in_ok-act.ensures.kept c.dest-dest.ensures.kept)
