use Rattle.std.proofs.Common.{refl}
use Rattle.chart_structure.proofs.WalkLemmas.{walk_more_at}
use Rattle.chart_structure.proofs.reach.visit.Goals as goal

pub returns-clause-walk : goal.returns-clause-walk
returns-clause-walk c = λ root w r.
    walk_more_at _ root _ _ _ _ _ _ _ _ _ w r c.requires.within c.if-marks-junction.false refl
    c.in_ok-push.ensures.items c.junction.ensures.list c.saturating_add.ensures
