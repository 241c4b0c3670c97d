use Rattle.std.proofs.Common.{arith}
use Rattle.chart_structure.proofs.WalkLemmas.{dest_within, follows_state, follows_junction, follows_all}
use Rattle.chart_structure.proofs.reach.follow.Goals as goal
use Rattle.chart_structure.proofs.reach.follow.Goals.{in-State, in-Junction+in_ok-count-in-Junction}

pub visit-requires-clause-within : goal.visit-requires-clause-within
visit-requires-clause-within c = dest_within _ _ _ _ _ c.requires.dests c.loop-arrow-test.true c.in-Junction.is

pub loop-arrow-preserved : goal.loop-arrow-preserved
loop-arrow-preserved c = elim c.match-arrow.branch [
  | in-State w ↦ rw (w.marks-is, w.found-is, w.count-is)
      (follows_state _ _ _ _ _ _ _ _ _ _ _ _ c.loop-arrow.invariant c.loop-arrow-test.true w.in-State.is)
  | in-Junction+in_ok-count-in-Junction w ↦
      let x = w.in_ok-count-in-Junction.ensures in
      rw (w.marks-is, w.found-is, w.count-is)
      (follows_junction _ _ _ _ _ _ _ _ _ _ _ _ _ _ _ c.loop-arrow.invariant c.loop-arrow-test.true
      w.in-Junction.is w.visit.auto.marks x.walk x.grows x.marked)
]

pub returns-clause-marked : goal.returns-clause-marked
returns-clause-marked c = follows_all _ _ _ _ _ _ _ _ _ _ (omega arith) c.loop-arrow.invariant
