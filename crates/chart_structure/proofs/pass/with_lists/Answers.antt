use Rattle.chart_structure.proofs.PassLemmas.{state_passed_by, state_pairs}
use Rattle.chart_structure.proofs.pass.with_lists.Goals as goal

pub returns-clause-new : goal.returns-clause-new
returns-clause-new c =
    let o = c.in_ok-outer.ensures in let i = c.in_ok-inner.ensures in let a = c.in_ok-all.ensures in
    state_passed_by _ _ _ _ _ _ c.with_state.ensures.new o.old i.old a.old o.new i.new a.new

pub returns-clause-pairs : goal.returns-clause-pairs
returns-clause-pairs c =
    state_pairs _ _ _ _ _ _ c.in_ok-outer.ensures.pairs c.in_ok-inner.ensures.pairs c.in_ok-all.ensures.pairs
