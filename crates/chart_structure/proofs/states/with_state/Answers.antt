use Rattle.chart_structure.proofs.StateLemmas.{state_passed}
use Rattle.chart_structure.proofs.states.with_state.Goals as goal

pub returns-clause-new : goal.returns-clause-new
returns-clause-new c =
    let last = c.with_history.ensures.old in
    let unwanted = c.with_unwanted-unwanted.ensures in
    state_passed _ _ _
    (λ k h. last _ (unwanted.old _ (c.with_composition-composed.ensures.new k h)))
    (λ a ne is. last _ (unwanted.new a ne is)) c.with_history.ensures.new
