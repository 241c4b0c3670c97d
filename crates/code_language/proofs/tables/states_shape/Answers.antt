use Rattle.std.proofs.Common.{◌∙◌, sym}
use Rattle.code_language.proofs.WholeTable.{states_are, states_deep, no_states, no_twinned}
use Rattle.code_language.proofs.tables.states_shape.Goals as goal
use Rattle.code_language.proofs.tables.states_shape.Goals.{then-not-has_parents-via-then-not-has_parents}
use Rattle.code_language.proofs.tables.states_shape.Goals.{then-not-has_parents-via-else-not-has_parents+in_ok-has_no_twins+then-not-branch}

pub returns-then-not-has_parents-clause-states : goal.returns-then-not-has_parents-clause-states
returns-then-not-has_parents-clause-states c = elim c.then-not-has_parents.branch [
  | then-not-has_parents-via-then-not-has_parents w ↦
      no_states c.args.states.now (sym c.has_parents.ensures ∙ w.if-not-has_parents.true)
  | then-not-has_parents-via-else-not-has_parents+in_ok-has_no_twins+then-not-branch w ↦
      no_twinned c.args.states.now (sym w.in_ok-has_no_twins.ensures ∙ w.if-not-branch.true)
]

pub returns-then-is_shallow-clause-states : goal.returns-then-is_shallow-clause-states
returns-then-is_shallow-clause-states c =
    states_are c.args.states.now _ c.in-Ok.ensures.shape (c.is_shallow.ensures.0 c.if-is_shallow.true)
    (sym c.in_ok-has_no_twins.ensures ∙ c.if-not-branch.false)

pub returns-else-is_shallow-clause-states : goal.returns-else-is_shallow-clause-states
returns-else-is_shallow-clause-states c =
    states_deep c.args.states.now _ c.in-Ok.ensures.shape (λ h.
    let t = c.is_shallow.ensures.1 h in let f = c.if-is_shallow.false in absurd cc)
