use Rattle.std.proofs.Common.{◌∙◌, sym}
use Rattle.code_language.proofs.WholeTable.{no_table, no_distinct, table_result}
use Rattle.code_language.proofs.tables.table_shape.Goals as goal
use Rattle.code_language.proofs.tables.table_shape.Goals.{then-not-is_declared-via-then-not-is_declared}
use Rattle.code_language.proofs.tables.table_shape.Goals.{then-not-is_declared-via-else-not-is_declared+in_ok-are_names_distinct+then-not-branch}

pub returns-then-not-is_declared-clause-table : goal.returns-then-not-is_declared-clause-table
returns-then-not-is_declared-clause-table c = elim c.then-not-is_declared.branch [
  | then-not-is_declared-via-then-not-is_declared w ↦
      no_table c.args.raw.now (sym c.is_declared.ensures ∙ w.if-not-is_declared.true)
  | then-not-is_declared-via-else-not-is_declared+in_ok-are_names_distinct+then-not-branch w ↦
      let found = rw (c.items-vars.ensures, c.items-events.ensures) at w.in_ok-are_names_distinct.ensures in
      no_distinct c.args.raw.now (sym found ∙ w.if-not-branch.true)
]

pub returns-clause-shape : goal.returns-clause-shape
returns-clause-shape c = rw c.items.ensures at c.states_shape.ensures.shape

pub returns-clause-table : goal.returns-clause-table
returns-clause-table c =
    let found = rw (c.items-vars.ensures, c.items-events.ensures) at c.in_ok-are_names_distinct.ensures in
    table_result c.args.raw.now c.states_shape.result (sym c.is_declared.ensures ∙ c.if-not-is_declared.false)
    (sym found ∙ c.if-not-branch.false) (rw c.items.ensures at c.states_shape.ensures.states)
