use Rattle.active_config.proofs.MarksLemmas.{can_mark_where}
use Rattle.library_tests.proofs.marks.try_mark.Goals as goal

pub mark-requires-clause-can : goal.mark-requires-clause-can
mark-requires-clause-can c =
    can_mark_where c.args.shape.now c.args.state c.args.marks.now _ _ c.on.ensures c.if-on.false c.parent_takes.ensures
    c.if-not-parent_takes.false
