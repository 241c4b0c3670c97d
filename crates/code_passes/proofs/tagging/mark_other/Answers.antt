use Rattle.std.proofs.Common.{get_or, false}
use Rattle.code_passes.proofs.TagLemmas.{mark_own, mark_past, mark_set}
use Rattle.code_passes.proofs.tagging.mark_other.Goals as goal

-- a procedure stands for itself
pub returns-then-number-proc-clause-each : goal.returns-then-number-proc-clause-each
returns-then-number-proc-clause-each c p within =
    mark_own (get_or c.args.flags.now p false) p c.args.proc c.args.number c.if-number-proc.true

-- another one stands for it
pub returns-then-number-flags-clause-each : goal.returns-then-number-flags-clause-each
returns-then-number-flags-clause-each c p within =
    mark_set c.args.flags.now p c.args.proc c.args.number c.if-number-proc.false c.if-number-flags.true

-- there is no such one
pub returns-else-number-flags-clause-each : goal.returns-else-number-flags-clause-each
returns-else-number-flags-clause-each c p within =
    mark_past c.args.flags.now p c.args.proc c.args.number c.if-number-flags.false within
