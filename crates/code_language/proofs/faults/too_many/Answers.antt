use Rattle.std.proofs.Common.{◌∙◌}
use Rattle.flow_base.specs.Lists.{items_of}
use Rattle.code_language.proofs.FaultLemmas.{too_long}
use Rattle.code_language.proofs.faults.too_many.Goals as goal

pub returns-else-items-gt-PROC_LIMIT : goal.returns-else-items-gt-PROC_LIMIT
returns-else-items-gt-PROC_LIMIT c =
    let few = rw c.items.ensures at c.if-items-gt-PROC_LIMIT.false in
    let is = rw c.items-else-items-gt-PROC_LIMIT.ensures at c.has_long.ensures in
    is ∙ too_long (items_of c.args.raw.now.procs) few
