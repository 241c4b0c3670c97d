use Rattle.std.proofs.Common.{◌∙◌, sym}
use Rattle.code_language.specs.Code.{code_of}
use Rattle.code_language.proofs.AcceptLemmas.{both_known, none_in_procs, only_memory}
use Rattle.code_language.proofs.acceptance.measures_of.Goals as goal

pub limited-requires-clause-few : goal.limited-requires-clause-few
limited-requires-clause-few c = c.requires.few

pub limited-requires-clause-table : goal.limited-requires-clause-table
limited-requires-clause-table c = c.requires.table

pub limited-requires-clause-starts : goal.limited-requires-clause-starts
limited-requires-clause-starts c = both_known (code_of c.args.raw.now) c.requires

pub limited-requires-clause-procs : goal.limited-requires-clause-procs
limited-requires-clause-procs c = none_in_procs (code_of c.args.raw.now) c.requires

-- only memory can be wanting
pub unreachable-requires : goal.unreachable-requires
unreachable-requires c =
    let bad = sym c.in-Err-Fault.field-0-is
    ∙ only_memory (code_of c.args.raw.now) _ c.requires c.in-Err-Fault.ensures.refused in cc
