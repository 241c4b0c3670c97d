use Rattle.std.proofs.Common.{◌∙◌, sym}
use Rattle.code_language.specs.Code.{code_of}
use Rattle.code_language.specs.WellFormed.{Later}
use Rattle.code_language.proofs.AcceptLemmas.{fault_of_starts, fault_of_procs}
use Rattle.code_language.proofs.TableLemmas.{none_where}
use Rattle.code_language.proofs.acceptance.measured.Goals as goal

pub returns-then-not-starts_known-clause-refused : goal.returns-then-not-starts_known-clause-refused
returns-then-not-starts_known-clause-refused c =
    let k = code_of c.args.raw.now in
    rw c.of_code.ensures
    (Later _ c.requires.few c.requires.table (fault_of_starts k (sym c.starts_known.ensures ∙ c.if-not-starts_known.true)))

pub returns-in-Some-clause-refused : goal.returns-in-Some-clause-refused
returns-in-Some-clause-refused c =
    let k = code_of c.args.raw.now in
    let starts = sym c.starts_known.ensures ∙ c.if-not-starts_known.false in
    Later _ c.requires.few c.requires.table (fault_of_procs k starts c.in-Some.fault (sym c.procs_fault.ensures ∙ c.in-Some.is))

pub limited-requires-clause-starts : goal.limited-requires-clause-starts
limited-requires-clause-starts c = sym c.starts_known.ensures ∙ c.if-not-starts_known.false

pub limited-requires-clause-procs : goal.limited-requires-clause-procs
limited-requires-clause-procs c = sym c.procs_fault.ensures ∙ none_where c.procs_fault.result c.in_default.not-Some
