use Rattle.std.proofs.Common.{Some, None, refl}
use Rattle.std.proofs.lemmas.Result.{err_from_is_err_and}
use Rattle.flow_base.specs.Lists.{items_of}
use Rattle.code_language.specs.Code.{code_of}
use Rattle.code_language.proofs.AcceptLemmas.{fault_of_heights, fault_of_works, cause_by}
use Rattle.code_language.proofs.FaultLemmas.{none_long}
use Rattle.code_language.proofs.acceptance.limited.Goals as goal

pub returns-in_err-height-clause-refused : goal.returns-in_err-height-clause-refused
returns-in_err-height-clause-refused c =
    let k = code_of c.args.raw.now in
    let over = rw c.items.ensures at c.in_err-height.ensures.over in
    let p = err_from_is_err_and c.from_residual.result c.from_residual.ensures.1 in
    rw (p.1, p.2)
    (cause_by k _ _ c.requires.few c.requires.table (fault_of_heights k c.requires.starts c.requires.procs) over)

pub greatest_work-requires-clause-short : goal.greatest_work-requires-clause-short
greatest_work-requires-clause-short c =
    rw c.items-2.ensures (none_long (items_of c.args.raw.now.procs) c.requires.few)

pub returns-in_err-work-clause-refused : goal.returns-in_err-work-clause-refused
returns-in_err-work-clause-refused c =
    let k = code_of c.args.raw.now in
    let high = rw c.items.ensures at c.in_ok-height.ensures.none in
    let over = rw c.items-2.ensures at c.in_err-work.ensures.over in
    let p = err_from_is_err_and c.from_residual-in_err-work.result c.from_residual-in_err-work.ensures.1 in
    rw (p.1, p.2)
    (cause_by k _ _ c.requires.few c.requires.table
    (λ fault e. fault_of_works k c.requires.starts c.requires.procs high (Some fault) e) over)

pub returns-clause-kept : goal.returns-clause-kept
returns-clause-kept c =
    let k = code_of c.args.raw.now in
    let high = rw c.items.ensures at c.in_ok-height.ensures.none in
    let work = rw c.items-2.ensures at c.in_ok-work.ensures.none in
    record {
      code = record {
        few = c.requires.few;
        table = c.requires.table;
        sound = fault_of_works k c.requires.starts c.requires.procs high None work;
      };
      tree = refl;
      height = rw c.items.ensures at c.in_ok-height.ensures.greatest;
      work = rw c.items-2.ensures at c.in_ok-work.ensures.greatest;
    }
