use Rattle.std.proofs.Common.{◌≡◌, length, refl, sym, ap, ◌∙◌, subst, arith}
use Rattle.code_copies.proofs.SameRunsLemmas.{same_itself}
use Rattle.code_language.specs.Code.{code_of}
use Rattle.code_language.specs.WellFormed.{IsCode}
use Rattle.code_language.specs.declared.code.RawCode.{RawCode}
use Rattle.code_merging.specs.Merged.{numbers_from, AsItWas}
use Rattle.code_merging.proofs.MergedWhole.{runs_by_table}
use Rattle.code_merging.proofs.OwnNumbers.{numbers_size}
use Rattle.code_merging.proofs.merging.merge.Goals as goal

-- the code as it was has its own runs
pub returns-then-not-is_table-clause-same : goal.returns-then-not-is_table-clause-same
returns-then-not-is_table-clause-same c =
    same_itself (code_of c.args.code)
    (subst (λ (raw : RawCode). IsCode (code_of raw)) c.code.view_is c.code.invariant.code)

-- there each procedure stands for itself
pub returns-then-not-is_table-clause-merged : goal.returns-then-not-is_table-clause-merged
returns-then-not-is_table-clause-merged c =
    let size = c.in_ok-numbers.ensures in
    let count : c.len.result ≡ length (code_of c.args.code).procedures.procs = omega (arith, size, c.len.ensures) in
    AsItWas (c.in_ok-numbers-2.ensures ∙ ap (numbers_from 0) count) refl

pub returns-then-not-is_table-clause-size : goal.returns-then-not-is_table-clause-size
returns-then-not-is_table-clause-size c =
    let size = c.in_ok-numbers.ensures in
    let count : c.len.result ≡ length (code_of c.args.code).procedures.procs = omega (arith, size, c.len.ensures) in
    ap length c.in_ok-numbers-2.ensures ∙ numbers_size 0 c.len.result ∙ count

-- so has what is made by the table
pub returns-clause-same : goal.returns-clause-same
returns-clause-same c =
    runs_by_table (code_of c.args.code) (code_of c.in_ok-code.code) c.deref.result.now c.deref-2.result.now
    (subst (λ (raw : RawCode). IsCode (code_of raw)) c.code.view_is c.code.invariant.code)
    (c.is_table.ensures.equal c.if-not-is_table.false) (c.deref.ensures.value ∙ sym c.deref-2.ensures.value)
    c.in_ok-code.ensures
