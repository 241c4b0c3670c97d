use Rattle.std.proofs.Common.{◌∙◌, refl, sym, subst}
use Rattle.code_language.specs.Code.{code_of}
use Rattle.code_language.specs.Kept.{KeepsMeasures}
use Rattle.code_language.specs.WellFormed.{TooMany, BadTable}
use Rattle.code_language.proofs.acceptance.examine.Goals as goal

pub returns-then-too_many-clause-refused : goal.returns-then-too_many-clause-refused
returns-then-too_many-clause-refused c =
    rw c.of_code.ensures (TooMany (sym c.too_many.ensures ∙ c.if-too_many.true))

pub returns-in-Ok-None-clause-refused : goal.returns-in-Ok-None-clause-refused
returns-in-Ok-None-clause-refused c =
    let few = sym c.too_many.ensures ∙ c.if-too_many.false in
    let fits = rw c.in-Ok-None.field-0-is at c.in-Ok-None.ensures.table in
    rw c.of_code-in-Ok-None.ensures (BadTable few (λ table. let some = fits.1 table in absurd cc))

pub measured-requires-clause-few : goal.measured-requires-clause-few
measured-requires-clause-few c = sym c.too_many.ensures ∙ c.if-too_many.false

pub measured-requires-clause-table : goal.measured-requires-clause-table
measured-requires-clause-table c = (rw c.in-Ok-Some.field-0-is at c.in-Ok-Some.ensures.table).0 refl

pub returns-in-Ok-clause-kept : goal.returns-in-Ok-clause-kept
returns-in-Ok-clause-kept c =
    let k = code_of c.args.raw.now in
    let same = rw c.in-Ok-Some.field-0-is at c.in-Ok-Some.ensures.shape in
    subst (λ t. KeepsMeasures k t c.in-Ok.measures.height c.in-Ok.measures.work) (sym same) c.in-Ok.ensures.kept
