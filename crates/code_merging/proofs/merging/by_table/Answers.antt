use Rattle.std.proofs.Common.{sym, ap, ◌∙◌, subst}
use Rattle.code_language.specs.Code.{code_of}
use Rattle.code_language.specs.WellFormed.{IsCode}
use Rattle.code_language.specs.declared.code.RawCode.{RawCode}
use Rattle.code_merging.specs.Merged.{merged_code}
use Rattle.code_merging.proofs.MergedWhole.{merged_same_runs}
use Rattle.code_shrink.specs.Numbers.{number_by}
use Rattle.code_merging.proofs.merging.by_table.Goals as goal

-- it is kept as it was made
pub returns : goal.returns
returns c =
    ap code_of c.in_ok-made.ensures ∙ c.in_ok-raw.ensures
    ∙ ap (λ (raw : RawCode). merged_code (number_by c.args.numbers.now) (code_of raw)) c.into_raw.ensures.raw

-- and it is well formed
pub of_well_formed-requires : goal.of_well_formed-requires
of_well_formed-requires c =
    let made = c.in_ok-raw.ensures
    ∙ ap (λ (raw : RawCode). merged_code (number_by c.args.numbers.now) (code_of raw)) c.into_raw.ensures.raw in
    let same = merged_same_runs (number_by c.args.numbers.now) (code_of c.args.code) c.into_raw.ensures.well_formed
    c.requires.equal in
    subst IsCode (sym made) same.well_formed
