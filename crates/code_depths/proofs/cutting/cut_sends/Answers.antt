use Rattle.std.proofs.Common.{Option, IfSome, ap, ◌∙◌, subst}
use Rattle.code_language.specs.Code.{code_of}
use Rattle.code_language.specs.declared.code.RawCode.{RawCode}
use Rattle.code_depths.specs.declared.finding.Cut.{Cut}
use Rattle.code_depths.specs.Depths.{AreLevels, cut_code, ByLevels}
use Rattle.code_depths.proofs.cutting.cut_sends.Goals as goal

-- what is accepted is the code, cut by levels of its procedures
pub returns-in-Ok-clause-cut : goal.returns-in-Ok-clause-cut
returns-in-Ok-clause-cut c =
    let cut = c.in-Some.cut in
    let found =
    subst (λ (found : Option Cut). IfSome found
    (λ some. AreLevels some.levels.items (code_of c.raw.result.now).procedures)) c.in-Some.is c.in_ok-cut.ensures in
    let levels =
    subst (λ (raw : RawCode). AreLevels cut.levels.items (code_of raw).procedures) c.raw.ensures.raw found in
    ByLevels cut.levels.items cut.leaf levels
    (ap code_of c.in-Ok.ensures.accepted ∙ c.in_ok-raw.ensures
    ∙ ap (λ (raw : RawCode). cut_code c.args.depth cut.levels.items cut.leaf (code_of raw)) c.raw-2.ensures.raw)
