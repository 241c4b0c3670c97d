use Rattle.std.proofs.Common.{◌≡◌, ◌∙◌, sym, ap, subst}
use Rattle.code_language.specs.Code.{Code, code_of}
use Rattle.code_shrink.specs.Origins.{HadNumbers}
use Rattle.code_shrink.specs.Shrunk.{IsShrunk}
use Rattle.code_shrink.proofs.shrinking.shrink_with_origins.Goals as goal

-- the smaller code is well formed
pub of_well_formed-requires : goal.of_well_formed-requires
of_well_formed-requires c = c.in_ok-made.ensures.shrunk.well_formed

-- and is as it was written
pub returns-clause-shrunk : goal.returns-clause-shrunk
returns-clause-shrunk c =
    let same : code_of c.in_ok-code.code ≡ code_of c.in_ok-made.made.raw = ap code_of c.in_ok-code.ensures in
    subst (IsShrunk (code_of c.args.code.now)) (sym same) c.in_ok-made.ensures.shrunk

pub returns-clause-origins : goal.returns-clause-origins
returns-clause-origins c =
    let same : code_of c.in_ok-code.code ≡ code_of c.in_ok-made.made.raw = ap code_of c.in_ok-code.ensures in
    subst (λ (k : Code). HadNumbers (code_of c.args.code.now).procedures k.procedures c.in_ok-made.made.origins.items)
    (sym same) c.in_ok-made.ensures.origins
