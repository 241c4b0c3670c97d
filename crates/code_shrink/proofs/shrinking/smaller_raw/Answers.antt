use Rattle.std.proofs.Common.{◌∙◌, sym, ap, subst}
use Rattle.flow_base.specs.Lists.{items_of}
use Rattle.code_language.specs.Acceptance.{procs_of}
use Rattle.code_language.specs.Code.{Code, Procedures, code_of}
use Rattle.code_language.specs.declared.code.RawCode.{RawCode}
use Rattle.code_shrink.specs.Origins.{HadNumbers}
use Rattle.code_shrink.proofs.WholeLemmas.{made_shrunk}
use Rattle.code_shrink.proofs.shrinking.smaller_raw.Goals as goal

-- the same is declared, and of the procedures exactly what is reached is kept
pub returns-clause-shrunk : goal.returns-clause-shrunk
returns-clause-shrunk c =
    let kept = c.in_ok-kept.kept in
    let ps : Procedures =
    record { procs = procs_of (items_of kept.procs); start = kept.start; react = kept.react } in
    made_shrunk (code_of c.args.code.now) (code_of c.in_ok-raw.raw) ps c.raw.ensures.well_formed
    (c.in_ok-raw.ensures ∙ ap (λ (raw : RawCode). record (code_of raw) { procedures = ps }) c.raw.ensures.raw)
    c.in_ok-kept.ensures.smaller

pub returns-clause-origins : goal.returns-clause-origins
returns-clause-origins c =
    subst (λ (k : Code). HadNumbers (code_of c.args.code.now).procedures k.procedures c.in_ok-kept.kept.origins.items)
    (sym c.in_ok-raw.ensures) c.in_ok-kept.ensures
