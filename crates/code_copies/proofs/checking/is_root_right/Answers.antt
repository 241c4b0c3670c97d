use Rattle.std.proofs.Common.{Some, refl, subst}
use Rattle.code_language.specs.Code.{code_of, instructions}
use Rattle.code_copies.specs.Rooted.{NeverClears, MakesRoot}
use Rattle.code_copies.proofs.RootedStarts.{rooted_by_start}
use Rattle.code_copies.proofs.checking.is_root_right.Goals as goal

-- the start makes the root active, and nothing makes it inactive
pub returns-else-not-plan : goal.returns-else-not-plan
returns-else-not-plan c t =
    let same = c.raw-raw.ensures.raw in
    let never =
    subst (λ raw. NeverClears (code_of raw).procedures) same (c.if-never_clears.ensures refl) in
    let makes =
    subst (λ raw. MakesRoot (code_of raw).procedures (Some 0)
    (instructions (code_of raw).procedures (code_of raw).procedures.start)) same (c.starts_root.ensures t) in (
      λ keeps. never,
      λ active. (
        c.if-plan.true,
        rooted_by_start (code_of c.args.code.now) c.raw-raw.ensures.well_formed never makes,
      ),
    )
