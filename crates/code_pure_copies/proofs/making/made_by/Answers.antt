use Rattle.std.proofs.Common.{Option, IfSome, subst}
use Rattle.code_language.specs.Code.{code_of}
use Rattle.code_language.specs.declared.code.RawCode.{RawCode}
use Rattle.code_pure_copies.specs.PureCopies.{ArePureCopies}
use Rattle.code_pure_copies.proofs.PureWhole.{accepted_same_runs}
use Rattle.code_pure_copies.proofs.making.made_by.Goals as goal

-- what is accepted has the same runs
pub returns-in-Ok-clause-same : goal.returns-in-Ok-clause-same
returns-in-Ok-clause-same c =
    let origins = c.args.origins.now in
    let copies = subst
    (λ (found : Option RawCode). IfSome found
    (λ made. ArePureCopies (code_of c.raw.result.now) (code_of made) origins))
    c.in-Some.is c.in_ok-raw.ensures in
    let pure = subst (λ (raw : RawCode). ArePureCopies (code_of raw) (code_of c.in-Some.raw) origins) c.raw.ensures.raw
    copies in
    accepted_same_runs (code_of c.args.code.now) c.in-Some.raw c.in-Ok.made origins c.in-Ok.ensures.accepted
    c.raw-in-Ok.ensures.well_formed pure
