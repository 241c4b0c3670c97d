use Rattle.std.proofs.Common.{List, Option, IfSome, subst}
use Rattle.flow_base.specs.Lists.{items_of}
use Rattle.flow_base.specs.declared.list.List.{List as Seq}
use Rattle.code_language.specs.Acceptance.{procs_of}
use Rattle.code_language.specs.Code.{code_of}
use Rattle.code_language.specs.declared.instr.Instr.{Instr}
use Rattle.code_shrink.specs.Numbers.{number_by}
use Rattle.code_pure_copies.proofs.PureMade.{AreMade, pure_made}
use Rattle.code_pure_copies.proofs.making.made_raw.Goals as goal

-- the copies are those of the procedures that are written
pub returns : goal.returns
returns c =
    let raw = c.args.raw.now in
    let plan = c.args.plan.now in
    let origins = c.args.origins.now in
    let copies = subst
    (λ (found : Option (Seq (Seq Instr))). IfSome found
    (λ made. AreMade (number_by origins) (procs_of c.items.result.now) (procs_of (items_of made)) origins))
    c.in-Some.is c.in_ok-procs.ensures in
    let all = subst
    (λ (written : List (Seq Instr)).
    AreMade (number_by origins) (procs_of written) (procs_of (items_of c.in-Some.procs)) origins)
    c.items.ensures copies in
    pure_made (code_of raw) (code_of c.in_ok-made.made) (procs_of (items_of c.in-Some.procs)) plan.start plan.react
    origins c.in_ok-made.ensures all (c.are_firsts.ensures.start c.if-not-are_firsts.false)
    (c.are_firsts.ensures.react c.if-not-are_firsts.false)
