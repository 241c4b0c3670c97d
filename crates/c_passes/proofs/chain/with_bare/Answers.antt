use Rattle.std.proofs.Common.{◌≡◌, ◌∙◌, ap, sym, subst, Bool, List}
use Rattle.std.proofs.lemmas.Result.{IfOk-weaker}
use Rattle.c_shape.specs.FileShapes.{shape_seen}
use Rattle.c_subset.specs.declared.trees.Function as declared
use Rattle.c_functions.specs.Plans.{react_function}
use Rattle.c_bare.specs.Bare.{AreFunctions, AreNeedless}
use Rattle.c_bare.specs.Needs.{is_bare}
use Rattle.c_passes.proofs.PassLemmas.{as_bared}
use Rattle.c_passes.proofs.chain.with_bare.Goals as goal

pub returns : goal.returns
returns c =
    let K = shape_seen c.args.shape.now in
    let flags : List Bool = c.deref-2.result.now in
    let found : List Bool = c.in_ok-flags.flags.items in
    let same : flags ≡ found = c.deref-2.ensures.value in
    IfOk-weaker c.bared.result _ _
    (λ made bares. λ file are. as_bared K file c.args.functions.items made.items are flags
    (λ gs is. subst (λ (bs : List Bool). AreNeedless bs gs) (sym same)
    (c.in_ok-flags.ensures.needless gs
    (subst (λ (fs : List declared.Function). AreFunctions fs gs) (sym c.deref.ensures.value) is)))
    (ap (λ (bs : List Bool). is_bare bs (react_function K)) same
    ∙ ap (is_bare found) (sym c.react_function.ensures) ∙ c.in_ok-flags.ensures.kept) bares) c.bared.ensures
