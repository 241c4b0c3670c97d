use Rattle.std.proofs.lemmas.Result.{IfOk-weaker}
use Rattle.c_passes.proofs.PassLemmas.{as_inlined}
use Rattle.c_passes.proofs.chain.joined.Goals as goal

pub returns : goal.returns
returns c =
    IfOk-weaker c.tidied.result _ _
    (λ made tidies. λ K file are. tidies K file
    (as_inlined K file c.args.functions.items c.in_ok-made.made.items are c.in_ok-made.ensures)) c.tidied.ensures
