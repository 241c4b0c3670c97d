use Rattle.std.proofs.Common.{◌∙◌, ap, arith}
use Rattle.actions.specs.Names.{Names}
use Rattle.range_blocks.proofs.SendLemmas.{get_slice}
use Rattle.range_worlds.proofs.InsideLemmas.{told}
use Rattle.range_check.proofs.PlaceLemmas.{covered_none, covered_next, covered_all}
use Rattle.range_check.proofs.places.covers_inputs.Goals as goal

pub loop-number-init : goal.loop-number-init
loop-number-init c = covered_none _ _

pub loop-number-preserved : goal.loop-number-preserved
loop-number-preserved c =
    covered_next _ _ c.loop-number.number c.index-vars-number.result
    (get_slice _ c.loop-number.number _ c.loop-number-test.true c.index-vars-number.is)
    (told _ c.if-not-is_covered.false c.is_covered.ensures) c.loop-number.invariant

pub returns : goal.returns
returns c =
    covered_all _ c.items-vars.result.now c.loop-number.number
    (c.items-vars.ensures ∙ ap (λ (n : Names). n.vars) c.names.ensures.names) (omega arith)
    c.loop-number.invariant
