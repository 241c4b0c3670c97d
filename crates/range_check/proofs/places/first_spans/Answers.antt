use Rattle.std.proofs.Common.{◌∙◌, ap, arith}
use Rattle.actions.specs.Names.{Names}
use Rattle.range_blocks.proofs.SendLemmas.{get_slice}
use Rattle.range_check.proofs.PlaceLemmas.{first_none, first_next, first_all}
use Rattle.range_check.proofs.places.first_spans.Goals as goal

pub loop-number-init : goal.loop-number-init
loop-number-init c = first_none _ _ _ c.new-spans.ensures.items

pub loop-number-preserved : goal.loop-number-preserved
loop-number-preserved c =
    first_next _ _ c.loop-number.number c.index-vars-number.result c.in_ok-own.own _ _
    (get_slice _ c.loop-number.number _ c.loop-number-test.true c.index-vars-number.is) c.in_ok-own.ensures
    c.in_ok-spans.ensures c.loop-number.invariant

pub returns : goal.returns
returns c =
    first_all _ c.items-vars.result.now c.loop-number.number c.loop-number.spans.items
    (c.items-vars.ensures ∙ ap (λ (n : Names). n.vars) c.names.ensures.names) (omega arith) (omega arith)
    (omega arith) c.loop-number.invariant
