use Rattle.std.proofs.Common.{◌≡◌, ◌∙◌, ap, subst, slice_get, Some, length, ◌≤◌}
use Rattle.actions.specs.Names.{Names}
use Rattle.range_blocks.proofs.SendLemmas.{get_slice}
use Rattle.range_worlds.specs.Leads.{chart_in}
use Rattle.range_check.proofs.PlaceLemmas.{freed_none, freed_next, is_freed}
use Rattle.range_check.proofs.places.freed.Goals as goal

pub loop-number-init : goal.loop-number-init
loop-number-init c = freed_none _ _ _ c.in_ok-same.ensures.1

pub loop-number-preserved : goal.loop-number-preserved
loop-number-preserved c =
    let vars = c.items-vars.result.now in
    let same : vars ≡ (chart_in c.args.setting.now).names.vars =
    c.items-vars.ensures ∙ ap (λ (n : Names). n.vars) c.names.ensures.names in
    freed_next _ _ c.loop-number.number c.index-vars-number.result _ _
    (subst (λ l. slice_get l c.loop-number.number ≡ Some c.index-vars-number.result) same
    (get_slice vars c.loop-number.number _ c.loop-number-test.true c.index-vars-number.is))
    c.in_ok-wide.ensures c.loop-number.invariant

pub returns : goal.returns
returns c =
    let vars = c.items-vars.result.now in
    let same : vars ≡ (chart_in c.args.setting.now).names.vars =
    c.items-vars.ensures ∙ ap (λ (n : Names). n.vars) c.names.ensures.names in
    is_freed _ _ _ c.loop-number.number c.in_ok-same.ensures.0
    (subst (λ l. length l ≤ c.loop-number.number) same c.loop-number-test.false) c.loop-number.invariant
