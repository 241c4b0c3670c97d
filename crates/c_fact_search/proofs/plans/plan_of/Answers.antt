use Rattle.std.proofs.Common.{rules, ◌≡◌, ◌∙◌, subst}
use Rattle.c_fact_search.proofs.Made.{AreSoMany, one_more_stays, plan_is_right}
use Rattle.c_fact_search.proofs.plans.plan_of.Goals as goal

pub loop-number-preserved : goal.loop-number-preserved
loop-number-preserved c =
    one_more_stays c.args.outside c.loop-number.number c.loop-number.made.items c.push.new.self.items c.pop.result
    c.loop-number.invariant (c.pop.ensures ∙ c.is_kept.ensures) c.in_ok-push.ensures.items

pub returns : goal.returns
returns c =
    let at : c.loop-number.number ≡ c.args.count = search rules in
    plan_is_right c.args.outside c.args.count c.loop-number.made.items (record { functions = c.of.result })
    (subst (λ n. AreSoMany c.args.outside n c.loop-number.made.items) at c.loop-number.invariant) c.of.ensures
