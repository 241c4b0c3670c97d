use Rattle.std.proofs.Common.{sym, ◌∙◌}
use Rattle.c_subset.specs.Lines.{expr_of}
use Rattle.c_decided.specs.Views.{facts_of, plan_of}
use Rattle.c_decided.proofs.Reaching.{set_from, return_from, both_from}
use Rattle.c_decided.proofs.walking.+walk.Goals as goal

pub walk-returns-in-Set : goal.walk-returns-in-Set
walk-returns-in-Set t c =
    rw c.in-Set.is
    (set_from (plan_of c.args.plan.now) c.args.own.number c.args.own.result c.in-Set.of c.in-Set.local
    (expr_of c.in-Set.expr) c.into_inner.result c.in-Set.rest.value (facts_of c.args.facts.now) c.walk_set.result
    c.into_inner.ensures (sym c.is_nowhere.ensures ∙ c.if-is_nowhere.false) c.walk_set.ensures)

pub walk-returns-in-If : goal.walk-returns-in-If
walk-returns-in-If t c =
    rw c.in-If.is
    (both_from (plan_of c.args.plan.now) c.args.own.number c.args.own.result (expr_of c.in-If.expr)
    c.into_inner-else-goes-2.result c.into_inner-in-Ok-walk-5.result c.into_inner-in-Ok-joined_facts.result
    c.in-If.first.value c.in-If.second.value c.in-If.rest.value (facts_of c.args.facts.now)
    (facts_of c.in-Ok.ways.yes) (facts_of c.in-Ok.ways.no) (facts_of c.in-Ok-joined_facts.after)
    c.in-Ok-walk-5.one c.in-Ok-walk-6.two c.in-Ok-walk-7.last c.both_asked.result
    c.into_inner-else-goes-2.ensures c.into_inner-in-Ok-walk-5.ensures c.into_inner-in-Ok-joined_facts.ensures
    (sym c.is_nowhere.ensures ∙ c.if-is_nowhere.false) c.in-Ok.ensures.0 c.in-Ok.ensures.1
    (sym c.goes.ensures ∙ c.if-goes.false) (sym c.goes-else-goes.ensures ∙ c.if-goes-2.false)
    c.in-Ok-walk-5.ensures c.in-Ok-walk-6.ensures c.in-Ok-joined_facts.ensures c.in-Ok-walk-7.ensures
    c.both_asked.ensures)

pub walk-returns : goal.walk-returns
walk-returns t c =
    rw c.in-Return.is
    (return_from (plan_of c.args.plan.now) c.args.own.number c.args.own.result (expr_of c.in-Return.expr)
    (facts_of c.args.facts.now) c.walk_return.result (sym c.is_nowhere.ensures ∙ c.if-is_nowhere.false)
    c.walk_return.ensures)
