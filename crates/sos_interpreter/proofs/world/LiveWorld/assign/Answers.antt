use Rattle.std.proofs.Common.{ap, ◌∙◌, sym, subst}
use Rattle.actions.specs.Data.{CanTake}
use Rattle.actions.specs.Sorts.{sort_of}
use Rattle.actions.specs.Trees.{expr_of}
use Rattle.actions.specs.Values.{value_of, HasSort}
use Rattle.actions.specs.World.{World}
use Rattle.sos_interpreter.proofs.Worlds.{assign_did, assign_fits, assign_no_value, declared_sort}
use Rattle.sos_interpreter.specs.Charts.{FitsChart}
use Rattle.checked_chart.specs.Kept.{chart_of}
use Rattle.sos_interpreter.proofs.world.LiveWorld.assign.Goals as goal

pub assign-requires-clause-there : goal.assign-requires-clause-there
assign-requires-clause-there c =
    let fits = subst (FitsChart (chart_of c.args.chart.now)) (sym c.self.view_is) c.requires.fits in
    (declared_sort _ _ _ c.args.datum c.requires.can.decl fits c.requires.can.declared).1

pub assign-requires-clause-value : goal.assign-requires-clause-value
assign-requires-clause-value c =
    let chart = chart_of c.args.chart.now in
    let fits = subst (FitsChart chart) (sym c.self.view_is) c.requires.fits in
    let scope = c.declared_scope.ensures chart.tree chart.names _ fits in
    let has : HasSort c.requires.can.sort c.in-Ok.value =
    c.in-Ok.ensures.sort c.requires.can.sort
    (ap (λ s. sort_of s (expr_of c.args.expr.now)) scope ∙ c.requires.can.sorted) in
    subst (λ s. CanTake s c.in-Ok.value)
    (sym (declared_sort _ _ _ c.args.datum c.requires.can.decl fits c.requires.can.declared).0)
    (c.values_can_be_assigned.ensures c.requires.can.decl.sort c.requires.can.sort c.in-Ok.value c.requires.can.takes
    has)

pub returns-in-Ok-clause-does : goal.returns-in-Ok-clause-does
returns-in-Ok-clause-does c =
    assign_did c.args.datum (expr_of c.args.expr.now) _ c.args.self.now c.in-Ok.value c.assign.new.vals c.assign.result
    c.halting.result c.self.view_is c.halting.ensures c.in-Ok.ensures.value c.assign.ensures.assigned
    c.assign.ensures.overflow c.assign.ensures.kept

pub returns-in-Ok-clause-fits : goal.returns-in-Ok-clause-fits
returns-in-Ok-clause-fits c =
    let chart = chart_of c.args.chart.now in
    let fits = subst (FitsChart chart) (sym c.self.view_is) c.requires.fits in
    let scope = c.declared_scope.ensures chart.tree chart.names _ fits in
    let has : HasSort c.requires.can.sort c.in-Ok.value =
    c.in-Ok.ensures.sort c.requires.can.sort
    (ap (λ s. sort_of s (expr_of c.args.expr.now)) scope ∙ c.requires.can.sorted) in
    let can =
    subst (λ s. CanTake s c.in-Ok.value)
    (sym (declared_sort _ _ _ c.args.datum c.requires.can.decl fits c.requires.can.declared).0)
    (c.values_can_be_assigned.ensures c.requires.can.decl.sort c.requires.can.sort c.in-Ok.value c.requires.can.takes
    has) in
    assign_fits chart.tree chart.names _ c.args.datum c.in-Ok.value _ c.assign.result fits can c.assign.ensures.assigned
    c.assign.ensures.kept

pub returns-in-Err-clause-does : goal.returns-in-Err-clause-does
returns-in-Err-clause-does c =
    assign_no_value c.args.datum (expr_of c.args.expr.now) c.args.self.now c.in-Err.fault
    (ap (λ (w : World). value_of w.vals w.marks (expr_of c.args.expr.now)) (sym c.self.view_is)
    ∙ sym c.in-Err.ensures.value)
