use Rattle.std.proofs.Common.{Option, refl}
use Rattle.actions.specs.declared.names.Var.{Var}
use Rattle.chart_types.specs.Types.{assignment_faults}
use Rattle.chart_types.proofs.NameLemmas.{past_end, at_item, assigned}
use Rattle.chart_types.proofs.names.with_assignment.Goals as goal

-- there is no datum of that number
pub returns-in-None : goal.returns-in-None
returns-in-None c =
    past_end (λ (o : Option Var). assignment_faults o c.args.given c.args.datum.at) c.args.found c.items.result.now _
    c.args.datum.number refl c.items.ensures c.in-None.ensures.lookup.3

-- the faults of the datum, and then those of the value
pub returns-in-Some : goal.returns-in-Some
returns-in-Some c =
    let var = c.in-Some.var.now in
    let item = c.in-Some.ensures.lookup in
    at_item (λ (o : Option Var). assignment_faults o c.args.given c.args.datum.at) c.args.found c.items.result.now _
    c.args.datum.number _ var
    (assigned c.args.found _ _ var c.args.given c.args.datum.at c.with_input-found.ensures c.with_unfit.ensures)
    c.items.ensures item.3.0 item.1
