use Rattle.std.proofs.Common.{Option, refl}
use Rattle.actions.specs.declared.names.EventDecl.{EventDecl}
use Rattle.chart_types.specs.Types.{unless_output}
use Rattle.chart_types.proofs.NameLemmas.{past_end, at_item, emitted_output, emitted_other}
use Rattle.chart_types.proofs.names.with_emitted.Goals as goal

-- there is no event of that number
pub returns-in-None : goal.returns-in-None
returns-in-None c =
    past_end (λ (o : Option EventDecl). unless_output o c.args.event.at) c.args.found c.items.result.now _
    c.args.event.number refl c.items.ensures c.in-None.ensures.lookup.3

-- an output event may be emitted
pub returns-in-Output : goal.returns-in-Output
returns-in-Output c =
    let decl = c.in-Some.decl.now in
    let item = c.in-Some.ensures.lookup in
    at_item (λ (o : Option EventDecl). unless_output o c.args.event.at) c.args.found c.items.result.now _
    c.args.event.number _ decl
    (emitted_output c.args.found decl c.args.event.at c.in-Output.is) c.items.ensures item.3.0 item.1

-- another one may not
pub returns-in-Input : goal.returns-in-Input
returns-in-Input c =
    let decl = c.in-Some.decl.now in
    let item = c.in-Some.ensures.lookup in
    at_item (λ (o : Option EventDecl). unless_output o c.args.event.at) c.args.found c.items.result.now _
    c.args.event.number _ decl
    (emitted_other c.args.found c.with_fault.result decl c.args.event.at c.in-Input.is c.with_fault.ensures)
    c.items.ensures item.3.0 item.1
