use Rattle.flow_base.specs.Lists.{items_of}
use Rattle.actions.specs.declared.names.EventDecl.{EventDecl}
use Rattle.code_language.specs.WellFormed.{is_output}
use Rattle.code_language.proofs.ListLemmas.{test_there, test_past}
use Rattle.code_language.proofs.typing.is_output.Goals as goal

pub returns-in-Some : goal.returns-in-Some
returns-in-Some c =
    test_there (λ (d : EventDecl). is_output d.kind) (items_of c.args.raw.now.events) c.items.result.now c.args.event
    c.in-Some.decl.now _ c.items.ensures c.in-Some.ensures.lookup.3.0 c.in-Some.ensures.lookup.1
    c.is_output_kind.ensures

pub returns-in-None : goal.returns-in-None
returns-in-None c =
    test_past (λ (d : EventDecl). is_output d.kind) (items_of c.args.raw.now.events) c.items.result.now c.args.event
    c.items.ensures c.in-None.ensures.lookup.3
