use Rattle.std.proofs.Common.{◌≡◌, sym, ap, ◌∙◌, cond, Some, None}
use Rattle.std.proofs.lemmas.List.{take_all}
use Rattle.std.specs.List.{position}
use Rattle.std.specs.Str.{bytes_eq}
use Rattle.actions.specs.declared.names.EventDecl.{EventDecl}
use Rattle.event_file.specs.NameTables.{number_in, or_else, number_after}
use Rattle.event_file.proofs.TableLemmas.{position_more}
use Rattle.event_file.proofs.name_table.number_events.Goals as goal

pub events-init : goal.events-init
events-init c = λ name. ap (λ table. number_in table name) c.new-table.ensures

-- one name more
pub events-preserved : goal.events-preserved
events-preserved c = λ name.
    let x = c.index-events-number.result in
    let n = c.events.number in
    let text : c.text.result.now ≡ x.name = c.text.ensures in
    c.in_ok-keep.ensures name ∙ ap (λ kept. number_after c.events.table kept n name) text
    ∙ ap (λ o. or_else o (cond (bytes_eq x.name name) (Some n) None)) (c.events.invariant name)
    ∙ sym (position_more (λ (e : EventDecl). bytes_eq e.name name) c.args.events.now n x c.events-test.true c.index-events-number.is)

-- all names
pub returns : goal.returns
returns c = λ name.
    c.events.invariant name
    ∙ ap (position (λ (e : EventDecl). bytes_eq e.name name)) (take_all c.events.number c.args.events.now c.events-test.false)
