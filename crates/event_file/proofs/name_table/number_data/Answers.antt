use Rattle.std.proofs.Common.{◌≡◌, sym, ap, ◌∙◌, cond, Some, None}
use Rattle.std.proofs.lemmas.List.{take_all}
use Rattle.std.specs.List.{position}
use Rattle.std.specs.Str.{bytes_eq}
use Rattle.actions.specs.declared.names.Var.{Var}
use Rattle.event_file.specs.NameTables.{number_in, or_else, number_after}
use Rattle.event_file.proofs.TableLemmas.{position_more}
use Rattle.event_file.proofs.name_table.number_data.Goals as goal

pub data-init : goal.data-init
data-init c = λ name. ap (λ table. number_in table name) c.new-table.ensures

-- one name more
pub data-preserved : goal.data-preserved
data-preserved c = λ name.
    let x = c.index-vars-number.result in
    let n = c.data.number in
    let text : c.text.result.now ≡ x.name = c.text.ensures in
    c.in_ok-keep.ensures name ∙ ap (λ kept. number_after c.data.table kept n name) text
    ∙ ap (λ o. or_else o (cond (bytes_eq x.name name) (Some n) None)) (c.data.invariant name)
    ∙ sym (position_more (λ (v : Var). bytes_eq v.name name) c.args.vars.now n x c.data-test.true c.index-vars-number.is)

-- all names
pub returns : goal.returns
returns c = λ name.
    c.data.invariant name
    ∙ ap (position (λ (v : Var). bytes_eq v.name name)) (take_all c.data.number c.args.vars.now c.data-test.false)
