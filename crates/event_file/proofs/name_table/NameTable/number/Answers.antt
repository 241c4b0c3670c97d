use Rattle.std.proofs.Common.{sym, ap, ◌∙◌}
use Rattle.event_file.proofs.TableLemmas.{number_in-numbered}
use Rattle.event_file.specs.NameTables.{number_in}
use Rattle.event_file.proofs.name_table.NameTable.number.Goals as goal

pub returns-in-Ok : goal.returns-in-Ok
returns-in-Ok c =
    c.copied.ensures ∙ c.get.ensures.value ∙ sym (number_in-numbered c.self.inside.numbers.entries c.in-Ok.name.now)
    ∙ ap (λ table. number_in table c.in-Ok.name.now) c.self.view_is ∙ ap (number_in c.args.self.now) c.in-Ok.ensures.cases.0

pub returns-in-Err : goal.returns-in-Err
returns-in-Err c =
    sym (ap (λ table. number_in table c.args.name.now) (sym c.self.view_is) ∙ c.self.invariant c.args.name.now c.in-Err.ensures.cases.0)
