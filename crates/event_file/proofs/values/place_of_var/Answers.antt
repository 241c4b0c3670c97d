use Rattle.std.proofs.Common.{List, ap, ◌∙◌}
use Rattle.std.specs.List.{position}
use Rattle.std.specs.Str.{bytes_eq}
use Rattle.actions.specs.Names.{names_of}
use Rattle.actions.specs.declared.names.Var.{Var}
use Rattle.event_file.proofs.TableLemmas.{position_within}
use Rattle.event_file.proofs.values.place_of_var.Goals as goal

-- by the table
pub returns-then-vars-gt-FEW_NAMES-clause-place : goal.returns-then-vars-gt-FEW_NAMES-clause-place
returns-then-vars-gt-FEW_NAMES-clause-place c = c.datum_number.ensures ∙ c.requires.made.vars c.args.name.now

pub returns-then-vars-gt-FEW_NAMES-clause-within : goal.returns-then-vars-gt-FEW_NAMES-clause-within
returns-then-vars-gt-FEW_NAMES-clause-within c =
    position_within (λ (v : Var). bytes_eq v.name c.args.name.now) (names_of c.args.names.now).vars _ (c.datum_number.ensures ∙ c.requires.made.vars c.args.name.now)

-- one after the other
pub returns-clause-place : goal.returns-clause-place
returns-clause-place c =
    c.first_var.ensures ∙ ap (λ (z : List Var). position (λ (v : Var). bytes_eq v.name c.args.name.now) z) c.items-vars.ensures

pub returns-clause-within : goal.returns-clause-within
returns-clause-within c =
    position_within (λ (v : Var). bytes_eq v.name c.args.name.now) (names_of c.args.names.now).vars _
    (c.first_var.ensures ∙ ap (λ (z : List Var). position (λ (v : Var). bytes_eq v.name c.args.name.now) z) c.items-vars.ensures)
