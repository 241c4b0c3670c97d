use Rattle.std.proofs.Common.{List, ap, ◌∙◌}
use Rattle.std.specs.List.{position}
use Rattle.std.specs.Str.{bytes_eq}
use Rattle.actions.specs.Names.{names_of}
use Rattle.actions.specs.declared.names.EventDecl.{EventDecl}
use Rattle.event_file.proofs.TableLemmas.{position_within}
use Rattle.event_file.proofs.event_lines.place_of_event.Goals as goal

-- by the table
pub returns-then-events-gt-FEW_NAMES-clause-place : goal.returns-then-events-gt-FEW_NAMES-clause-place
returns-then-events-gt-FEW_NAMES-clause-place c = c.event_number.ensures ∙ c.requires.made.events c.args.name.now

pub returns-then-events-gt-FEW_NAMES-clause-within : goal.returns-then-events-gt-FEW_NAMES-clause-within
returns-then-events-gt-FEW_NAMES-clause-within c =
    position_within (λ (e : EventDecl). bytes_eq e.name c.args.name.now) (names_of c.args.names.now).events _ (c.event_number.ensures ∙ c.requires.made.events c.args.name.now)

-- one after the other
pub returns-clause-place : goal.returns-clause-place
returns-clause-place c =
    c.first_event.ensures ∙ ap (λ (z : List EventDecl). position (λ (e : EventDecl). bytes_eq e.name c.args.name.now) z) c.items-events.ensures

pub returns-clause-within : goal.returns-clause-within
returns-clause-within c =
    position_within (λ (e : EventDecl). bytes_eq e.name c.args.name.now) (names_of c.args.names.now).events _
    (c.first_event.ensures ∙ ap (λ (z : List EventDecl). position (λ (e : EventDecl). bytes_eq e.name c.args.name.now) z) c.items-events.ensures)
