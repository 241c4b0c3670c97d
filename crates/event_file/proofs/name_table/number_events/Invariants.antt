use Rattle.std.proofs.Common.{◌≡◌, ℕ, List, take}
use Rattle.std.specs.List.{position}
use Rattle.std.specs.Str.{bytes_eq}
use Rattle.actions.specs.declared.names.EventDecl.{EventDecl}
use Rattle.event_file.specs.NameTables.{number_in}
use Rattle.event_file.proofs.name_table.number_events.Given as goal

-- the names so far have their numbers
abbrev pub invariant-events : goal.invariant-events
invariant-events l = (name : List ℕ) → number_in l.table name ≡ position (λ (e : EventDecl). bytes_eq e.name name) (take l.number l.events)
