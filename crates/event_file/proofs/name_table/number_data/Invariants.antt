use Rattle.std.proofs.Common.{◌≡◌, ℕ, List, take}
use Rattle.std.specs.List.{position}
use Rattle.std.specs.Str.{bytes_eq}
use Rattle.actions.specs.declared.names.Var.{Var}
use Rattle.event_file.specs.NameTables.{number_in}
use Rattle.event_file.proofs.name_table.number_data.Given as goal

-- the names so far have their numbers
abbrev pub invariant-data : goal.invariant-data
invariant-data l = (name : List ℕ) → number_in l.table name ≡ position (λ (v : Var). bytes_eq v.name name) (take l.number l.vars)
