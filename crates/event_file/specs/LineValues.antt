-- What is kept of a line: the values that it names, and the names that it may name.
use Rattle.std.specs.Prelude.{◌≡◌, ℕ, ◌<◌, Bool, false, List, [], ◌∷◌, length, replicate, slice_set, Option, None}
use Rattle.std.specs.List.{position, AllByRecursion}
use Rattle.std.specs.Str.{bytes_eq}
use Rattle.actions.specs.Names.{Names}
use Rattle.actions.specs.declared.expr.Value.{Value}
use Rattle.actions.specs.declared.names.EventDecl.{EventDecl}
use Rattle.actions.specs.declared.names.Var.{Var}
use Rattle.event_file.specs.NameTables.{Numbered, number_in}

-- the values that a line names, one for each datum, beside the numbers of the names of events and of data
pub record LineValues : Type 0 where
  pub values : List (Option Value)
  pub events : List Numbered
  pub vars : List Numbered

-- The values are for what a chart declares: there is a place for each datum, and a name has the number of the first event
-- and of the first datum that has it.
pub record IsMadeFor (n : Names) (vals : LineValues) : Type 0 where
  pub room : length vals.values ≡ length n.vars
  pub events : (name : List ℕ) → number_in vals.events name ≡ position (λ (e : EventDecl). bytes_eq e.name name) n.events
  pub vars : (name : List ℕ) → number_in vals.vars name ≡ position (λ (v : Var). bytes_eq v.name name) n.vars

-- the values but those of some data
abbrev pub without : List (Option Value) → List ℕ → List (Option Value)
without values [] = values
without values (v ∷ named) = without (slice_set values v None) named

-- no other data than those have a value, unless there are more
pub record AreNamed (values : List (Option Value)) (named : List ℕ) (more : Bool) : Type 0 where
  pub within : AllByRecursion (λ v. v < length values) named
  pub only : more ≡ false → without values named ≡ replicate (length values) None
