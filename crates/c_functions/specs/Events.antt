-- Which numbers a reaction takes as events: those of inputs, and that of a tick.
use Rattle.std.specs.Prelude.{ℕ, suc, ◌+◌, ◌==◌, nat_le, length, Bool, true, false, ◌&&◌, List, [], ◌∷◌, if◌then◌else◌}
use Rattle.std.specs.List.{prefix_len}
use Rattle.actions.specs.declared.names.EventDecl.{EventDecl}
use Rattle.actions.specs.declared.names.EventKind.{EventKind}
use Rattle.actions.specs.declared.names.EventKind.TheVariants.{Input, Local, Output}

-- an input event
abbrev pub is_input : EventKind → Bool
is_input Input = true
is_input Local = false
is_input Output = false

-- how many of these events are inputs, one after another from the first one on
abbrev pub leading_inputs : List EventDecl → ℕ
leading_inputs ds = prefix_len (λ (d : EventDecl). is_input d.kind) ds

-- all events are inputs
abbrev pub all_inputs : List EventDecl → Bool
all_inputs ds = leading_inputs ds == length ds

-- How many of the first numbers are those of events that a run takes: the leading inputs, and that of a tick after them
-- where all events are inputs.
abbrev pub leading_events : List EventDecl → ℕ
leading_events ds = if all_inputs ds then leading_inputs ds + 1 else leading_inputs ds

-- the numbers of the inputs among these events, the first of which has number e; those from a number on
abbrev pub inputs_from : ℕ → ℕ → List EventDecl → List ℕ
inputs_from first e [] = []
inputs_from first e (d ∷ ds) =
    if is_input d.kind && nat_le first e then e ∷ inputs_from first (suc e) ds else inputs_from first (suc e) ds

-- the inputs after the leading ones
abbrev pub later_inputs : List EventDecl → List ℕ
later_inputs ds = inputs_from (leading_inputs ds) 0 ds

-- a number that tells that a run goes on: so many events lead, and 1 where none does
abbrev pub running_number : ℕ → ℕ
running_number n = if n == 0 then 1 else n
