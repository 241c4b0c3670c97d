-- What the parts of the reader of an event line answer.
use Rattle.std.specs.Prelude.{◌≡◌, List, ℕ, Option, Some, None, Result, Ok, Err, slice_set}
use Rattle.actions.specs.Names.{Names}
use Rattle.actions.specs.declared.event.Event.{Event}
use Rattle.actions.specs.declared.expr.Value.{Value}
use Rattle.event_file.specs.declared.fault.LineFault.{LineFault}
use Rattle.event_file.specs.declared.fault.LineFault.TheVariants as faults
use Rattle.event_file.specs.InputValues.{given, all_given}
use Rattle.event_file.specs.LineValues.{LineValues}
use Rattle.actions.specs.Runs.{EventWithInputs, CanBeGiven}

-- what the inputs are given after one token, or its fault
abbrev pub Gave : Names → List (Option Value) → List ℕ → List (Option Value) → Result (Unit {0}) LineFault → Type 0
Gave n old token new (Ok done) = given n old token ≡ Ok new
Gave n old token new (Err fault) = given n old token ≡ Err fault

-- what the inputs are given after tokens, or the first fault
abbrev pub GaveAll : Names → List (Option Value) → List (List ℕ) → List (Option Value) → Result (Unit {0}) LineFault → Type 0
GaveAll n old tokens new (Ok done) = all_given n old tokens ≡ Ok new
GaveAll n old tokens new (Err fault) = all_given n old tokens ≡ Err fault

-- what a line says, read into an event and the inputs
abbrev pub Says : Names → Result (Option EventWithInputs) LineFault → List (Option Value) → Result (Option Event) LineFault → Type 0
Says n said new (Ok None) = said ≡ Ok None
Says n said new (Ok (Some event)) =
    (said ≡ Ok (Some (record { event = event; inputs = new }))) × CanBeGiven n (record { event = event; inputs = new })
Says n said new (Err fault) = said ≡ Err fault

-- the value was kept for the datum of that number, if there is one
abbrev pub Kept : LineValues → Option Value → ℕ → LineValues → Result (Unit {0}) LineFault → Type 0
Kept old None v new result = (result ≡ Err faults.BadValue) × (new ≡ old)
Kept old (Some value) v new result = (result ≡ Ok tt) × (new ≡ record old { values = slice_set old.values v (Some value) })
