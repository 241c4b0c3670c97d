-- What the parts of the driver answer.
use Rattle.std.specs.Prelude.{◌≡◌, ◌≢◌, ℕ, nat_le, ◌+◌, Bool, true, false, List, [], Option, Some, None, Result, Ok}
use Rattle.std.specs.Prelude.{Err}
use Rattle.flow_base.specs.declared.fault.Fault.{Fault}
use Rattle.active_config.specs.Tree.{Tree}
use Rattle.actions.specs.Engines.{fault_of}
use Rattle.actions.specs.Names.{Names}
use Rattle.actions.specs.Runs.{EventWithInputs, ReactionRelation, ReactsWithInputs}
use Rattle.actions.specs.World.{World}
use Rattle.actions.specs.declared.engine.Halt.{Halt}
use Rattle.actions.specs.declared.engine.Halt.TheVariants as halts
use Rattle.trace_text.specs.Trace.{trace_line}
use Rattle.event_file.specs.declared.fault.LineFault.{LineFault}
use Rattle.event_file.specs.declared.fault.LineFault.TheVariants as line_faults
use Rattle.event_file.specs.declared.limits.TheConstants.{FILE_EVENT_LIMIT}
use Rattle.step_driver.specs.declared.driver.DriveEnd.{DriveEnd}
use Rattle.step_driver.specs.declared.driver.DriveEnd.TheVariants as ends
use Rattle.step_driver.specs.declared.lines.NoLine.{NoLine}
use Rattle.step_driver.specs.declared.lines.NoLine.TheVariants as no_lines

-- the line of the trace was put for how a call of an engine ended
abbrev pub EndPut : ℕ → Result (Unit {0}) Halt → (Option Fault → List ℕ) → (List ℕ → Type 0)
    → Result (Unit {0}) DriveEnd → Type 0
EndPut index end line puts (Ok done) = (end ≡ Ok tt) × puts (line None)
EndPut index end line puts (Err (ends.Line number fault)) = ⊥
EndPut index end line puts (Err (ends.Fault i fault)) = (i ≡ index) × (end ≡ Err (halts.Fault fault)) × puts
    (line (Some fault))
EndPut index end line puts (Err ends.Read) = ⊥
EndPut index end line puts (Err ends.Write) = (end ≢ Err halts.Memory) × puts (line (fault_of end))
EndPut index end line puts (Err ends.TooManyLines) = ⊥
EndPut index end line puts (Err ends.FileTooLong) = ⊥
EndPut index end line puts (Err ends.Memory) = (end ≡ Err halts.Memory) × puts []

-- the start or an event gave that world by its definition, and its line was put
abbrev pub Done : (World → Option Fault → Type 0) → (World → Option Fault → List ℕ) → ℕ → World → (List ℕ → Type 0)
    → Result (Unit {0}) DriveEnd → Type 0
Done gives line index w puts (Ok done) = gives w None × puts (line w None)
Done gives line index w puts (Err (ends.Line number fault)) = ⊥
Done gives line index w puts (Err (ends.Fault i fault)) = (i ≡ index) × gives w (Some fault) × puts
    (line w (Some fault))
Done gives line index w puts (Err ends.Read) = ⊥
Done gives line index w puts (Err ends.Write) = (fault : Option Fault) × gives w fault × puts (line w fault)
Done gives line index w puts (Err ends.TooManyLines) = ⊥
Done gives line index w puts (Err ends.FileTooLong) = ⊥
Done gives line index w puts (Err ends.Memory) = puts []

-- the answer without the index
abbrev pub without_index : Result ℕ DriveEnd → Result (Unit {0}) DriveEnd
without_index (Ok index) = Ok tt
without_index (Err end) = Err end

-- the index is that one
abbrev pub IsNextIndex : ℕ → Result ℕ DriveEnd → Type 0
IsNextIndex index (Ok next) = next ≡ index
IsNextIndex index (Err end) = Unit {0}

-- an event is processed unless it is one too many, which leaves the world
abbrev pub Tried : Bool → ReactionRelation → Tree → Names → ℕ → EventWithInputs → World → World → (List ℕ → Type 0)
    → Result ℕ DriveEnd → Type 0
Tried true react t n index event w w' puts result = (result ≡ Err ends.TooManyLines) × (w' ≡ w) × puts []
Tried false react t n index event w w' puts result =
    Done (ReactsWithInputs react w event) (λ x f. trace_line t n x (index + 1) event.event f) (index + 1) w' puts
    (without_index result)
    × IsNextIndex (index + 1) result

-- a line was read, and what it says was done; a line that isn't an event, or that is refused, leaves the world
abbrev pub LineTaken : ReactionRelation → Tree → Names → ℕ → ℕ → Result (Option EventWithInputs) LineFault → World
    → World → (List ℕ → Type 0) → Result ℕ DriveEnd → Type 0
LineTaken react t n number index (Ok None) w w' puts result = (result ≡ Ok index) × (w' ≡ w) × puts []
LineTaken react t n number index (Ok (Some event)) w w' puts result = Tried
    (nat_le FILE_EVENT_LIMIT index) react t n index event w w' puts result
LineTaken react t n number index (Err fault) w w' puts result = (result ≡ Err (ends.Line number fault)) ×
    (w' ≡ w) × puts []

-- the answer where no line was taken
abbrev pub end_of_line : NoLine → DriveEnd
end_of_line (no_lines.TooLong number) = ends.Line number line_faults.LineTooLong
end_of_line no_lines.FileTooLong = ends.FileTooLong
end_of_line no_lines.Read = ends.Read
end_of_line no_lines.Write = ends.Write
