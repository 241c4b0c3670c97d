-- What taking the next line of a file does, where what is kept of a trace is written before a read.
use Rattle.std.specs.Prelude.{◌≡◌, ℕ, ◌⊎◌, Bool, true, false, List, [], Option, Result, Ok, Err}
use Rattle.event_file.specs.NextLine.{Nexts}
use Rattle.event_file.specs.Reading.{Reading, is_ready}
use Rattle.event_file.specs.declared.line_reader.LineEnd.{LineEnd}
use Rattle.event_file.specs.declared.line_reader.LineEnd.TheVariants as line_ends
use Rattle.trace_text.specs.Pieces.{Held, Passed, CutOff, nothing_held}
use Rattle.step_driver.specs.declared.lines.NoLine.{NoLine}
use Rattle.step_driver.specs.declared.lines.NoLine.TheVariants as ends

-- the answer is a read fault
abbrev pub failed_to_read : Result Bool NoLine → Bool
failed_to_read (Ok found) = false
failed_to_read (Err (ends.TooLong number)) = false
failed_to_read (Err ends.FileTooLong) = false
failed_to_read (Err ends.Read) = true
failed_to_read (Err ends.Write) = false

-- the answer is a write fault
abbrev pub failed_to_write : Result Bool NoLine → Bool
failed_to_write (Ok found) = false
failed_to_write (Err (ends.TooLong number)) = false
failed_to_write (Err ends.FileTooLong) = false
failed_to_write (Err ends.Read) = false
failed_to_write (Err ends.Write) = true

-- the next line of the file, or why there is none
abbrev pub Follows : Reading → Reading → Option (List ℕ) → Option (List ℕ) → Result Bool NoLine → Type 0
Follows old new before after (Ok found) = Nexts old new before after (Ok found)
Follows old new before after (Err (ends.TooLong number)) =
    (number ≡ new.number) × Nexts old new before after (Err line_ends.TooLong)
Follows old new before after (Err ends.FileTooLong) = Nexts old new before after (Err line_ends.FileTooLong)
Follows old new before after (Err ends.Read) = Nexts old new before after (Err line_ends.Read)
Follows old new before after (Err ends.Write) = (new ≡ old) × (after ≡ before)

-- the answer for what the reader found at the line of that number
abbrev pub found_or_none : ℕ → Result Bool LineEnd → Result Bool NoLine
found_or_none number (Ok found) = Ok found
found_or_none number (Err line_ends.Read) = Err ends.Read
found_or_none number (Err line_ends.TooLong) = Err (ends.TooLong number)
found_or_none number (Err line_ends.FileTooLong) = Err ends.FileTooLong

-- what is kept was written, and it is told whether that failed
abbrev pub Flushes : Bool → Option (List ℕ) → Option (List ℕ) → ℕ → ℕ → Held → Held → Type 0
Flushes false wrote wrote' f f' held held' = Passed wrote wrote' f f' held.bytes [] × (held' ≡ nothing_held)
Flushes true wrote wrote' f f' held held' = CutOff wrote wrote' f f' held.bytes × (held'.failed ≡ true)

-- The bytes at hand told what comes next, and nothing was read or written. Or what is kept was written before a read.
abbrev pub Moves : Bool → Reading → Option (List ℕ) → Option (List ℕ) → Option (List ℕ) → Option (List ℕ) → ℕ → ℕ → Held
    → Held → Type 0
Moves failed r before after wrote wrote' f f' held held' =
    (is_ready r ≡ true) × (after ≡ before) × (wrote' ≡ wrote) × (f' ≡ f) × (held' ≡ held) × (failed ≡ false)
    ⊎ Flushes failed wrote wrote' f f' held held'
