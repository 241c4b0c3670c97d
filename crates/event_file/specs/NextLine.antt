-- What the next line of a file is, whatever pieces its bytes come in.
use Rattle.std.specs.Prelude.{◌≡◌, ℕ, ◌+◌, ◌<◌, ◌≤◌, Bool, true, false, List, [], ◌++◌}
use Rattle.std.specs.Prelude.{length, take, drop, IfSome, Option, Some, None, Result, Ok, Err}
use Rattle.std.specs.Io.KnownBytes.{prepend_known, IsAtEnd}
use Rattle.flow_base.specs.Causes.{Rose, AllStay}
use Rattle.event_file.specs.declared.cuts.Cut.TheVariants as cuts
use Rattle.event_file.specs.declared.limits.TheConstants.{LINE_LIMIT, FILE_LIMIT, BUFFER_SIZE}
use Rattle.event_file.specs.declared.line_reader.LineEnd.{LineEnd}
use Rattle.event_file.specs.declared.line_reader.LineEnd.TheVariants as ends
use Rattle.event_file.specs.Lines.{line_length, without_return, IsPlain, spelled}
use Rattle.event_file.specs.Reading.{Reading, cut_at, is_ready}

-- ---- by the bytes that are told

-- What comes next in a text that begins after `at` bytes of the file: the line and the rest after it, the end, or the limit
-- that its first line passes.
abbrev pub NextOf : ℕ → List ℕ → List ℕ → Option (List ℕ) → Result Bool LineEnd → Type 0
NextOf at text line rest (Ok true) = (size : ℕ) × (cut_at at (line_length text) (length text) ≡ cuts.Line size)
    × (line ≡ without_return (take (line_length text) text)) × (rest ≡ Some (drop size text))
NextOf at text line rest (Ok false) = text ≡ []
NextOf at text line rest (Err ends.TooLong) = cut_at at (line_length text) (length text) ≡ cuts.TooLong
NextOf at text line rest (Err ends.FileTooLong) = cut_at at (line_length text) (length text) ≡ cuts.PastFile
NextOf at text line rest (Err ends.Read) = Unit {0}

-- where the source tells its bytes, and the end was met only where none are left: the answer for all bytes to come
abbrev pub NextTold : Reading → Reading → Option (List ℕ) → Option (List ℕ) → Result Bool LineEnd → Type 0
NextTold old new before after result = (old.ended ≡ true → IsAtEnd before) → IfSome (prepend_known old.pending before)
    (λ text. NextOf old.at text new.line (prepend_known new.pending after) result)

-- a read fault comes only where the count of that name rose, and every other answer leaves every count
abbrev pub HasReadCause : List ℕ → (List ℕ → ℕ) → (List ℕ → ℕ) → Result Bool LineEnd → Type 0
HasReadCause name before after (Ok found) = AllStay before after
HasReadCause name before after (Err ends.TooLong) = AllStay before after
HasReadCause name before after (Err ends.FileTooLong) = AllStay before after
HasReadCause name before after (Err ends.Read) = Rose (before name) (after name)

-- ---- by the bytes at hand

-- the bytes at hand begin with a line, which was taken
pub record TakesLine (old new : Reading) : Type 0 where
  pub raw : List ℕ
  pub closed : Bool
  pub plain : IsPlain raw
  pub short : length raw ≤ LINE_LIMIT
  pub within : old.at + length (spelled raw closed) ≤ FILE_LIMIT
  pub some : 0 < length (spelled raw closed)
  pub at : new.at ≡ old.at + length (spelled raw closed)
  pub line : new.line ≡ without_return raw
  pub number : new.number ≡ old.number + 1
  pub pending : old.pending ≡ spelled raw closed ++ new.pending
  pub last : closed ≡ false → (new.pending ≡ []) × (old.ended ≡ true)
  pub ended : new.ended ≡ old.ended
  pub failed : new.failed ≡ false

-- the bytes at hand begin with a line that is too long
pub record IsTooLong (old new : Reading) : Type 0 where
  pub long : LINE_LIMIT < line_length old.pending
  pub early : old.at + LINE_LIMIT < FILE_LIMIT
  pub line : new.line ≡ old.line
  pub number : new.number ≡ old.number + 1
  pub at : new.at ≡ old.at
  pub pending : new.pending ≡ old.pending
  pub ended : new.ended ≡ old.ended
  pub failed : new.failed ≡ true

-- The bytes at hand begin with a line that holds the first byte that the file has no room for. Where the line is too long
-- too, that byte comes no later than its first byte too many.
pub record IsPastFile (old new : Reading) : Type 0 where
  pub past : FILE_LIMIT ≤ old.at + line_length old.pending
  pub held : FILE_LIMIT < old.at + length old.pending
  pub first : FILE_LIMIT ≤ old.at + LINE_LIMIT
  pub line : new.line ≡ old.line
  pub number : new.number ≡ old.number
  pub at : new.at ≡ old.at
  pub pending : new.pending ≡ old.pending
  pub ended : new.ended ≡ old.ended
  pub failed : new.failed ≡ true

-- what was taken
abbrev pub Takes : Reading → Reading → Result Bool LineEnd → Type 0
Takes old new (Ok true) = TakesLine old new
Takes old new (Ok false) = (old.pending ≡ []) × (old.ended ≡ true) × (new ≡ old)
Takes old new (Err ends.TooLong) = IsTooLong old new
Takes old new (Err ends.FileTooLong) = IsPastFile old new
Takes old new (Err ends.Read) = ⊥

-- bytes were read, none where those at hand tell what comes next
pub record Fills (old new : Reading) (before after : Option (List ℕ)) : Type 0 where
  pub bytes : prepend_known old.pending before ≡ prepend_known new.pending after
  pub kept : is_ready old ≡ true → (new ≡ old) × (after ≡ before)
  pub ended : new.ended ≡ true → old.ended ≡ false → IsAtEnd after
  pub number : new.number ≡ old.number
  pub at : new.at ≡ old.at
  pub failed : new.failed ≡ old.failed

-- a read failed, where the bytes at hand don't tell what comes next
pub record FailsToRead (old new : Reading) : Type 0 where
  pub wanted : is_ready old ≡ false
  pub line : new.line ≡ []
  pub number : new.number ≡ old.number
  pub at : new.at ≡ old.at
  pub pending : new.pending ≡ old.pending
  pub ended : new.ended ≡ old.ended
  pub failed : new.failed ≡ true

-- what was answered after the last read
abbrev pub Then : Reading → Reading → Result Bool LineEnd → Type 0
Then mid new (Ok found) = (is_ready mid ≡ true) × Takes mid new (Ok found)
Then mid new (Err ends.TooLong) = (is_ready mid ≡ true) × IsTooLong mid new
Then mid new (Err ends.FileTooLong) = (is_ready mid ≡ true) × IsPastFile mid new
Then mid new (Err ends.Read) = FailsToRead mid new

-- What a call does: bytes are read until those at hand tell what comes next, and it is taken. No more is at hand than there is
-- room for, nor more than one byte past the file's limit.
pub record Nexts (old new : Reading) (before after : Option (List ℕ)) (result : Result Bool LineEnd) : Type 0 where
  pub mid : Reading
  pub fills : Fills old mid before after
  pub room : length mid.pending ≤ BUFFER_SIZE
  pub file : mid.at + length mid.pending ≤ FILE_LIMIT + 1
  pub answer : Then mid new result

-- what the bytes at hand alone give: the same as a call that reads nothing, or nothing where they don't tell what comes next
abbrev pub AtHand : Reading → Reading → Option (Result Bool LineEnd) → Type 0
AtHand old new None = (is_ready old ≡ false) × (new ≡ old)
AtHand old new (Some result) = (is_ready old ≡ true) × ((left : Option (List ℕ)) → Nexts old new left left result)
