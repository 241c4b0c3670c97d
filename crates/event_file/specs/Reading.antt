-- A reader of lines, and when the bytes that it has at hand tell what comes next.
use Rattle.std.specs.Prelude.{◌≡◌, ℕ, ◌+◌, ◌-◌, ◌<◌, ◌≤◌, nat_lt, Bool, true, false, ◌||◌}
use Rattle.std.specs.Prelude.{List, [], ◌++◌, length, if◌then◌else◌, Option, Some, None}
use Rattle.std.specs.Io.KnownBytes.{prepend_known, IsAtEnd}
use Rattle.event_file.specs.declared.cuts.Cut.{Cut}
use Rattle.event_file.specs.declared.cuts.Cut.TheVariants as cuts
use Rattle.event_file.specs.declared.limits.TheConstants.{LINE_LIMIT, FILE_LIMIT, BUFFER_SIZE}
use Rattle.event_file.specs.Limits.{Limit, TooLong, PastFile, line_limit}
use Rattle.event_file.specs.Lines.{line_length}

-- a reader of lines
pub record Reading : Type 0 where
  -- the line that was read last, and its number
  pub line : List ℕ
  pub number : ℕ
  -- how many bytes of the file the lines up to that one have
  pub at : ℕ
  -- the bytes at hand after it
  pub pending : List ℕ
  -- whether the end of the file was met, and whether a call answered an error
  pub ended : Bool
  pub failed : Bool

-- nothing was read
abbrev pub unused : Reading
unused = record { line = []; number = 0; at = 0; pending = []; ended = false; failed = false }

-- The line stands in the buffer from first to last, and the bytes at hand from start to end. No more than one byte past the
-- file's limit was read.
pub record IsPlaced (buffer : List ℕ) (first last start end at number : ℕ) (failed : Bool) : Type 0 where
  pub room : length buffer ≡ BUFFER_SIZE
  pub line : first ≤ last
  pub line_within : last ≤ BUFFER_SIZE
  pub pending : start ≤ end
  pub pending_within : end ≤ BUFFER_SIZE
  pub file : at + (end - start) ≤ FILE_LIMIT + 1
  pub numbered : failed ≡ false → number ≤ at
  pub few : number ≤ FILE_LIMIT + 2

-- ---- what bytes begin with

-- a line, with its newline where there is more than the line, or the end of the file
abbrev pub line_or_end : ℕ → ℕ → Cut
line_or_end n held =
    if nat_lt n held then cuts.Line (n + 1) else (if nat_lt 0 n then cuts.Line n else cuts.End)

-- the line unless it passes a limit
abbrev pub cut_within : Option Limit → ℕ → ℕ → Cut
cut_within (Some TooLong) n held = cuts.TooLong
cut_within (Some PastFile) n held = cuts.PastFile
cut_within None n held = line_or_end n held

-- what `held` bytes begin with, of which the first line has n, after `at` bytes of the file
abbrev pub cut_at : ℕ → ℕ → ℕ → Cut
cut_at at n held = cut_within (line_limit (nat_lt FILE_LIMIT (at + held)) at n) n held

-- those bytes tell it, whatever comes after them
abbrev pub is_enough : ℕ → ℕ → ℕ → Bool
is_enough at n held = nat_lt n held || nat_lt LINE_LIMIT held || nat_lt FILE_LIMIT (at + held)

-- the bytes at hand tell what comes next
abbrev pub is_ready : Reading → Bool
is_ready r = r.ended || is_enough r.at (line_length r.pending) (length r.pending)

-- ---- a read

-- a piece was read after the bytes at hand, and no bytes at the end of the file
pub record ReadsMore (old new : Reading) (before after : Option (List ℕ)) : Type 0 where
  pub piece : List ℕ
  pub pending : new.pending ≡ old.pending ++ piece
  pub bytes : before ≡ prepend_known piece after
  pub some : new.ended ≡ false → 0 < length piece
  pub ended : new.ended ≡ true → (piece ≡ []) × IsAtEnd after
  pub number : new.number ≡ old.number
  pub at : new.at ≡ old.at
  pub failed : new.failed ≡ old.failed
