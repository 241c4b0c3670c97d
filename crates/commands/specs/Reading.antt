-- How a file is read: whole, or why it isn't read.
use Rattle.std.specs.Prelude.{◌≡◌, ℕ, ◌+◌, ◌<◌, ◌≤◌, Vec, List, [], length, Option, Some, None, Result, Ok, Err}
use Rattle.std.specs.Option.{option_map}
use Rattle.std.specs.declared.alloc.Global.{Global}
use Rattle.flow_base.specs.Causes.{Rose, OthersKept, NoneFalls, AllStay}
use Rattle.flow_base.specs.Bytes.{TakesAtMost}
use Rattle.commands.specs.declared.file.FileEnd.{FileEnd}
use Rattle.commands.specs.declared.file.FileEnd.TheVariants as ends
use Rattle.commands.specs.Call.{Sources}

-- a text is that of a file where it equals the bytes that are known, and where none are known any text may be
abbrev pub IsTold : Option (List ℕ) → List ℕ → Type 0
IsTold None text = Unit {0}
IsTold (Some told) text = text ≡ told

-- what a file that was read to its end has left: nothing, where that is known
abbrev pub read_out : Option (List ℕ) → Option (List ℕ)
read_out left = option_map (λ _. []) left

-- the file was read to its end, and this is its text; no other file was read, and no read failed
pub record ReadWhole (before after : Sources) (name text : List ℕ) : Type 0 where
  pub is_told : IsTold (before.left name) text
  pub at_end : after.left name ≡ read_out (before.left name)
  pub others : OthersKept name before.left after.left
  pub quiet : AllStay before.faults after.faults

-- the file's text is over the limit, and at most one byte past the limit was read
pub record ReadPast (limit : ℕ) (before after : Sources) (name text : List ℕ) : Type 0 where
  pub is_told : IsTold (before.left name) text
  pub long : limit < length text
  pub taken : TakesAtMost (limit + 1) (before.left name) (after.left name)
  pub others : OthersKept name before.left after.left
  pub quiet : AllStay before.faults after.faults

-- a read of the file failed; at most one byte past the limit was read, and no other file; the reads that failed are
-- counted
pub record ReadFailed (limit : ℕ) (before after : Sources) (name : List ℕ) : Type 0 where
  pub taken : TakesAtMost (limit + 1) (before.left name) (after.left name)
  pub cause : Rose (before.faults name) (after.faults name)
  pub counts : NoneFalls before.faults after.faults
  pub others : OthersKept name before.left after.left

-- memory ran out; at most one byte past the limit was read, and no other file, and no read failed
pub record RanOut (limit : ℕ) (before after : Sources) (name : List ℕ) : Type 0 where
  pub taken : TakesAtMost (limit + 1) (before.left name) (after.left name)
  pub others : OthersKept name before.left after.left
  pub quiet : AllStay before.faults after.faults

-- the file's text is refused for that reason: it was read whole, or it is over the limit
pub data IsRefused {R : Type 0} (limit : ℕ) (Refuses : List ℕ → R → Type 0) (before after : Sources) (name : List ℕ)
    (why : R) : Type 0 where
  Whole : (text : List ℕ) → ReadWhole before after name text → length text ≤ limit → Refuses text why
      → IsRefused limit Refuses before after name why
  TooLong : (text : List ℕ) → ReadPast limit before after name text → Refuses text why
      → IsRefused limit Refuses before after name why

-- why nothing comes of a file whose text may have at most `limit` bytes
abbrev pub Unread : {R : Type 0} → ℕ → (List ℕ → R → Type 0) → Sources → Sources → List ℕ → FileEnd R → Type 0
Unread limit Refuses before after name (ends.Refused why) = IsRefused limit Refuses before after name why
Unread limit Refuses before after name ends.Read = ReadFailed limit before after name
Unread limit Refuses before after name ends.Memory = RanOut limit before after name

-- the file's whole text has this meaning
pub record Gives {T : Type 0} (Means : List ℕ → T → Type 0) (before after : Sources) (name : List ℕ)
    (value : T) : Type 0 where
  pub text : List ℕ
  pub read : ReadWhole before after name text
  pub means : Means text value

-- what comes of such a file: the meaning of its whole text, or why nothing comes of it
abbrev pub FileGives : {T R : Type 0} → ℕ → (List ℕ → T → Type 0) → (List ℕ → R → Type 0)
    → Sources → Sources → List ℕ → Result T (FileEnd R) → Type 0
FileGives limit Means Refuses before after name (Ok value) = Gives Means before after name value
FileGives limit Means Refuses before after name (Err end) = Unread limit Refuses before after name end

-- a text is refused only where it is over the limit, as `too_long`
pub record RefusesLong {R : Type 0} (limit : ℕ) (too_long : R) (text : List ℕ) (why : R) : Type 0 where
  pub long : limit < length text
  pub why_is : why ≡ too_long

-- the bytes that were read are that text, which has at most `limit` bytes
pub record IsTextOf (limit : ℕ) (text : List ℕ) (bytes : Vec ℕ Global) : Type 0 where
  pub bytes_are : bytes.items ≡ text
  pub short : length text ≤ limit
