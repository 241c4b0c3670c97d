-- A line that goes out in pieces: what is written and what is kept make the text so far.
use Rattle.std.specs.Prelude.{◌≡◌, ℕ, ◌≤◌, Bool, true, false, List, [], ◌++◌, Option, Result, Ok, Err}
use Rattle.std.specs.Io.KnownBytes.{append_known}
use Rattle.flow_base.specs.Bytes.{AppendsProperFront}
use Rattle.flow_base.specs.Causes.{Rose}
use Rattle.flow_base.specs.declared.inputs.Failed.{Failed}

-- bytes that are still to be written, and whether a write failed
pub record Held : Type 0 where
  pub bytes : List ℕ
  pub failed : Bool

-- nothing is to be written, and no write failed
abbrev pub nothing_held : Held
nothing_held = record { bytes = []; failed = false }

-- a text more is kept
abbrev pub kept : Held → List ℕ → Held
kept held more = record held { bytes = held.bytes ++ more }

-- the text is what was written and then what is kept, and no write failed
pub record Passed (before after : Option (List ℕ)) (f f' : ℕ) (text held : List ℕ) : Type 0 where
  pub sent : List ℕ
  pub parts : text ≡ sent ++ held
  pub written : after ≡ append_known before sent
  pub count : f' ≡ f

-- a write failed after a proper front of the text
pub record CutOff (before after : Option (List ℕ)) (f f' : ℕ) (text : List ℕ) : Type 0 where
  pub front : AppendsProperFront before after text
  pub count : Rose f f'
  pub later : f ≤ f'

-- what became of a text
abbrev pub WrittenAt : Bool → Option (List ℕ) → Option (List ℕ) → ℕ → ℕ → List ℕ → List ℕ → Type 0
WrittenAt false before after f f' text held = Passed before after f f' text held
WrittenAt true before after f f' text held = CutOff before after f f' text

-- what became of a text, some of which may still be held
abbrev pub Written : Option (List ℕ) → Option (List ℕ) → ℕ → ℕ → List ℕ → Held → Type 0
Written before after f f' text held = WrittenAt held.failed before after f f' text held.bytes

-- the whole text was written, or a write failed
abbrev pub Ends : Option (List ℕ) → Option (List ℕ) → ℕ → ℕ → List ℕ → Result (Unit {0}) Failed → Type 0
Ends before after f f' text (Ok done) = Passed before after f f' text []
Ends before after f f' text (Err failed) = CutOff before after f f' text

-- a text was put after what is there, whatever that is
abbrev pub Puts : Option (List ℕ) → Option (List ℕ) → ℕ → ℕ → Held → Held → List ℕ → Type 0
Puts before after f f' old new text = (w : Option (List ℕ)) (f0 : ℕ) (all : List ℕ)
    → Written w before f0 f all old → Written w after f0 f' (all ++ text) new
