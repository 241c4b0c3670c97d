-- How the lines of a file ended, before what is kept of the trace was written.
use Rattle.std.specs.Prelude.{◌≡◌, ℕ, ◌⊎◌, Bool, true, false, List, [], ◌++◌, Option, Result, Err}
use Rattle.std.specs.Io.KnownBytes.{append_known}
use Rattle.flow_base.specs.Causes.{Rose}
use Rattle.step_driver.specs.Driving.{Seen, TakesNoMore}
use Rattle.step_driver.specs.StepRuns.{StepRuns}

-- the text begins with all that the trace has before the first step
pub record Begins (s : StepRuns) (text : List ℕ) : Type 0 where
  pub first : List ℕ
  pub is_begin : s.IsBegin first
  pub more : List ℕ
  pub begins : text ≡ first ++ more

-- nothing was taken of the file, or that was written before
abbrev pub BeginIsOut : StepRuns → Option (List ℕ) → Option (List ℕ) → List ℕ → Type 0
BeginIsOut s before left sent = (left ≡ before) ⊎ Begins s sent

-- the sink was given that text
abbrev pub given_text : Option (List ℕ) → List ℕ → Option (List ℕ) → Option (List ℕ) → Seen
given_text wrote text before left =
    record { wrote_before = wrote; wrote_after = append_known wrote text; left_before = before; left_after = left }

-- What a driver of the steps is to do, by what is seen and by its answer.
abbrev pub DoneBy : StepRuns → Type 1
DoneBy s = Seen → Result (Unit {0}) s.Error → Type 0

-- No write failed, and once what is kept is written, all is done that the answer says. Where something is kept, no more
-- was taken of the file than lines whose trace was written, and a buffer; and the answer isn't a read fault.
pub record Stopped (s : StepRuns) (D : DoneBy s) (read : Bool) (wrote now : Option (List ℕ)) (f f' : ℕ)
    (before left : Option (List ℕ)) (held : List ℕ) (result : Result (Unit {0}) s.Error) : Type 0 where
  pub sent : List ℕ
  pub written : now ≡ append_known wrote sent
  pub count : f' ≡ f
  pub drives : (w : Option (List ℕ)) → D (given_text w (sent ++ held) before left) result
  pub kept : (held ≡ []) ⊎ (TakesNoMore s (given_text wrote sent before left) × BeginIsOut s before left sent)
  pub read_all : read ≡ true → held ≡ []

-- a write failed, or none did
abbrev pub LinesEnd : (s : StepRuns) → DoneBy s → Bool → s.Error → Bool → Option (List ℕ) → Option (List ℕ) → ℕ → ℕ
    → Option (List ℕ) → Option (List ℕ) → List ℕ → Result (Unit {0}) s.Error → Type 0
LinesEnd s D false write read wrote now f f' before left held result =
    Stopped s D read wrote now f f' before left held result
LinesEnd s D true write read wrote now f f' before left held result =
    D (record { wrote_before = wrote; wrote_after = now; left_before = before; left_after = left })
    (Err write) × Rose f f'
