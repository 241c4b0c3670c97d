-- How a text is written: all of it, or a front of it where a write fails.
use Rattle.std.specs.Prelude.{◌≡◌, ℕ, List}
use Rattle.std.specs.Io.KnownBytes.{append_known}
use Rattle.flow_base.specs.Causes.{Rose}
use Rattle.flow_base.specs.Bytes.{AppendsProperFront}
use Rattle.commands.specs.Call.{Output}

-- the whole text was written, and no write failed
pub record Wrote (before after : Output) (text : List ℕ) : Type 0 where
  pub bytes : after.holds ≡ append_known before.holds text
  pub quiet : after.faults ≡ before.faults

-- a write failed, after a front of the text that isn't all of it
pub record WroteFront (before after : Output) (text : List ℕ) : Type 0 where
  pub cause : Rose before.faults after.faults
  pub front : AppendsProperFront before.holds after.holds text
