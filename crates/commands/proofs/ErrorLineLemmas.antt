-- The line on standard error stands there, or a proper prefix of it does.
use Rattle.std.proofs.Common.{◌≡◌, ℕ, List, Result, Ok, Err, OnOk, OnErr, inl, inr, arith}
use Rattle.std.specs.Io.KnownBytes.{append_known}
use Rattle.flow_base.specs.Bytes.{AppendsProperFront}
use Rattle.flow_base.specs.Causes.{Stands, HasCause}
use Rattle.commands.specs.Call.{Output}
use Rattle.commands.specs.ErrorLines.{LineStands}

module _ {T E : Type 0} (before after : Output) (line : List ℕ) where
  -- a write that failed is the cause of a proper prefix
  pub line_stands : (result : Result T E) → OnOk result (after.holds ≡ append_known before.holds line)
      → OnErr result (AppendsProperFront before.holds after.holds line)
      → HasCause before.faults after.faults result → LineStands before after line
  line_stands (Ok done) ok failed cause = inl ok
  line_stands (Err fault) ok failed cause = inr (record { cause = cause.failed; front = failed })

  -- where no write failed the line stands there
  pub line_whole : (result : Result T E) → OnOk result (after.holds ≡ append_known before.holds line)
      → HasCause before.faults after.faults result → Stands before.faults after.faults
      → after.holds ≡ append_known before.holds line
  line_whole (Ok done) ok cause stands = ok
  line_whole (Err fault) ok cause stands = absurd (omega (arith, cause.failed, stands.same, stands.more_to_come))
