-- How a call ends, where a program has endings of its own.
use Rattle.std.specs.Prelude.{◌≡◌}
use Rattle.commands.specs.Call.{Call}

-- the call ends at once: nothing is read, and nothing is written
pub record EndsAtOnce {X : Type 0} (call : Call) (end ending : X) : Type 0 where
  pub is_that : ending ≡ end
  pub sources : call.sources_after ≡ call.sources_before
  pub output : call.output_after ≡ call.output_before

-- the command ends so, and the call accordingly
pub record EndsAs {E X : Type 0} (ending_of : E → X) (CommandEnds : E → Type 0) (ending : X) : Type 0 where
  pub end : E
  pub ends : CommandEnds end
  pub ending_is : ending ≡ ending_of end
