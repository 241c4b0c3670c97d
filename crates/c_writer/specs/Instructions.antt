-- The plans of instructions that neither jump nor return.
use Rattle.std.specs.Prelude.{ℕ}
use Rattle.c_functions.specs.Statements.{Block}
use Rattle.c_functions.specs.Statements as plan
use Rattle.c_functions.specs.Written.{on_check}
use Rattle.c_functions.specs.Plans.{Shape}

-- an event is emitted
abbrev pub emit_plan : ℕ → Block → Block
emit_plan e rest = plan.Pay (plan.Put e rest)

-- an event is sent to the whole chart
abbrev pub send_plan : ℕ → ℕ → Block → Block
send_plan e react rest = plan.Deep (plan.Pay (plan.Send e react rest))

-- an event is sent to a state, where that is active after the step is paid
abbrev pub send_to_plan : Shape → ℕ → ℕ → ℕ → Block → Block
send_to_plan K e s p rest =
    plan.Deep (plan.Pay
    (plan.If (plan.Simple (on_check K.tree K.numbers s)) (plan.Send e p plan.End) plan.End rest))

-- the last result is returned, where it isn't 0
abbrev pub pass_plan : Block → Block
pass_plan rest = plan.If (plan.Simple (plan.Not (plan.IsResult 0))) plan.ReturnResult plan.End rest
