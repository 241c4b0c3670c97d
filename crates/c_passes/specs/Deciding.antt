-- Plans by which tests are decided.
use Rattle.std.specs.Prelude.{Option, Some, None}
use Rattle.c_functions.specs.Plans.{Shape}
use Rattle.c_decided.specs.declared.plan.Plan as declared
use Rattle.c_decided.specs.Views.{plan_of}
use Rattle.c_decided_runs.specs.Runs.{IsBetween}

-- a plan that is found fits together between events
abbrev pub FitsBetween : Shape → Option declared.Plan → Type 0
FitsBetween K None = Unit {0}
FitsBetween K (Some plan) = IsBetween K (plan_of plan)
