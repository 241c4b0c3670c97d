-- What is said of a plan that the search finds.
use Rattle.std.specs.Prelude.{◌≡◌, ◌<◌, ◌==◌, ◌||◌, ℕ, Bool, length}
use Rattle.flow_base.specs.Lists.{items_of}
use Rattle.c_decided.specs.declared.plan.Plan.{Plan}
use Rattle.c_decided.specs.Views.{plan_of}
use Rattle.c_decided_runs.specs.declared.checks.Outside.{Outside}

-- the functions that stay as they are: the start and the reaction
abbrev pub is_kept : Outside → ℕ → Bool
is_kept o p = (p == o.start) || (p == o.react)

-- the plan is one for so many functions, of which those stay that are to
pub record IsPlanOf (count : ℕ) (o : Outside) (plan : Plan) : Type 0 where
  pub many : length (items_of plan.functions) ≡ count
  pub stays : (p : ℕ) → p < count → (plan_of plan).stays p ≡ is_kept o p
