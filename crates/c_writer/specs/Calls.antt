-- The arguments of calls.
use Rattle.std.specs.Prelude.{ℕ, List, [], ◌∷◌}
use Rattle.c_subset.specs.Trees.{CExpr, Field, Calc}
use Rattle.c_subset.specs.declared.trees.Arithmetic.TheVariants.{Plus}
use Rattle.c_functions.specs.Plans.{Shape, number, noted_field, event_local, depth_local, base_local, home_local}
use Rattle.c_functions.specs.Plans.{result_local}

-- the parameters of the caller
abbrev pub own_arguments : List CExpr
own_arguments = event_local ∷ depth_local ∷ base_local ∷ home_local ∷ result_local ∷ []

-- of a sent event: the event, one deeper, with the call as its own base and the root as its home
abbrev pub send_arguments : Shape → ℕ → List CExpr
send_arguments K e =
    number e ∷ Calc Plus depth_local (number 1) ∷ Field (noted_field K) ∷ number 0 ∷ result_local ∷ []
