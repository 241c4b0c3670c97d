-- The declarations whose first values are given.
use Rattle.std.specs.Prelude.{List, [], ◌∷◌, Option, Some, None}
use Rattle.std.specs.Option.{unwrap_or}
use Rattle.actions.specs.declared.expr.Value.{Value}
use Rattle.actions.specs.declared.names.Var.{Var}
use Rattle.actions.specs.Data.{mantissa_in}
use Rattle.actions.specs.Names.{Names}

-- a datum with this first value, where one is given
abbrev pub var_with : Option Value → Var → Var
var_with None v = v
var_with (Some value) v = record v { init = unwrap_or (mantissa_in v.sort value) v.init }

-- data with these first values, those of the first ones first
abbrev pub vars_with : List (Option Value) → List Var → List Var
vars_with [] vars = vars
vars_with (x ∷ xs) [] = []
vars_with (x ∷ xs) (v ∷ vs) = var_with x v ∷ vars_with xs vs

-- what is declared, where the data have these first values
abbrev pub with_inputs : List (Option Value) → Names → Names
with_inputs given n = record n { vars = vars_with given n.vars }
