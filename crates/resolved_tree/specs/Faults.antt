-- The first of the faults of a list.
use Rattle.std.specs.Prelude.{◌≡◌, ◌⊎◌, List, [], ◌∷◌, Option, None}
use Rattle.chart_tree.specs.declared.first.FaultAt.{FaultAt}
use Rattle.chart_tree.specs.First.{kept}

-- the first of a fault that was found and of further ones, by place, and at one place by number
unfoldable pub first_with : Option FaultAt → List FaultAt → Option FaultAt
first_with found [] = found
first_with found (f ∷ faults) = first_with (kept found f) faults

-- the first of some faults, none where there are none
unfoldable pub first_of : List FaultAt → Option FaultAt
first_of faults = first_with None faults

-- the fault is one of the list
abbrev pub IsIn : List FaultAt → FaultAt → Type 0
IsIn [] f = ⊥
IsIn (g ∷ faults) f = (g ≡ f) ⊎ IsIn faults f
