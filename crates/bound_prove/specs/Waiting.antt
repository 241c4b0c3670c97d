-- What the stack and the colours of a finder say of the cells.
use Rattle.std.specs.Prelude.{◌≡◌, ◌⊎◌, ◌++◌, ℕ, List, ◌∷◌, Bool, true, false, All, Contains}
use Rattle.actions.specs.declared.event.Event.{Event}
use Rattle.checked_chart.specs.Chart.{Chart}
use Rattle.bound_prove.specs.declared.cell.Cell.{Cell}
use Rattle.bound_prove.specs.declared.cell.Colour.{Colour}
use Rattle.bound_prove.specs.declared.cell.Colour.TheVariants.{White, Grey, Black}
use Rattle.bound_prove.specs.declared.need.Part.{Part}
use Rattle.bound_prove.specs.Cells.{Cells}
use Rattle.bound_prove.specs.Colourings.{Colouring, IsBlack}
use Rattle.bound_prove.specs.Lookups.{IsLedTo, IsBlackOrIn}
use Rattle.bound_prove.specs.Searches.{AreDone, IsRoot, IsBelowRoot, the_ends}
use Rattle.bound_prove.specs.Tables.{IsInTable}
use Rattle.bound_prove.specs.Uses.{Uses}

-- whether a colour is grey
abbrev pub is_grey : Colour → Bool
is_grey White = false
is_grey Grey = true
is_grey Black = false

-- Of a grey cell: where it stands in the stack for the last time it leads on to each cell above, and each cell that it
-- looks up is done or stands above.
pub record IsWaiting (c : Chart) (k : Colouring) (stack : List Cell) (x : Cell) : Type 0 where
  pub below : List Cell
  pub above : List Cell
  pub place : stack ≡ below ++ x ∷ above
  pub last : Contains above x → ⊥
  pub leads : All (IsLedTo c x) above
  pub uses : Uses c (IsBlackOrIn k above) x.event x.part x.index

-- a cell of the table, which is a root or below one
pub record IsToDo (c : Chart) (x : Cell) : Type 0 where
  pub within : IsInTable c x.event x.part x.index
  pub below : IsBelowRoot c x.event x.part x.index

-- Black cells are done, and all others at the ends; the stack has cells below the roots alone, and each root that isn't
-- done; and each grey cell waits in the stack for the cells that it looks up.
pub record IsUnderWay (c : Chart) (g : Cells) (k : Colouring) (stack : List Cell) : Type 0 where
  pub done : AreDone c g (IsBlack k)
  pub others : (e : Event) (part : Part) (i : ℕ) → IsBlack k e part i ⊎ (g e part i ≡ the_ends)
  pub stacked : All (IsToDo c) stack
  pub roots : (e : Event) (part : Part) (i : ℕ) → IsRoot c e part i → IsBlackOrIn k stack e part i
  pub grey : (x : Cell) → k x.event x.part x.index ≡ Grey → IsWaiting c k stack x
