-- Colours of cells.
use Rattle.std.specs.Prelude.{◌≡◌, ◌<◌, ℕ, List, Option, Some, None, IsSomeAnd, length, slice_get, slice_index_or}
use Rattle.actions.specs.declared.event.Event.{Event}
use Rattle.checked_chart.specs.Chart.{Chart}
use Rattle.bound_prove.specs.declared.cell.Colour.{Colour}
use Rattle.bound_prove.specs.declared.cell.Colour.TheVariants.{White, Black}
use Rattle.bound_prove.specs.declared.colours.ColourRow.{ColourRow}
use Rattle.bound_prove.specs.declared.colours.Colours.{Colours}
use Rattle.bound_prove.specs.declared.need.Part.{Part}
use Rattle.bound_prove.specs.declared.need.Part.TheVariants as parts
use Rattle.bound_prove.specs.Tables.{event_index, event_count, part_count}
use Rattle.bound_prove.specs.Uses.{OfCells}

-- for each cell a colour
abbrev pub Colouring : Type 0
Colouring = Event → Part → ℕ → Colour

-- a cell that is done
abbrev pub IsBlack : Colouring → OfCells
IsBlack k e part i = k e part i ≡ Black

-- the colours of a part
abbrev pub row_part : ColourRow → Part → List Colour
row_part r parts.Junction = r.junctions.items
row_part r parts.Exit = r.exits.items
row_part r parts.Enter = r.entries.items
row_part r parts.Process = r.processes.items

-- a colour of a row; a cell that isn't there is white
abbrev pub row_colour : Option ColourRow → Part → ℕ → Colour
row_colour None part i = White
row_colour (Some r) part i = slice_index_or (row_part r part) i White

-- the colour of a cell by the number of its event
abbrev pub colour_at : Colours → ℕ → Part → ℕ → Colour
colour_at k n part i = row_colour (slice_get k.rows.items n) part i

-- the colours of the cells
abbrev pub colours_of : Colours → Colouring
colours_of k e part i = colour_at k (event_index e) part i

-- there is a cell
abbrev pub HasCell : Colours → ℕ → Part → ℕ → Type 0
HasCell k n part i = IsSomeAnd (slice_get k.rows.items n) (λ (r : ColourRow). i < length (row_part r part))

-- colours with the sizes of a chart
pub record AreFor (c : Chart) (k : Colours) : Type 0 where
  pub events : length k.rows.items ≡ event_count c
  pub rows : (n : ℕ) (r : ColourRow) → slice_get k.rows.items n ≡ Some r → (part : Part)
      → length (row_part r part) ≡ part_count c part

-- ---- new colours

-- a list of that many colours, all of them white
pub record AreWhite (count : ℕ) (colours : List Colour) : Type 0 where
  pub sized : length colours ≡ count
  pub all : (i : ℕ) → i < count → slice_index_or colours i White ≡ White

-- a row of that many junctions and states, all of it white
pub record IsWhiteRow (junctions states : ℕ) (r : ColourRow) : Type 0 where
  pub lists : AreWhite junctions (row_part r parts.Junction)
  pub exits : AreWhite states (row_part r parts.Exit)
  pub entries : AreWhite states (row_part r parts.Enter)
  pub processes : AreWhite states (row_part r parts.Process)

-- ---- a change of one cell

-- of a row one cell of a part is changed
pub record SetsInRow (old new : ColourRow) (part : Part) (i : ℕ) (colour : Colour) : Type 0 where
  pub this : slice_index_or (row_part new part) i White ≡ colour
  pub others : (p : Part) (j : ℕ) → (p ≡ part → j ≡ i → ⊥)
      → slice_index_or (row_part new p) j White ≡ slice_index_or (row_part old p) j White
  pub sized : (p : Part) → length (row_part new p) ≡ length (row_part old p)

-- the cell gets the colour, and every other cell keeps its own
pub record SetsOnly (old new : Colours) (n : ℕ) (part : Part) (i : ℕ) (colour : Colour) : Type 0 where
  pub this : colour_at new n part i ≡ colour
  pub others : (m : ℕ) (p : Part) (j : ℕ) → (m ≡ n → p ≡ part → j ≡ i → ⊥)
      → colour_at new m p j ≡ colour_at old m p j
  pub sized : (c : Chart) → AreFor c old → AreFor c new
