-- Certificates of the code as definitions see them.
use Rattle.std.specs.Prelude.{◌≡◌, ◌<◌, ℕ, List, Option, Some, None, IsSomeAnd, length, slice_get, slice_index_or}
use Rattle.checked_chart.specs.Chart.{Chart}
use Rattle.bound_prove.specs.declared.cert.Row.{Row}
use Rattle.bound_prove.specs.declared.cert.Cert.{Cert}
use Rattle.bound_prove.specs.declared.need.Need.{Need}
use Rattle.bound_prove.specs.declared.need.Part.{Part}
use Rattle.bound_prove.specs.declared.need.Part.TheVariants as parts
use Rattle.bound_prove.specs.Cells.{Cells}
use Rattle.bound_prove.specs.Searches.{the_ends}
pub use Rattle.bound_prove.specs.Tables.{event_index}
use Rattle.bound_prove.specs.Tables.{event_count, part_count}

-- ---- the table

-- the needs of a part
abbrev pub row_part : Row → Part → List Need
row_part r parts.Junction = r.junctions.items
row_part r parts.Exit = r.exits.items
row_part r parts.Enter = r.entries.items
row_part r parts.Process = r.processes.items

-- a need of a row, and the ends where there is none
abbrev pub row_need : Option Row → Part → ℕ → Need
row_need None part i = the_ends
row_need (Some r) part i = slice_index_or (row_part r part) i the_ends

-- the need of a cell by the number of its event; outside the table it is at the ends
abbrev pub need_at : Cert → ℕ → Part → ℕ → Need
need_at k n part i = row_need (slice_get k.rows.items n) part i

-- the cells of a certificate
abbrev pub cells_of : Cert → Cells
cells_of k e part i = need_at k (event_index e) part i

-- a certificate has a cell
abbrev pub HasCell : Cert → ℕ → Part → ℕ → Type 0
HasCell k n part i = IsSomeAnd (slice_get k.rows.items n) (λ (r : Row). i < length (row_part r part))

-- a row with a cell for each junction and state of a chart
abbrev pub IsRowOf : Chart → Row → Type 0
IsRowOf c r = (part : Part) → length (row_part r part) ≡ part_count c part

-- a certificate with the sizes of a chart
pub record IsMadeFor (c : Chart) (k : Cert) : Type 0 where
  pub events : length k.rows.items ≡ event_count c
  pub rows : (n : ℕ) (r : Row) → slice_get k.rows.items n ≡ Some r → IsRowOf c r

-- ---- a new table

-- a list of that many needs, all of them this one
pub record AreAll (count : ℕ) (first : Need) (needs : List Need) : Type 0 where
  pub sized : length needs ≡ count
  pub all : (i : ℕ) → i < count → slice_index_or needs i the_ends ≡ first

-- a row of that many junctions and states, with that need in every cell
pub record IsFirstRow (junctions states : ℕ) (first : Need) (r : Row) : Type 0 where
  pub lists : AreAll junctions first (row_part r parts.Junction)
  pub exits : AreAll states first (row_part r parts.Exit)
  pub entries : AreAll states first (row_part r parts.Enter)
  pub processes : AreAll states first (row_part r parts.Process)

-- every cell of the table has that need
abbrev pub IsFilled : Cert → Need → Type 0
IsFilled k first = (n : ℕ) (part : Part) (i : ℕ) → HasCell k n part i → need_at k n part i ≡ first

-- ---- a change of one cell

-- of a row one cell of a part is changed
pub record SetsInRow (old new : Row) (part : Part) (i : ℕ) (need : Need) : Type 0 where
  pub this : slice_index_or (row_part new part) i the_ends ≡ need
  pub others : (p : Part) (j : ℕ) → (p ≡ part → j ≡ i → ⊥)
      → slice_index_or (row_part new p) j the_ends ≡ slice_index_or (row_part old p) j the_ends
  pub sized : (p : Part) → length (row_part new p) ≡ length (row_part old p)

-- the cell gets the need, and every other cell keeps its own
pub record SetsOnly (old new : Cert) (n : ℕ) (part : Part) (i : ℕ) (need : Need) : Type 0 where
  pub this : need_at new n part i ≡ need
  pub others : (m : ℕ) (p : Part) (j : ℕ) → (m ≡ n → p ≡ part → j ≡ i → ⊥) → need_at new m p j ≡ need_at old m p j
