-- What the evaluation of a cell looks up, and what it says.
use Rattle.std.specs.Prelude.{◌≡◌, ◌⊎◌, ◌++◌, ℕ, List, Contains, IfSome}
use Rattle.std.specs.List.{AllByRecursion}
use Rattle.actions.specs.declared.event.Event.{Event}
use Rattle.checked_chart.specs.Chart.{Chart}
use Rattle.checked_chart.specs.Kept.{chart_of}
use Rattle.bound_prove.specs.declared.cell.Cell.{Cell}
use Rattle.bound_prove.specs.declared.lookup.Lookup.{Lookup}
use Rattle.bound_prove.specs.declared.need.Need.{Need}
use Rattle.bound_prove.specs.declared.need.Part.{Part}
use Rattle.bound_prove.specs.Cells.{Cells, Demands}
use Rattle.bound_prove.specs.Certs.{cells_of}
use Rattle.bound_prove.specs.Colourings.{Colouring, colours_of, IsBlack}
use Rattle.bound_prove.specs.Needs.{Covers}
use Rattle.bound_prove.specs.Searches.{LeadsOn}
use Rattle.bound_prove.specs.Tables.{IsInTable}
use Rattle.bound_prove.specs.Uses.{OfCells, Uses}

-- the cell of an event and a junction or state
abbrev pub cell_at : Event → Part → ℕ → Cell
cell_at e part i = record { event = e; part = part; index = i }

-- the chart, and the certificate
abbrev pub chart_in : Lookup → Chart
chart_in l = chart_of l.chart.now

-- the cells of the certificate
abbrev pub cells_in : Lookup → Cells
cells_in l = cells_of l.cert.now

-- a cell counts as done where it is black, and without colours
abbrev pub IsDone : Lookup → OfCells
IsDone l e part i = IfSome l.colours (λ k. IsBlack (colours_of k.now) e part i)

-- a cell of the table, to which the first one leads on
pub record IsLedTo (c : Chart) (from x : Cell) : Type 0 where
  pub within : IsInTable c x.event x.part x.index
  pub leads : LeadsOn c from.event from.part from.index x.event x.part x.index

-- a cell that may be looked up
abbrev pub MayLook : Lookup → OfCells
MayLook l e part i = IsLedTo (chart_in l) l.cell (cell_at e part i)

-- a cell that was looked up and isn't done
pub record IsMet (l : Lookup) (x : Cell) : Type 0 where
  pub led : IsLedTo (chart_in l) l.cell x
  pub undone : IsDone l x.event x.part x.index → ⊥

-- a cell that is done, or was met
abbrev pub IsKnown : Lookup → List Cell → OfCells
IsKnown l met e part i = IsDone l e part i ⊎ Contains met (cell_at e part i)

-- a cell that is black, or one of the list
abbrev pub IsBlackOrIn : Colouring → List Cell → OfCells
IsBlackOrIn k cells e part i = IsBlack k e part i ⊎ Contains cells (cell_at e part i)

-- what was met before comes first, and what is new was met since
pub record Grows (l : Lookup) (before after : List Cell) : Type 0 where
  pub more : List Cell
  pub joined : after ≡ before ++ more
  pub met : AllByRecursion (IsMet l) more

-- each cell of the first list is one of the second
abbrev pub AreIn : List Cell → List Cell → Type 0
AreIn xs ys = (x : Cell) → Contains xs x → Contains ys x

-- A piece of work was evaluated: its value is as defined, and all that it looks up is known from then on.
pub record Evaluated (l : Lookup) (before after : List Cell) (given wanted : Need) (Used : List Cell → Type 0)
    : Type 0 where
  pub value : given ≡ wanted
  pub grows : Grows l before after
  pub used : (later : List Cell) → AreIn after later → Used later

-- A cell was evaluated: its value is the least that covers what the cell is to cover.
pub record CellEvaluated (l : Lookup) (part : Part) (i : ℕ) (before after : List Cell) (given : Need) : Type 0 where
  pub covers : (n : Need) → Demands (chart_in l) (cells_in l) l.cell.event part i n → Covers given n
  pub least : (v : Need) → ((n : Need) → Demands (chart_in l) (cells_in l) l.cell.event part i n → Covers v n)
      → Covers v given
  pub grows : Grows l before after
  pub uses : Uses (chart_in l) (IsKnown l after) l.cell.event part i
