-- The finder of the code, and what its parts hand to each other.
use Rattle.std.specs.Prelude.{◌≡◌, ◌++◌, ℕ, List, Option, All, Contains}
use Rattle.actions.specs.declared.event.Event.{Event}
use Rattle.checked_chart.specs.Chart.{Chart}
use Rattle.bound_prove.specs.declared.cell.Cell.{Cell}
use Rattle.bound_prove.specs.declared.cert.Cert.{Cert}
use Rattle.bound_prove.specs.declared.find.Finder.{Finder}
use Rattle.bound_prove.specs.declared.need.Need.{Need}
use Rattle.bound_prove.specs.declared.need.Part.{Part}
use Rattle.bound_prove.specs.Cells.{IsGood}
use Rattle.bound_prove.specs.Certs.{cells_of, IsMadeFor}
use Rattle.bound_prove.specs.Colourings.{Colouring, IsBlack, colours_of, AreFor}
use Rattle.bound_prove.specs.Firings.{AreRight}
use Rattle.bound_prove.specs.Homes.{AreMarksFor}
use Rattle.bound_prove.specs.Lookups.{cell_at}
use Rattle.bound_prove.specs.Roots.{root_need}
use Rattle.bound_prove.specs.Searches.{IsNeedOf, IsRoot, Answers}
use Rattle.bound_prove.specs.Tables.{IsInTable}
use Rattle.bound_prove.specs.Waiting.{IsUnderWay}

-- the roots of a chart, each of which is a cell of the table
pub record AreRoots (c : Chart) (cells : List Cell) : Type 0 where
  pub within : All (λ (x : Cell). IsInTable c x.event x.part x.index) cells
  pub are : All (λ (x : Cell). IsRoot c x.event x.part x.index) cells
  pub whole : (e : Event) (part : Part) (i : ℕ) → IsRoot c e part i → Contains cells (cell_at e part i)

-- of a stack done cells alone were taken off
pub record LeavesOutDone (k : Colouring) (before after : List Cell) : Type 0 where
  pub out : List Cell
  pub place : before ≡ after ++ out
  pub black : All (λ (x : Cell). IsBlack k x.event x.part x.index) out

-- what a finder knows, with that stack
pub record IsFinding (c : Chart) (f : Finder) (stack : List Cell) : Type 0 where
  pub way : IsUnderWay c (cells_of f.cert) (colours_of f.colours) stack
  pub firings : AreRight c (cells_of f.cert) (IsBlack (colours_of f.colours)) f.firings
  pub marks : AreMarksFor c f.marks
  pub made : IsMadeFor c f.cert
  pub coloured : AreFor c f.colours

-- a good certificate of the chart, whose roots give the need of the chart
pub record IsFound (c : Chart) (cert : Cert) : Type 0 where
  pub made : IsMadeFor c cert
  pub good : IsGood c (cells_of cert)
  pub need : (n : Option Need) → Answers (root_need c (cells_of cert)) n → IsNeedOf c n
