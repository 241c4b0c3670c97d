-- What the check of a certificate says.
use Rattle.std.specs.Prelude.{◌≡◌, ◌<◌, ℕ}
use Rattle.actions.specs.declared.event.Event.{Event}
use Rattle.checked_chart.specs.Chart.{Chart}
use Rattle.bound_prove.specs.declared.need.Need.{Need}
use Rattle.bound_prove.specs.declared.need.Part.{Part}
use Rattle.bound_prove.specs.Cells.{Cells, Demands, IsGood}
use Rattle.bound_prove.specs.Needs.{Covers}
use Rattle.bound_prove.specs.Roots.{root_need, IsWithin}
use Rattle.bound_prove.specs.Tables.{part_count}
use Rattle.bound_prove.specs.Uses.{OfCells}

-- a good certificate whose roots have that need, which stays below the ends
pub record Certifies (c : Chart) (g : Cells) (n : Need) : Type 0 where
  pub good : IsGood c g
  pub roots : root_need c g ≡ n
  pub within : IsWithin n

-- a cell covers all that it is to cover
abbrev pub IsCellGood : Chart → Cells → Event → Part → ℕ → Type 0
IsCellGood c g e part i = (n : Need) → Demands c g e part i n → Covers (g e part i) n

-- every cell of a part under an event does, or every cell of an event
abbrev pub IsPartGood : Chart → Cells → Event → Part → Type 0
IsPartGood c g e part = (i : ℕ) → i < part_count c part → IsCellGood c g e part i

-- every cell of an event does
abbrev pub IsRowGood : Chart → Cells → Event → Type 0
IsRowGood c g e = (part : Part) → IsPartGood c g e part

-- every cell counts as done
abbrev pub AllDone : OfCells
AllDone e part i = Unit {0}
