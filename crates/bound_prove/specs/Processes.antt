-- What the evaluation of the firings from a list of a state says.
use Rattle.std.specs.Prelude.{ℕ, List}
use Rattle.std.specs.List.{AllByRecursion}
use Rattle.checked_chart.specs.declared.parts.ListKind.{ListKind}
use Rattle.bound_prove.specs.declared.cell.Cell.{Cell}
use Rattle.bound_prove.specs.declared.lookup.Lookup.{Lookup}
use Rattle.bound_prove.specs.declared.need.Need.{Need}
use Rattle.bound_prove.specs.Cells.{firing_need}
use Rattle.bound_prove.specs.Homes.{AreHomes}
use Rattle.bound_prove.specs.Lookups.{chart_in, cells_in, IsKnown, Evaluated}
use Rattle.bound_prove.specs.Needs.{one_of}
use Rattle.bound_prove.specs.Uses.{FiringUses}

-- one of the firings with these homes was evaluated
abbrev pub FiringsOf : Lookup → List ℕ → List Cell → List Cell → Need → Type 0
FiringsOf l homes before after given =
    Evaluated l before after given (one_of (firing_need (chart_in l) (cells_in l) l.cell.event) homes)
    (λ m. AllByRecursion (FiringUses (chart_in l) (IsKnown l m) l.cell.event) homes)

-- one of the firings from a list of a state was evaluated
pub record FiringsFrom (l : Lookup) (s : ℕ) (kind : ListKind) (before after : List Cell) (given : Need) : Type 0 where
  pub homes : List ℕ
  pub are : AreHomes (chart_in l) l.cell.event s kind homes
  pub evaluated : FiringsOf l homes before after given
