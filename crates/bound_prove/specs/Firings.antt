-- Needs of firings that are kept.
use Rattle.std.specs.Prelude.{◌≡◌, ◌⊎◌, ℕ, Option, Some, None, slice_get, slice_index_or}
use Rattle.actions.specs.declared.event.Event.{Event}
use Rattle.checked_chart.specs.Chart.{Chart}
use Rattle.bound_prove.specs.declared.firings.FiringRow.{FiringRow}
use Rattle.bound_prove.specs.declared.firings.Firings.{Firings}
use Rattle.bound_prove.specs.declared.need.Need.{Need}
use Rattle.bound_prove.specs.Cells.{Cells, firing_need}
use Rattle.bound_prove.specs.Tables.{event_index}
use Rattle.bound_prove.specs.Uses.{OfCells, FiringUses}

-- what a row keeps for a home
abbrev pub row_firing : Option FiringRow → ℕ → Option Need
row_firing None s = None
row_firing (Some r) s = slice_index_or r.needs.items s None

-- what is kept for an event and a home
abbrev pub firing_at : Firings → ℕ → ℕ → Option Need
firing_at f n s = row_firing (slice_get f.rows.items n) s

-- what is kept for an event and a home
abbrev pub kept_firing : Firings → Event → ℕ → Option Need
kept_firing f e s = firing_at f (event_index e) s

-- none is kept
abbrev pub IsEmptyRow : FiringRow → Type 0
IsEmptyRow r = (s : ℕ) → slice_index_or r.needs.items s None ≡ None

-- none is kept
abbrev pub AreNone : Firings → Type 0
AreNone f = (e : Event) (s : ℕ) → kept_firing f e s ≡ None

-- each need that is kept now was kept before, or is the new one
abbrev pub KeepsInRow : FiringRow → FiringRow → ℕ → Need → Type 0
KeepsInRow old new home need = (s : ℕ) (n : Need) → slice_index_or new.needs.items s None ≡ Some n
    → (slice_index_or old.needs.items s None ≡ Some n) ⊎ ((s ≡ home) × (n ≡ need))

-- so it is of all rows
abbrev pub KeepsOnly : Firings → Firings → Event → ℕ → Need → Type 0
KeepsOnly old new event home need = (e : Event) (s : ℕ) (n : Need) → kept_firing new e s ≡ Some n
    → (kept_firing old e s ≡ Some n) ⊎ ((e ≡ event) × (s ≡ home) × (n ≡ need))

-- each kept need is that of the firing, and all that the firing looks up is done
pub record AreRight (c : Chart) (g : Cells) (Done : OfCells) (f : Firings) : Type 0 where
  pub firing : (e : Event) (s : ℕ) (n : Need) → kept_firing f e s ≡ Some n → n ≡ firing_need c g e s
  pub uses : (e : Event) (s : ℕ) (n : Need) → kept_firing f e s ≡ Some n → FiringUses c Done e s
