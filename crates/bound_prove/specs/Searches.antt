-- What a depth-first search of the cells knows.
use Rattle.std.specs.Prelude.{◌≡◌, ◌+◌, ◌-◌, ◌<◌, ◌≤◌, ℕ, suc, min, Option, Some, None, ◌⊎◌}
use Rattle.active_config.specs.Tree.{state_count}
use Rattle.actions.specs.declared.event.Event.{Event}
use Rattle.actions.specs.declared.event.Event.TheVariants.{Start, Tick, Named}
use Rattle.actions.specs.Engines.{IsInputEvent}
use Rattle.checked_chart.specs.Chart.{Chart}
use Rattle.bound_prove.specs.declared.need.Need.{Need}
use Rattle.bound_prove.specs.declared.need.Part.{Part}
use Rattle.bound_prove.specs.declared.need.Part.TheVariants as parts
use Rattle.bound_prove.specs.declared.need.TheConstants.{DEPTH_END, STEP_END}
use Rattle.bound_prove.specs.Needs.{Covers}
use Rattle.bound_prove.specs.Cells.{Cells, Demands, IsGood}
use Rattle.bound_prove.specs.Roots.{root_need, IsWithin}
use Rattle.bound_prove.specs.Uses.{OfCells, Uses}

-- the least need of the roots that a good certificate gives, or none where no good certificate stays below the ends
abbrev pub IsNeedOf : Chart → Option Need → Type 0
IsNeedOf c (Some n) =
    (g : Cells) × IsGood c g × (root_need c g ≡ n) × IsWithin n
    × ((other : Cells) → IsGood c other → Covers (root_need c other) n)
IsNeedOf c None = (g : Cells) → IsGood c g → IsWithin (root_need c g) → ⊥

-- the same cell
pub record IsSame (e : Event) (part : Part) (i : ℕ) (e' : Event) (part' : Part) (i' : ℕ) : Type 0 where
  pub same_event : e' ≡ e
  pub same_part : part' ≡ part
  pub same_index : i' ≡ i

-- ---- the cells that are done

-- Of the cells that are done: each looks up such cells alone; each covers all that it is to cover; and in every good
-- certificate it needs at least as much.
pub record AreDone (c : Chart) (g : Cells) (Done : OfCells) : Type 0 where
  pub closed : (e : Event) (part : Part) (i : ℕ) → Done e part i → Uses c Done e part i
  pub enough : (e : Event) (part : Part) (i : ℕ) → Done e part i → (n : Need) → Demands c g e part i n
      → Covers (g e part i) n
  pub least : (other : Cells) → IsGood c other → (e : Event) (part : Part) (i : ℕ) → Done e part i
      → Covers (other e part i) (g e part i)

-- ---- cycles

-- a number that is lower for each cell that is looked up without a step
abbrev pub rank : Chart → Part → ℕ → ℕ
rank c parts.Junction j = 0
rank c parts.Exit s = state_count c.tree - s
rank c parts.Enter s = state_count c.tree - s
rank c parts.Process s = suc (state_count c.tree + (state_count c.tree - s))

-- a need of one cell and of a cell that it leads to: one step more, or as many and a higher rank
pub data Rises (above below : Need) (high low : ℕ) : Type 0 where
  ByStep : min STEP_END (below.steps + 1) ≤ above.steps → Rises above below high low
  ByRank : min STEP_END below.steps ≤ above.steps → low < high → Rises above below high low

-- the first cell leads to the second one: in every good certificate the need rises
abbrev pub LeadsOn : Chart → Event → Part → ℕ → Event → Part → ℕ → Type 0
LeadsOn c e part i e' part' i' =
    (g : Cells) → IsGood c g → Rises (g e part i) (g e' part' i') (rank c part i) (rank c part' i')

-- ---- roots

-- the cells of the start, of a tick, and of each input event
pub data IsRoot (c : Chart) : Event → Part → ℕ → Type 0 where
  OfStart : IsRoot c Start parts.Enter 0
  OfTick : IsRoot c Tick parts.Process 0
  OfInput : (e : ℕ) → IsInputEvent c.names e → IsRoot c (Named e) parts.Process 0

-- a root is the cell, or leads to it
abbrev pub IsBelowRoot : Chart → Event → Part → ℕ → Type 0
IsBelowRoot c e part i =
    (e' : Event) × (part' : Part) × (i' : ℕ) × IsRoot c e' part' i'
    × (LeadsOn c e' part' i' e part i ⊎ IsSame e part i e' part' i')

-- ---- the end of a search

-- the need at which every cell begins
abbrev pub the_ends : Need
the_ends = record { depth = DEPTH_END; steps = STEP_END }

-- a need that stays below the ends, or none
pub data Answers (n : Need) : Option Need → Type 0 where
  Below : IsWithin n → Answers n (Some n)
  Beyond : (IsWithin n → ⊥) → Answers n None

-- a good certificate that has at most what any other one has
pub record IsLeast (c : Chart) (g : Cells) : Type 0 where
  pub good : IsGood c g
  pub least : (other : Cells) → IsGood c other → (e : Event) (part : Part) (i : ℕ)
      → Covers (other e part i) (g e part i)
