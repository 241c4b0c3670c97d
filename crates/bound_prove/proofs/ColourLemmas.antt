-- Colours of cells: new ones, and one cell changed.
use Rattle.std.proofs.Common.{◌≡◌, ◌≢◌, ℕ, ◌<◌, List, [], ◌∷◌, ◌++◌, length}
use Rattle.std.proofs.Common.{Option, Some, None, ◌⊎◌, inl, inr, ⊎_elim, refl, sym}
use Rattle.std.proofs.Common.{ap, ◌∙◌, subst, arith}
use Rattle.std.specs.Prelude.{slice_get, slice_set, slice_index_or, IsSomeAnd}
use Rattle.active_config.proofs.TableLemmas.{same_or_other}
use Rattle.active_config.specs.Tree.{state_count}
use Rattle.actions.specs.declared.event.Event.{Event}
use Rattle.checked_chart.specs.Chart.{Chart, junction_count}
use Rattle.bound_prove.specs.declared.colours.ColourRow.{ColourRow}
use Rattle.bound_prove.specs.declared.colours.Colours.{Colours}
use Rattle.bound_prove.specs.declared.cell.Colour.{Colour}
use Rattle.bound_prove.specs.declared.cell.Colour.TheVariants.{White}
use Rattle.bound_prove.specs.declared.need.Part.{Part}
use Rattle.bound_prove.specs.declared.need.Part.TheVariants as parts
use Rattle.bound_prove.specs.Colourings.{row_part, row_colour, colour_at, colours_of}
use Rattle.bound_prove.specs.Colourings.{HasCell, AreFor, AreWhite, IsWhiteRow}
use Rattle.bound_prove.specs.Colourings.{SetsInRow, SetsOnly}
use Rattle.bound_prove.specs.Searches.{IsSame}
use Rattle.bound_prove.specs.Tables.{event_index, event_count, part_count, IsInTable}
use Rattle.bound_prove.proofs.Rows.{each_pushed, not_missing, get_changed, get_others}
use Rattle.bound_prove.proofs.Rows.{get_within, within_or_default, same_cell}

-- ---- new colours

-- each row is white
abbrev pub AreWhiteRows : ℕ → ℕ → List ColourRow → Type 0
AreWhiteRows junctions states rows =
    (n : ℕ) (r : ColourRow) → slice_get rows n ≡ Some r → IsWhiteRow junctions states r

-- one row more
pub white_pushed : (junctions states : ℕ) (rows : List ColourRow) (row : ColourRow)
    → AreWhiteRows junctions states rows → IsWhiteRow junctions states row
    → AreWhiteRows junctions states (rows ++ row ∷ [])
white_pushed junctions states rows row h new = each_pushed (IsWhiteRow junctions states) rows row h new

module _ (junctions states : ℕ) where
  -- its lists have the sizes of the chart
  white_sized : (c : Chart) → junctions ≡ junction_count c → states ≡ state_count c.tree → (r : ColourRow)
      → IsWhiteRow junctions states r → (part : Part) → length (row_part r part) ≡ part_count c part
  white_sized c j s r h parts.Junction = h.lists.sized ∙ j
  white_sized c j s r h parts.Exit = h.exits.sized ∙ s
  white_sized c j s r h parts.Enter = h.entries.sized ∙ s
  white_sized c j s r h parts.Process = h.processes.sized ∙ s

  -- every colour of a list
  all_white : (count : ℕ) (colours : List Colour) → AreWhite count colours → (i : ℕ)
      → slice_index_or colours i White ≡ White
  all_white count colours h i =
      ⊎_elim (λ lt. let n = h.sized in h.all i (omega arith)) (λ d. d) (within_or_default colours i White)

  -- every colour of a row
  white_filled : (r : ColourRow) → IsWhiteRow junctions states r → (part : Part) (i : ℕ)
      → slice_index_or (row_part r part) i White ≡ White
  white_filled r h parts.Junction i = all_white junctions r.junctions.items h.lists i
  white_filled r h parts.Exit i = all_white states r.exits.items h.exits i
  white_filled r h parts.Enter i = all_white states r.entries.items h.entries i
  white_filled r h parts.Process i = all_white states r.processes.items h.processes i

  -- the rows make colours of the chart
  pub made_for : (c : Chart) (k : Colours) → length k.rows.items ≡ event_count c → junctions ≡ junction_count c
      → states ≡ state_count c.tree → AreWhiteRows junctions states k.rows.items → AreFor c k
  made_for c k n j s h = record { events = n; rows = λ m r e part. white_sized c j s r (h m r e) part }

  -- every cell is white
  pub white : (k : Colours) → AreWhiteRows junctions states k.rows.items → (e : Event) (part : Part) (i : ℕ)
      → colours_of k e part i ≡ White
  white k h e part i = at (slice_get k.rows.items (event_index e)) refl
    where
      at : (o : Option ColourRow) → slice_get k.rows.items (event_index e) ≡ o → row_colour o part i ≡ White
      at None f = refl
      at (Some r) f = white_filled r (h (event_index e) r f) part i

-- ---- one cell changed

module _ (k k' : Colours) (n : ℕ) (part : Part) (i : ℕ) (colour : Colour) (r r' : ColourRow)
    (there : slice_get k.rows.items n ≡ Some r)
    (rows : k'.rows.items ≡ slice_set k.rows.items n r') (sets : SetsInRow r r' part i colour) where
  -- the changed row
  changed_row : slice_get k'.rows.items n ≡ Some r'
  changed_row =
      ap (λ rs. slice_get rs n) rows ∙ get_changed k.rows.items n r' (get_within k.rows.items n r there)

  -- another row stays
  other_row : (m : ℕ) → m ≢ n → slice_get k'.rows.items m ≡ slice_get k.rows.items m
  other_row m ne = ap (λ rs. slice_get rs m) rows ∙ get_others k.rows.items n m r' ne

  -- another cell keeps its colour
  at_other : (m : ℕ) (p : Part) (j : ℕ) → (m ≡ n → p ≡ part → j ≡ i → ⊥) → (m ≡ n) ⊎ (m ≢ n)
      → colour_at k' m p j ≡ colour_at k m p j
  at_other m p j ne (inr other) = ap (λ o. row_colour o p j) (other_row m other)
  at_other m p j ne (inl same) =
      ap (λ z. colour_at k' z p j) same ∙ ap (λ o. row_colour o p j) changed_row ∙ sets.others p j (ne same)
      ∙ sym (ap (λ o. row_colour o p j) there) ∙ sym (ap (λ z. colour_at k z p j) same)

  -- each row keeps its sizes
  sized_at : (c : Chart) → AreFor c k → (m : ℕ) (x : ColourRow) → slice_get k'.rows.items m ≡ Some x → (m ≡ n) ⊎ (m ≢ n)
      → (p : Part) → length (row_part x p) ≡ part_count c p
  sized_at c made m x e (inr other) p = made.rows m x (sym (other_row m other) ∙ e) p
  sized_at c made m x e (inl same) p =
      let f : slice_get k'.rows.items n ≡ Some x = subst (λ z. slice_get k'.rows.items z ≡ Some x) same e in
      let g : r' ≡ x = let h = changed_row in cc in
      subst (λ z. length (row_part z p) ≡ part_count c p) g (sets.sized p ∙ made.rows n r there p)

  -- the colours keep their sizes
  pub made_still : (length k'.rows.items ≡ length k.rows.items) → (c : Chart) → AreFor c k → AreFor c k'
  made_still same c made = record {
    events = same ∙ made.events;
    rows = λ m x e p. sized_at c made m x e (same_or_other m n) p;
  }

  -- exactly the cell is changed
  pub sets_only : (length k'.rows.items ≡ length k.rows.items) → SetsOnly k k' n part i colour
  sets_only same = record {
    this = ap (λ o. row_colour o part i) changed_row ∙ sets.this;
    others = λ m p j ne. at_other m p j ne (same_or_other m n);
    sized = made_still same;
  }

-- where there is a cell, there is its row
pub has_row : (k : Colours) (n : ℕ) (part : Part) (i : ℕ) → HasCell k n part i → n < length k.rows.items
has_row k n part i has = at (slice_get k.rows.items n) refl has
  where
    at : (o : Option ColourRow) → slice_get k.rows.items n ≡ o → IsSomeAnd o (λ (r : ColourRow). i < length
        (row_part r part))
        → n < length k.rows.items
    at None e h = absurd h
    at (Some r) e h = get_within k.rows.items n r e

-- a cell of the chart stands in its certificate
pub has_cell : (c : Chart) (k : Colours) (e : Event) (part : Part) (i : ℕ) → AreFor c k → IsInTable c e part i
    → HasCell k (event_index e) part i
has_cell c k e part i made inside = at (slice_get k.rows.items (event_index e)) refl
  where
    at : (o : Option ColourRow) → slice_get k.rows.items (event_index e) ≡ o
        → IsSomeAnd o (λ (r : ColourRow). i < length (row_part r part))
    at None f =
        let a = made.events in let b = inside.event in
        absurd (not_missing k.rows.items (event_index e) (omega arith) f)
    at (Some r) f = let a = made.rows (event_index e) r f part in let b = inside.index in omega arith

-- what one change of the table means for the cells
pub put_others : (k k' : Colours) (e : Event) (part : Part) (i : ℕ) (colour : Colour)
    → SetsOnly k k' (event_index e) part i colour → (e' : Event) (part' : Part) (i' : ℕ)
    → IsSame e part i e' part' i' ⊎ (colours_of k' e' part' i' ≡ colours_of k e' part' i')
put_others k k' e part i colour sets e' part' i' =
    ⊎_elim (λ same. inl same) (λ ne. inr (sets.others (event_index e') part' i' ne)) (same_cell e part i e' part' i')
