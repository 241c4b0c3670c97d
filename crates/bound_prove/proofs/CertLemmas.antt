-- Certificates of the code: new ones, and one cell changed.
use Rattle.std.proofs.Common.{◌≡◌, ◌≢◌, ℕ, ◌<◌, List, [], ◌∷◌, ◌++◌, length}
use Rattle.std.proofs.Common.{Option, Some, None, ◌⊎◌, inl, inr, ⊎_elim, refl, sym}
use Rattle.std.proofs.Common.{ap, ◌∙◌, subst, arith}
use Rattle.std.specs.Prelude.{slice_get, slice_set, slice_index_or, IsSomeAnd}
use Rattle.active_config.proofs.TableLemmas.{same_or_other}
use Rattle.active_config.specs.Tree.{state_count}
use Rattle.actions.specs.declared.event.Event.{Event}
use Rattle.checked_chart.specs.Chart.{Chart, junction_count}
use Rattle.bound_prove.specs.declared.cert.Row.{Row}
use Rattle.bound_prove.specs.declared.cert.Cert.{Cert}
use Rattle.bound_prove.specs.declared.need.Need.{Need}
use Rattle.bound_prove.specs.declared.need.Part.{Part}
use Rattle.bound_prove.specs.declared.need.Part.TheVariants as parts
use Rattle.bound_prove.specs.Certs.{row_part, row_need, need_at, cells_of, HasCell}
use Rattle.bound_prove.specs.Certs.{IsMadeFor, AreAll, IsFirstRow, IsFilled}
use Rattle.bound_prove.specs.Certs.{SetsInRow, SetsOnly}
use Rattle.bound_prove.specs.Searches.{the_ends, IsSame}
use Rattle.bound_prove.specs.Tables.{event_index, event_count, part_count, IsInTable}
use Rattle.bound_prove.proofs.Rows.{each_pushed, not_missing, get_changed, get_others}
use Rattle.bound_prove.proofs.Rows.{get_within, within_or_default, same_cell}

-- ---- new certificates

-- each row has that need in every cell
abbrev pub AreFirstRows : ℕ → ℕ → Need → List Row → Type 0
AreFirstRows junctions states first rows =
    (n : ℕ) (r : Row) → slice_get rows n ≡ Some r → IsFirstRow junctions states first r

-- one row more
pub first_pushed : (junctions states : ℕ) (first : Need) (rows : List Row) (row : Row)
    → AreFirstRows junctions states first rows → IsFirstRow junctions states first row
    → AreFirstRows junctions states first (rows ++ row ∷ [])
first_pushed junctions states first rows row h new = each_pushed (IsFirstRow junctions states first) rows row h new

module _ (junctions states : ℕ) (first : Need) where
  -- its lists have the sizes of the chart
  first_sized : (c : Chart) → junctions ≡ junction_count c → states ≡ state_count c.tree → (r : Row)
      → IsFirstRow junctions states first r → (part : Part) → length (row_part r part) ≡ part_count c part
  first_sized c j s r h parts.Junction = h.lists.sized ∙ j
  first_sized c j s r h parts.Exit = h.exits.sized ∙ s
  first_sized c j s r h parts.Enter = h.entries.sized ∙ s
  first_sized c j s r h parts.Process = h.processes.sized ∙ s

  -- every need of a list
  all_first : (count : ℕ) (needs : List Need) → AreAll count first needs → (i : ℕ) → i < length needs
      → slice_index_or needs i the_ends ≡ first
  all_first count needs h i lt = let n = h.sized in h.all i (omega arith)

  -- every need of a row
  first_filled : (r : Row) → IsFirstRow junctions states first r → (part : Part) (i : ℕ) → i < length (row_part r part)
      → slice_index_or (row_part r part) i the_ends ≡ first
  first_filled r h parts.Junction i lt = all_first junctions r.junctions.items h.lists i lt
  first_filled r h parts.Exit i lt = all_first states r.exits.items h.exits i lt
  first_filled r h parts.Enter i lt = all_first states r.entries.items h.entries i lt
  first_filled r h parts.Process i lt = all_first states r.processes.items h.processes i lt

  -- the rows make a certificate of the chart
  pub made_for : (c : Chart) (k : Cert) → length k.rows.items ≡ event_count c → junctions ≡ junction_count c
      → states ≡ state_count c.tree → AreFirstRows junctions states first k.rows.items → IsMadeFor c k
  made_for c k n j s h = record { events = n; rows = λ m r e part. first_sized c j s r (h m r e) part }

  -- every cell of it has that need
  pub filled : (k : Cert) → AreFirstRows junctions states first k.rows.items → IsFilled k first
  filled k h n part i has = at (slice_get k.rows.items n) refl has
    where
      at : (o : Option Row) → slice_get k.rows.items n ≡ o → IsSomeAnd o (λ (r : Row). i < length (row_part r part))
          → row_need o part i ≡ first
      at None e h = absurd h
      at (Some r) e lt = first_filled r (h n r e) part i lt

  -- and every other one is at the ends
  pub first_or_ends : (k : Cert) → AreFirstRows junctions states first k.rows.items → (e : Event) (part : Part) (i : ℕ)
      → (cells_of k e part i ≡ first) ⊎ (cells_of k e part i ≡ the_ends)
  first_or_ends k h e part i = at (slice_get k.rows.items (event_index e)) refl
    where
      at : (o : Option Row) → slice_get k.rows.items (event_index e) ≡ o
          → (row_need o part i ≡ first) ⊎ (row_need o part i ≡ the_ends)
      at None f = inr refl
      at (Some r) f =
          ⊎_elim (λ lt. inl (first_filled r (h (event_index e) r f) part i lt)) (λ d. inr d)
          (within_or_default (row_part r part) i the_ends)

-- ---- one cell changed

module _ (k k' : Cert) (n : ℕ) (part : Part) (i : ℕ) (need : Need) (r r' : Row)
    (there : slice_get k.rows.items n ≡ Some r)
    (rows : k'.rows.items ≡ slice_set k.rows.items n r') (sets : SetsInRow r r' part i need) where
  -- the changed row, and the others
  changed_row : slice_get k'.rows.items n ≡ Some r'
  changed_row =
      ap (λ rs. slice_get rs n) rows ∙ get_changed k.rows.items n r' (get_within k.rows.items n r there)

  -- another row stays
  other_row : (m : ℕ) → m ≢ n → slice_get k'.rows.items m ≡ slice_get k.rows.items m
  other_row m ne = ap (λ rs. slice_get rs m) rows ∙ get_others k.rows.items n m r' ne

  -- another cell keeps its need
  at_other : (m : ℕ) (p : Part) (j : ℕ) → (m ≡ n → p ≡ part → j ≡ i → ⊥) → (m ≡ n) ⊎ (m ≢ n)
      → need_at k' m p j ≡ need_at k m p j
  at_other m p j ne (inr other) = ap (λ o. row_need o p j) (other_row m other)
  at_other m p j ne (inl same) =
      ap (λ z. need_at k' z p j) same ∙ ap (λ o. row_need o p j) changed_row ∙ sets.others p j (ne same)
      ∙ sym (ap (λ o. row_need o p j) there) ∙ sym (ap (λ z. need_at k z p j) same)

  -- exactly the cell is changed
  pub sets_only : SetsOnly k k' n part i need
  sets_only = record {
    this = ap (λ o. row_need o part i) changed_row ∙ sets.this;
    others = λ m p j ne. at_other m p j ne (same_or_other m n);
  }

  -- each row keeps its sizes
  sized_at : (c : Chart) → IsMadeFor c k → (m : ℕ) (x : Row) → slice_get k'.rows.items m ≡ Some x → (m ≡ n) ⊎ (m ≢ n)
      → (p : Part) → length (row_part x p) ≡ part_count c p
  sized_at c made m x e (inr other) p = made.rows m x (sym (other_row m other) ∙ e) p
  sized_at c made m x e (inl same) p =
      let f : slice_get k'.rows.items n ≡ Some x = subst (λ z. slice_get k'.rows.items z ≡ Some x) same e in
      let g : r' ≡ x = let h = changed_row in cc in
      subst (λ z. length (row_part z p) ≡ part_count c p) g (sets.sized p ∙ made.rows n r there p)

  -- the certificate keeps its sizes
  pub made_still : (length k'.rows.items ≡ length k.rows.items) → (c : Chart) → IsMadeFor c k → IsMadeFor c k'
  made_still same c made = record {
    events = same ∙ made.events;
    rows = λ m x e p. sized_at c made m x e (same_or_other m n) p;
  }

-- where there is a cell, there is its row
pub has_row : (k : Cert) (n : ℕ) (part : Part) (i : ℕ) → HasCell k n part i → n < length k.rows.items
has_row k n part i has = at (slice_get k.rows.items n) refl has
  where
    at : (o : Option Row) → slice_get k.rows.items n ≡ o → IsSomeAnd o (λ (r : Row). i < length (row_part r part))
        → n < length k.rows.items
    at None e h = absurd h
    at (Some r) e h = get_within k.rows.items n r e

-- a cell of the chart stands in its certificate
pub has_cell : (c : Chart) (k : Cert) (e : Event) (part : Part) (i : ℕ) → IsMadeFor c k → IsInTable c e part i
    → HasCell k (event_index e) part i
has_cell c k e part i made inside = at (slice_get k.rows.items (event_index e)) refl
  where
    at : (o : Option Row) → slice_get k.rows.items (event_index e) ≡ o
        → IsSomeAnd o (λ (r : Row). i < length (row_part r part))
    at None f =
        let a = made.events in let b = inside.event in
        absurd (not_missing k.rows.items (event_index e) (omega arith) f)
    at (Some r) f = let a = made.rows (event_index e) r f part in let b = inside.index in omega arith

-- what one change of the table means for the cells
pub put_others : (k k' : Cert) (e : Event) (part : Part) (i : ℕ) (need : Need)
    → SetsOnly k k' (event_index e) part i need → (e' : Event) (part' : Part) (i' : ℕ)
    → IsSame e part i e' part' i' ⊎ (cells_of k' e' part' i' ≡ cells_of k e' part' i')
put_others k k' e part i need sets e' part' i' =
    ⊎_elim (λ same. inl same) (λ ne. inr (sets.others (event_index e') part' i' ne)) (same_cell e part i e' part' i')
