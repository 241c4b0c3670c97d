-- Needs of firings that are kept.
use Rattle.std.proofs.Common.{◌≡◌, ◌≢◌, ◌∙◌, ℕ, zero, suc, ◌<◌, List, [], ◌∷◌}
use Rattle.std.proofs.Common.{◌++◌, length, Option, Some, None, ◌⊎◌, inl, inr}
use Rattle.std.proofs.Common.{⊎_elim, append-nil, refl, sym, ap, subst, arith}
use Rattle.std.specs.Prelude.{slice_get, slice_set, slice_index_or, Contains}
use Rattle.std.specs.List.{AllByRecursion}
use Rattle.active_config.proofs.TableLemmas.{same_or_other}
use Rattle.actions.specs.declared.event.Event.{Event}
use Rattle.checked_chart.specs.Chart.{Chart}
use Rattle.bound_prove.specs.declared.cell.Cell.{Cell}
use Rattle.bound_prove.specs.declared.firings.FiringRow.{FiringRow}
use Rattle.bound_prove.specs.declared.firings.Firings.{Firings}
use Rattle.bound_prove.specs.declared.lookup.Lookup.{Lookup}
use Rattle.bound_prove.specs.declared.need.Need.{Need}
use Rattle.bound_prove.specs.Cells.{Cells, firing_need}
use Rattle.bound_prove.specs.Firings.{row_firing, kept_firing, IsEmptyRow, AreNone, KeepsInRow, KeepsOnly, AreRight}
use Rattle.bound_prove.specs.Lookups.{chart_in, cells_in, cell_at, IsDone, IsMet, IsKnown, Evaluated}
use Rattle.bound_prove.specs.Tables.{event_index}
use Rattle.bound_prove.specs.Uses.{OfCells, FiringUses}
use Rattle.bound_prove.proofs.Evaluations.{grows_not, contains_right}
use Rattle.bound_prove.proofs.HomeLemmas.{contains_none_of}
use Rattle.bound_prove.proofs.Monotone.{firing_uses, firing_most}
use Rattle.bound_prove.specs.Needs.{Covers}
use Rattle.bound_prove.proofs.Settling.{both_cover, same_covers}
use Rattle.bound_prove.proofs.Rows.{each_pushed, get_changed, get_others, same_event}
use Rattle.bound_prove.specs.declared.need.Part.{Part}

-- ---- rows

-- rows in which none is kept
abbrev pub AreEmptyRows : List FiringRow → Type 0
AreEmptyRows rows = (n : ℕ) (r : FiringRow) → slice_get rows n ≡ Some r → IsEmptyRow r

-- one row more
pub empty_pushed : (rows : List FiringRow) (row : FiringRow) → AreEmptyRows rows → IsEmptyRow row
    → AreEmptyRows (rows ++ row ∷ [])
empty_pushed rows row h new = each_pushed IsEmptyRow rows row h new

-- so none is kept
pub empty_none : (f : Firings) → AreEmptyRows f.rows.items → AreNone f
empty_none f h e s = at (slice_get f.rows.items (event_index e)) refl
  where
    at : (o : Option FiringRow) → slice_get f.rows.items (event_index e) ≡ o → row_firing o s ≡ None
    at None x = refl
    at (Some r) x = h (event_index e) r x s

-- a changed need, and the others
set_need : (xs : List (Option Need)) (i : ℕ) (v : Option Need) → i < length xs
    → slice_index_or (slice_set xs i v) i None ≡ v
set_need [] i v lt = absurd (omega arith)
set_need (x ∷ xs) zero v lt = refl
set_need (x ∷ xs) (suc i) v lt = set_need xs i v (omega arith)

-- the others
set_other : (xs : List (Option Need)) (i j : ℕ) (v : Option Need) → j ≢ i
    → slice_index_or (slice_set xs i v) j None ≡ slice_index_or xs j None
set_other [] i j v ne = refl
set_other (x ∷ xs) zero zero v ne = absurd (ne refl)
set_other (x ∷ xs) zero (suc j) v ne = refl
set_other (x ∷ xs) (suc i) zero v ne = refl
set_other (x ∷ xs) (suc i) (suc j) v ne = set_other xs i j v (λ e. ne (ap suc e))

-- a change of a row
pub row_keeps : (old new : FiringRow) (home : ℕ) (need : Need) → home < length old.needs.items
    → new.needs.items ≡ slice_set old.needs.items home (Some need) → KeepsInRow old new home need
row_keeps old new home need lt e s n h = at (same_or_other s home)
  where
    at : (s ≡ home) ⊎ (s ≢ home) → (slice_index_or old.needs.items s None ≡ Some n) ⊎ ((s ≡ home) × (n ≡ need))
    at (inr ne) =
        inl (sym (ap (λ z. slice_index_or z s None) e ∙ set_other old.needs.items home s (Some need) ne) ∙ h)
    at (inl same) =
        let a : slice_index_or new.needs.items home None ≡ Some n =
        subst (λ z. slice_index_or new.needs.items z None ≡ Some n) same h in
        let b = ap (λ z. slice_index_or z home None) e ∙ set_need old.needs.items home (Some need) lt in
        let d : Some n ≡ Some need = sym a ∙ b in
        inr (same, cc)

-- a change of one row
pub keeps_only : (old new : Firings) (e : Event) (home : ℕ) (need : Need) (r r' : FiringRow)
    → event_index e < length old.rows.items → slice_get old.rows.items (event_index e) ≡ Some r
    → new.rows.items ≡ slice_set old.rows.items (event_index e) r' → KeepsInRow r r' home need
    → KeepsOnly old new e home need
keeps_only old new e home need r r' lt there rows keeps f s n h =
    at (same_or_other (event_index f) (event_index e))
  where
    at : (event_index f ≡ event_index e) ⊎ (event_index f ≢ event_index e)
        → (kept_firing old f s ≡ Some n) ⊎ ((f ≡ e) × (s ≡ home) × (n ≡ need))
    at (inr ne) =
        inl (sym (ap (λ z. row_firing (slice_get z (event_index f)) s) rows
        ∙ ap (λ o. row_firing o s) (get_others old.rows.items (event_index e) (event_index f) r' ne)) ∙ h)
    at (inl same) =
        let now : slice_get new.rows.items (event_index f) ≡ Some r' =
        ap (λ k. slice_get new.rows.items k) same ∙ ap (λ z. slice_get z (event_index e)) rows
        ∙ get_changed old.rows.items (event_index e) r' lt in
        let before : slice_get old.rows.items (event_index f) ≡ Some r =
        ap (λ k. slice_get old.rows.items k) same ∙ there in
        ⊎_elim (λ was. inl (ap (λ o. row_firing o s) before ∙ was)) (λ new. inr (same_event f e same, new.0, new.1))
        (keeps s n (sym (ap (λ o. row_firing o s) now) ∙ h))

-- the same where the number of the event has another name
pub keeps_at : (old new : Firings) (e : Event) (home : ℕ) (need : Need) (r r' : FiringRow) (k : ℕ) → k ≡ event_index e
    → k < length old.rows.items → slice_get old.rows.items k ≡ Some r
    → new.rows.items ≡ slice_set old.rows.items k r' → KeepsInRow r r' home need → KeepsOnly old new e home need
keeps_at old new e home need r r' k same lt there rows keeps =
    keeps_only old new e home need r r' (subst (λ z. z < length old.rows.items) same lt)
    (subst (λ z. slice_get old.rows.items z ≡ Some r) same there)
    (rows ∙ ap (λ z. slice_set old.rows.items z r') same) keeps

-- ---- right firings

-- where none is kept, all are right
pub none_right : (c : Chart) (g : Cells) (Done : OfCells) (f : Firings) → AreNone f → AreRight c g Done f
none_right c g Done f none = record {
  firing = λ e s n h. let a = none e s in let b : None ≡ Some n = sym a ∙ h in absurd cc;
  uses = λ e s n h. let a = none e s in let b : None ≡ Some n = sym a ∙ h in absurd cc;
}

-- right firings last where only cells that aren't done change, and more cells are done
pub right_still : (c : Chart) (g g' : Cells) (Done Done' : OfCells)
    → ((e : Event) (part : Part) (i : ℕ) → Done e part i → g' e part i ≡ g e part i)
    → ((e : Event) (part : Part) (i : ℕ) → Done e part i → Done' e part i) → (f : Firings) → AreRight c g Done f
    → AreRight c g' Done' f
right_still c g g' Done Done' kept grow f right = record {
  firing = λ e s n k.
      let uses = right.uses e s n k in
      right.firing e s n k
      ∙ both_cover (firing_need c g e s) (firing_need c g' e s)
      (firing_most c g g' e s
      (firing_uses c Done (λ x p j. Covers (g x p j) (g' x p j)) (λ x p j d. same_covers _ _ (sym
      (kept x p j d))) e s uses))
      (firing_most c g' g e s
      (firing_uses c Done (λ x p j. Covers (g' x p j) (g x p j)) (λ x p j d. same_covers _ _ (kept x p j d)) e s uses));
  uses = λ e s n k. firing_uses c Done Done' grow e s (right.uses e s n k);
}

module _ (l : Lookup) where
  -- what began with nothing met
  pub from_nothing : (start own : List Cell) (n x : Need) (U : List Cell → Type 0) → start ≡ []
      → Evaluated l start own n x U → Evaluated l [] own n x U
  from_nothing start own n x U e h = subst (λ z. Evaluated l z own n x U) e h

  -- a kept firing is evaluated
  pub kept_evaluated : (met : List Cell) (f : Firings) (home : ℕ) (n : Need)
      → AreRight (chart_in l) (cells_in l) (IsDone l) f → kept_firing f l.cell.event home ≡ Some n
      → Evaluated l met met n (firing_need (chart_in l) (cells_in l) l.cell.event home)
      (λ m. FiringUses (chart_in l) (IsKnown l m) l.cell.event home)
  kept_evaluated met f home n right kept = record {
    value = right.firing l.cell.event home n kept;
    grows = grows_not l met;
    used = λ later g.
        firing_uses (chart_in l) (IsDone l) (IsKnown l later) (λ e part i h. inl h) l.cell.event home
        (right.uses l.cell.event home n kept);
  }

  -- what was evaluated apart is evaluated with what was met before
  pub apart_evaluated : (met own after : List Cell) (home : ℕ) (n : Need)
      → Evaluated l [] own n (firing_need (chart_in l) (cells_in l) l.cell.event home)
      (λ m. FiringUses (chart_in l) (IsKnown l m) l.cell.event home) → after ≡ met ++ own
      → Evaluated l met after n (firing_need (chart_in l) (cells_in l) l.cell.event home)
      (λ m. FiringUses (chart_in l) (IsKnown l m) l.cell.event home)
  apart_evaluated met own after home n h e = record {
    value = h.value;
    grows = record { more = own; joined = e; met = subst (AllByRecursion (IsMet l)) (sym h.grows.joined) h.grows.met };
    used = λ later g.
        h.used later (λ x k. g x (subst (λ z. Contains z x) (sym e) (contains_right met own x k)));
  }

  -- one that met nothing is kept rightly
  pub keeps_right : (own : List Cell) (f f' : Firings) (home : ℕ) (n : Need)
      → Evaluated l [] own n (firing_need (chart_in l) (cells_in l) l.cell.event home)
      (λ m. FiringUses (chart_in l) (IsKnown l m) l.cell.event home) → own ≡ []
      → AreRight (chart_in l) (cells_in l) (IsDone l) f → KeepsOnly f f' l.cell.event home n
      → AreRight (chart_in l) (cells_in l) (IsDone l) f'
  keeps_right own f f' home n h none right keeps =
      let c = chart_in l in
      let g = cells_in l in
      let done : FiringUses c (IsDone l) l.cell.event home =
      firing_uses c (IsKnown l own) (IsDone l)
      (λ e part i k. ⊎_elim (λ d. d) (λ there. absurd (contains_none_of own (cell_at e part i) none there)) k)
      l.cell.event home (h.used own (λ x k. k)) in
      record {
        firing = λ e s m k.
            ⊎_elim (λ was. right.firing e s m was)
            (λ new. new.2 ∙ h.value ∙ sym (ap (λ z. firing_need c g z s) new.0
            ∙ ap (λ z. firing_need c g l.cell.event z) new.1)) (keeps e s m k);
        uses = λ e s m k.
            ⊎_elim (λ was. right.uses e s m was)
            (λ new. subst (λ z. FiringUses c (IsDone l) z s) (sym new.0)
            (subst (λ z. FiringUses c (IsDone l) l.cell.event z) (sym new.1) done)) (keeps e s m k);
      }

  -- what was evaluated apart and met nothing
  pub empty_apart : (met own : List Cell) (home : ℕ) (n : Need)
      → Evaluated l [] own n (firing_need (chart_in l) (cells_in l) l.cell.event home)
      (λ m. FiringUses (chart_in l) (IsKnown l m) l.cell.event home) → own ≡ []
      → Evaluated l met met n (firing_need (chart_in l) (cells_in l) l.cell.event home)
      (λ m. FiringUses (chart_in l) (IsKnown l m) l.cell.event home)
  empty_apart met own home n h none =
      apart_evaluated met own met home n h (sym (append-nil met) ∙ ap (λ z. met ++ z) (sym none))
