-- What the check of a certificate finds out.
use Rattle.std.proofs.Common.{◌≡◌, ◌∙◌, ℕ, ◌+◌, ◌<◌, ◌≤◌, List, length, drop, get_or, Option, Some, None}
use Rattle.std.proofs.Common.{◌⊎◌, inl, inr, ⊎_elim, refl, sym, ap, subst, arith}
use Rattle.std.specs.Prelude.{slice_get, if◌then◌else◌}
use Rattle.actions.specs.declared.event.Event.{Event}
use Rattle.actions.specs.declared.names.EventDecl.{EventDecl}
use Rattle.checked_chart.specs.Chart.{Chart}
use Rattle.bound_prove.specs.declared.cert.Cert.{Cert}
use Rattle.bound_prove.specs.declared.cert.Row.{Row}
use Rattle.bound_prove.specs.declared.need.Need.{Need}
use Rattle.bound_prove.specs.declared.need.Part.{Part}
use Rattle.bound_prove.specs.Cells.{Cells, IsGood}
use Rattle.bound_prove.specs.Certs.{row_part, row_need, cells_of, IsMadeFor}
use Rattle.bound_prove.specs.Checks.{IsCellGood, IsRowGood}
use Rattle.bound_prove.specs.Needs.{nothing_needed, either, Covers}
use Rattle.bound_prove.specs.Roots.{is_input, inputs_need}
use Rattle.bound_prove.specs.Searches.{the_ends}
use Rattle.bound_prove.specs.Tables.{event_index, event_count, IsInTable}
use Rattle.bound_prove.proofs.Rooms.{covers_more}
use Rattle.bound_prove.proofs.Rows.{same_event, within_or_default, get_within}
use Rattle.active_config.proofs.TableLemmas.{same_or_other}
use Rattle.bound_prove.proofs.Settling.{same_covers, ends_cover}
use Rattle.bound_prove.proofs.Sums.{drop_item, drop_none, either_assoc, either_none, none_either}

-- ---- roots

-- what was added up of the input events, with the rest, is the whole
abbrev pub InputsSoFar : (ℕ → Need) → List EventDecl → ℕ → Need → Type 0
InputsSoFar f events i acc = either acc (inputs_need f i (drop i events)) ≡ inputs_need f 0 events

pub inputs_begin : (f : ℕ → Need) (events : List EventDecl) → InputsSoFar f events 0 nothing_needed
inputs_begin f events = none_either (inputs_need f 0 events)

pub inputs_go_on : (f : ℕ → Need) (events : List EventDecl) (i : ℕ) (x : EventDecl) (acc own n : Need)
    → i < length events
    → x ≡ get_or events i x → own ≡ (if is_input x.kind then f i else nothing_needed) → n ≡ either acc own
    → InputsSoFar f events i acc → InputsSoFar f events (i + 1) n
inputs_go_on f events i x acc own n lt e o m h =
    let rest = inputs_need f (i + 1) (drop (i + 1) events) in
    ap (λ z. either z rest) m ∙ either_assoc acc own rest
    ∙ ap (λ z. either acc (either z rest)) o
    ∙ ap (either acc) (sym (ap (inputs_need f i) (drop_item events i x lt e))) ∙ h

pub inputs_end : (f : ℕ → Need) (events : List EventDecl) (i : ℕ) (acc : Need) → length events ≤ i
    → InputsSoFar f events i acc → acc ≡ inputs_need f 0 events
inputs_end f events i acc le h =
    sym (either_none acc) ∙ ap (either acc) (sym (ap (inputs_need f i) (drop_none events i le))) ∙ h

-- ---- cells

-- a cell at the ends covers all
pub ends_good : (c : Chart) (g : Cells) (e : Event) (part : Part) (i : ℕ) (v : Need) → v ≡ g e part i
    → Covers v the_ends
    → IsCellGood c g e part i
ends_good c g e part i v same h n d =
    subst (λ z. Covers z n) same (covers_more h (ends_cover c g e part i n d))

-- a cell is in the table, or at the ends
pub in_or_ends : (c : Chart) (k : Cert) (e : Event) (part : Part) (i : ℕ) → IsMadeFor c k
    → IsInTable c e part i ⊎ (cells_of k e part i ≡ the_ends)
in_or_ends c k e part i made = at (slice_get k.rows.items (event_index e)) refl
  where
    within : (xs : List Row) (n : ℕ) (r : Row) → slice_get xs n ≡ Some r → n < length xs
    within xs n r e = get_within xs n r e

    at : (o : Option Row) → slice_get k.rows.items (event_index e) ≡ o
        → IsInTable c e part i ⊎ (row_need o part i ≡ the_ends)
    at None f = inr refl
    at (Some r) f =
        let size = made.rows (event_index e) r f part in
        let lt = within k.rows.items (event_index e) r f in
        let events = made.events in
        ⊎_elim (λ inside. inl (record { event = omega (arith, lt, events); index = omega (arith, inside, size) }))
        (λ d. inr d) (within_or_default (row_part r part) i the_ends)

-- ---- the table

-- all rows of the table are good, so the certificate is
pub rows_good : (c : Chart) (k : Cert) → IsMadeFor c k
    → ((e : Event) → event_index e < event_count c → IsRowGood c (cells_of k) e) → IsGood c (cells_of k)
rows_good c k made h e part i n d =
    ⊎_elim (λ inside. h e inside.event part i inside.index n d)
    (λ at. covers_more (same_covers _ _ at) (ends_cover c (cells_of k) e part i n d)) (in_or_ends c k e part i made)

-- one event more
pub next_row : (c : Chart) (g : Cells) (n : ℕ) (event : Event) → event_index event ≡ n
    → ((e : Event) → event_index e < n → IsRowGood c g e) → IsRowGood c g event
    → (e : Event) → event_index e < n + 1 → IsRowGood c g e
next_row c g n event is h own e lt =
    ⊎_elim (λ before. h e before)
    (λ same. subst (IsRowGood c g) (same_event event e (is ∙ sym same)) own) (before_or_same (event_index e) n lt)
  where
    before_or_same : (m k : ℕ) → m < k + 1 → (m < k) ⊎ (m ≡ k)
    before_or_same m k less = ⊎_elim (λ q. inr q) (λ ne. inl (omega (arith, less, ne))) (same_or_other m k)
