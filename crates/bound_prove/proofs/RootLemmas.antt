-- The roots of a chart, one event after the other.
use Rattle.std.proofs.Common.{◌≡◌, ◌≢◌, ◌∙◌, ℕ, ◌+◌, ◌<◌, ◌≤◌, List, [], ◌∷◌, ◌++◌, length, All, Contains, Some, arith}
use Rattle.std.proofs.Common.{slice_get, get_or}
use Rattle.std.proofs.Common.{◌⊎◌, ⊎_elim, ap, sym, subst, refl}
use Rattle.std.proofs.lemmas.Bool.{cases_order}
use Rattle.std.proofs.lemmas.Option.{slice_get_within, slice_get_read}
use Rattle.std.proofs.lemmas.List.Elements.{All-nil, All-push, Contains-push, Contains-append_left}
use Rattle.active_config.specs.Tree.{state_count}
use Rattle.actions.specs.declared.event.Event.{Event}
use Rattle.actions.specs.declared.event.Event.TheVariants.{Start, Tick, Named}
use Rattle.actions.specs.declared.names.EventDecl.{EventDecl}
use Rattle.actions.specs.declared.names.EventKind.{EventKind}
use Rattle.actions.specs.declared.names.EventKind.TheVariants.{Input, Local, Output}
use Rattle.actions.specs.Engines.{IsInputEvent}
use Rattle.checked_chart.specs.Chart.{Chart}
use Rattle.bound_prove.specs.declared.need.Part.TheVariants as parts
use Rattle.bound_prove.specs.declared.cell.Cell.{Cell}
use Rattle.bound_prove.specs.declared.need.Part.{Part}
use Rattle.bound_prove.specs.Finding.{AreRoots}
use Rattle.bound_prove.specs.Lookups.{cell_at}
use Rattle.bound_prove.specs.Searches.{IsRoot, OfStart, OfTick, OfInput}
use Rattle.bound_prove.specs.Tables.{IsInTable}

-- the cells of the start, of a tick, and of each input event with a number below n
pub record AreRootsBelow (c : Chart) (n : ℕ) (cells : List Cell) : Type 0 where
  pub within : All (λ (x : Cell). IsInTable c x.event x.part x.index) cells
  pub are : All (λ (x : Cell). IsRoot c x.event x.part x.index) cells
  pub start : Contains cells (cell_at Start parts.Enter 0)
  pub tick : Contains cells (cell_at Tick parts.Process 0)
  pub inputs : (e : ℕ) → e < n → IsInputEvent c.names e → Contains cells (cell_at (Named e) parts.Process 0)

-- the kinds of events that aren't input events
pub no_input : (k : EventKind) → (k ≡ Local) ⊎ (k ≡ Output) → k ≢ Input
no_input k h e = ⊎_elim (λ l. cc) (λ o. cc) h

module _ (c : Chart) (root : 0 < state_count c.tree) where
  -- before the first event
  pub first_roots : AreRootsBelow c 0 (([] ++ cell_at Start parts.Enter 0 ∷ []) ++ cell_at Tick parts.Process 0 ∷ [])
  first_roots =
      let start_in : IsInTable c Start parts.Enter 0 = record { event = omega arith; index = root } in
      let tick_in : IsInTable c Tick parts.Process 0 = record { event = omega arith; index = root } in
      record {
        within =
            All-push (λ (x : Cell). IsInTable c x.event x.part x.index) (cell_at Start parts.Enter 0 ∷ [])
            (cell_at Tick parts.Process 0)
            (All-push (λ (x : Cell). IsInTable c x.event x.part x.index) [] (cell_at Start parts.Enter 0)
            (All-nil (λ (x : Cell). IsInTable c x.event x.part x.index)) start_in) tick_in;
        are =
            All-push (λ (x : Cell). IsRoot c x.event x.part x.index) (cell_at Start parts.Enter 0 ∷ [])
            (cell_at Tick parts.Process 0)
            (All-push (λ (x : Cell). IsRoot c x.event x.part x.index) [] (cell_at Start parts.Enter 0)
            (All-nil (λ (x : Cell). IsRoot c x.event x.part x.index)) OfStart) OfTick;
        start = (0, omega arith, refl);
        tick = (1, omega arith, refl);
        inputs = λ e lt i. absurd (omega (arith, lt));
      }

  -- an input event
  pub input_root : (n : ℕ) (cells : List Cell) → n < length c.names.events → IsInputEvent c.names n
      → AreRootsBelow c n cells → AreRootsBelow c (n + 1) (cells ++ cell_at (Named n) parts.Process 0 ∷ [])
  input_root n cells lt input h = record {
    within =
        All-push (λ (x : Cell). IsInTable c x.event x.part x.index) cells (cell_at (Named n) parts.Process 0) h.within
        (record { event = omega (arith, lt); index = root });
    are =
        All-push (λ (x : Cell). IsRoot c x.event x.part x.index) cells (cell_at (Named n) parts.Process 0) h.are
        (OfInput n input);
    start = Contains-append_left cells (cell_at (Named n) parts.Process 0 ∷ []) (cell_at Start parts.Enter 0) h.start;
    tick = Contains-append_left cells (cell_at (Named n) parts.Process 0 ∷ []) (cell_at Tick parts.Process 0) h.tick;
    inputs = λ e below i.
        ⊎_elim
        (λ same.
        subst (λ m. Contains (cells ++ cell_at (Named n) parts.Process 0 ∷ []) (cell_at (Named m) parts.Process 0))
        (sym same) (Contains-push cells (cell_at (Named n) parts.Process 0)))
        (λ differ.
        Contains-append_left cells (cell_at (Named n) parts.Process 0 ∷ []) (cell_at (Named e) parts.Process 0)
        (h.inputs e (⊎_elim (λ k. k) (λ k. absurd (omega (arith, k, below))) differ) i)) (cases_order e n);
  }

  -- any other event
  pub no_root : (n : ℕ) (cells : List Cell) (decl : EventDecl) → slice_get c.names.events n ≡ Some decl
      → decl.kind ≢ Input → AreRootsBelow c n cells → AreRootsBelow c (n + 1) cells
  no_root n cells decl at other h = record {
    within = h.within;
    are = h.are;
    start = h.start;
    tick = h.tick;
    inputs = λ e below i.
        ⊎_elim
        (λ same.
        let found : Some i.0 ≡ Some decl = sym i.1 ∙ ap (slice_get c.names.events) same ∙ at in
        let one : i.0 ≡ decl = cc in
        absurd (other (ap (λ (d : EventDecl). d.kind) (sym one) ∙ i.2)))
        (λ differ. h.inputs e (⊎_elim (λ k. k) (λ k. absurd (omega (arith, k, below))) differ) i) (cases_order e n);
  }

  -- so it is by the events of the code
  pub input_step : (events : List EventDecl) → events ≡ c.names.events → (n : ℕ) (d : EventDecl) (cells : List Cell)
      → n < length events → d ≡ get_or events n d → d.kind ≡ Input → AreRootsBelow c n cells
      → AreRootsBelow c (n + 1) (cells ++ cell_at (Named n) parts.Process 0 ∷ [])
  input_step events e n d cells lt at kind h =
      input_root n cells (subst (λ z. n < length z) e lt)
      (d, subst (λ z. slice_get z n ≡ Some d) e (slice_get_read events (length events) n d refl lt at), kind) h

  -- and where it is no input event
  pub other_step : (events : List EventDecl) → events ≡ c.names.events → (n : ℕ) (d : EventDecl) (cells : List Cell)
      → n < length events → d ≡ get_or events n d → d.kind ≢ Input → AreRootsBelow c n cells
      → AreRootsBelow c (n + 1) cells
  other_step events e n d cells lt at kind h =
      no_root n cells d (subst (λ z. slice_get z n ≡ Some d) e (slice_get_read events (length events) n d refl lt at))
      kind h

  -- after the last event
  pub all_roots : (n : ℕ) (cells : List Cell) → length c.names.events ≤ n → AreRootsBelow c n cells → AreRoots c cells
  all_roots n cells le h = record { within = h.within; are = h.are; whole = at }
    where
      at : (e : Event) (part : Part) (i : ℕ) → IsRoot c e part i → Contains cells (cell_at e part i)
      at e part i OfStart = h.start
      at e part i OfTick = h.tick
      at e part i (OfInput m input) =
          h.inputs m
          (let lt : m < length c.names.events = slice_get_within c.names.events m input.0 input.1 in
          omega (arith, le, lt)) input
