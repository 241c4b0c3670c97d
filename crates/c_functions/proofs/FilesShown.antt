-- The struct shows memory after each change of one part.
use Rattle.std.proofs.Common.{◌≡◌, ◌≢◌, ℕ, ◌+◌, ◌-◌, ◌^◌, ◌<◌, ◌≤◌, pos, List, [], ◌∷◌, ◌++◌, length}
use Rattle.std.proofs.Common.{Option, Some, Bool, true, false}
use Rattle.std.proofs.Common.{slice_set, sym, ◌∙◌, subst, arith}
use Rattle.flow_base.specs.declared.fault.Fault.{Fault}
use Rattle.actions.specs.Data.{Datum}
use Rattle.c_subset.specs.declared.trees.Width.TheVariants.{W32}
use Rattle.c_subset.specs.Meaning.{CValue, Object, Store}
use Rattle.c_subset.specs.Running.{object_of, with_field, with_element}
use Rattle.c_functions.specs.Claims.{ShowsData}
use Rattle.c_functions.specs.States.{States}
use Rattle.c_functions.specs.Statements.{CMemory}
use Rattle.c_functions.specs.Meaning.{front}
use Rattle.c_functions.specs.Layout.{HoldsStates}
use Rattle.c_functions.specs.Plans.{Shape, layout, used_field, outs_field, noted_field, fault_field, fault_datum_field}
use Rattle.c_functions.specs.Plans.{ready_field, fault_number, fault_datum, out_row, note_row}
use Rattle.c_functions.specs.Files.{HasWord, with_fault, ShowsMemory, Represents}
use Rattle.c_functions.proofs.LayoutTests.{unsigned}
use Rattle.c_functions.proofs.PlansWords.{set-other, word-kept, word-put, row-pushed, row-other, row-front, row-empty}
use Rattle.c_functions.proofs.PlansWords.{length-push, front-length}

-- what is tested isn't left out
pub not-both : (b : Bool) → b ≡ true → b ≡ false → ⊥
not-both b on off = absurd cc

-- where another array changes, and one field before those of states
states-kept : (K : Shape) (st : States) (s : Store) (f : ℕ) (v : CValue) (rows : List (List Object))
    → f < length K.names.vars + 6 → HoldsStates K.tree (layout K) st s
    → HoldsStates K.tree (layout K) st (record { fields = slice_set s.fields f (object_of v); rows = rows })
states-kept K st s f v rows lt h = record {
  chosen = λ p or. set-other s.fields f ((layout K).chosen p) (object_of v) (λ e. absurd (omega (arith, lt, e)))
      ∙ h.chosen p or;
  chosen_small = h.chosen_small;
  kept = λ p or. set-other s.fields f ((layout K).kept p) (object_of v) (λ e. absurd (omega (arith, lt, e)))
      ∙ h.kept p or;
  kept_small = h.kept_small;
  flags = λ x within none.
      let bit = h.flags x within none in record {
        word = bit.word;
        there = set-other s.fields f ((layout K).word x) (object_of v) (λ e. absurd (omega (arith, lt, e))) ∙ bit.there;
        small = bit.small;
        bit_is = bit.bit_is;
      };
}

data-kept : (K : Shape) (vals : List Datum) (s : Store) (f : ℕ) (v : CValue) → length vals ≤ f → ShowsData vals s
    → ShowsData vals (with_field s f v)
data-kept K vals s f v above h =
    λ u lt. set-other s.fields f u (object_of v) (λ e. absurd (omega (arith, lt, above, e))) ∙ h u lt

-- a datum is stored
pub vals-put : (K : Shape) (fault datum ready : ℕ) (m : CMemory) (s : Store) → ShowsMemory K fault datum ready m s
    → (vals : List Datum) (v : ℕ) (a : CValue) → v < length K.names.vars → ShowsData vals (with_field s v a)
    → ShowsMemory K fault datum ready (record m { vals = vals }) (with_field s v a)
vals-put K fault datum ready m s h vals v a lt show = record {
  states = states-kept K m.states s v a s.rows (omega (arith, lt)) h.states;
  vals = show;
  used = λ t. word-kept s.fields v (used_field K) _ _ (λ e. absurd (omega (arith, lt, e))) (h.used t);
  outs = word-kept s.fields v (outs_field K) _ _ (λ e. absurd (omega (arith, lt, e))) h.outs;
  noted = word-kept s.fields v (noted_field K) _ _ (λ e. absurd (omega (arith, lt, e))) h.noted;
  fault_is = word-kept s.fields v (fault_field K) _ _ (λ e. absurd (omega (arith, lt, e))) h.fault_is;
  datum_is = word-kept s.fields v (fault_datum_field K) _ _ (λ e. absurd (omega (arith, lt, e))) h.datum_is;
  ready_is = word-kept s.fields v (ready_field K) _ _ (λ e. absurd (omega (arith, lt, e))) h.ready_is;
  out = h.out;
  note = h.note;
}

-- it is told that a run goes on, or that none does
pub ready-put : (K : Shape) (fault datum ready : ℕ) (m : CMemory) (s : Store) → ShowsMemory K fault datum ready m s
    → length m.vals ≡ length K.names.vars → (a : ℕ) → a < 2 ^ 32
    → ShowsMemory K fault datum a m (with_field s (ready_field K) (unsigned W32 a))
ready-put K fault datum ready m s h long a small =
    let f = ready_field K in
    let o = object_of (unsigned W32 a) in
    record {
      states = states-kept K m.states s f (unsigned W32 a) s.rows (omega arith) h.states;
      vals = data-kept K m.vals s f (unsigned W32 a) (omega (arith, long)) h.vals;
      used = λ t. word-kept s.fields f (used_field K) _ o (λ e. absurd (omega (arith, e))) (h.used t);
      outs = word-kept s.fields f (outs_field K) _ o (λ e. absurd (omega (arith, e))) h.outs;
      noted = word-kept s.fields f (noted_field K) _ o (λ e. absurd (omega (arith, e))) h.noted;
      fault_is = word-kept s.fields f (fault_field K) _ o (λ e. absurd (omega (arith, e))) h.fault_is;
      datum_is = word-kept s.fields f (fault_datum_field K) _ o (λ e. absurd (omega (arith, e))) h.datum_is;
      ready_is = word-put s.fields f _ a h.ready_is small;
      out = h.out;
      note = h.note;
    }

module _ (K : Shape) (x : Option Fault) (m : CMemory) (s : Store) (h : Represents K x m s)
    (long : length m.vals ≡ length K.names.vars) where
  -- a step more is used
  pub used-put : (a : ℕ) → a < 2 ^ 32
      → Represents K x (record m { used = a }) (with_field s (used_field K) (unsigned W32 a))
  used-put a small = record {
    states = states-kept K m.states s (used_field K) (unsigned W32 a) s.rows (omega arith) h.states;
    vals = data-kept K m.vals s (used_field K) (unsigned W32 a) (omega (arith, long)) h.vals;
    used = λ t. word-put s.fields (used_field K) _ a (h.used t) small;
    outs = word-kept s.fields (used_field K) (outs_field K) _ _ (λ e. absurd (omega (arith, e))) h.outs;
    noted = word-kept s.fields (used_field K) (noted_field K) _ _ (λ e. absurd (omega (arith, e))) h.noted;
    fault_is = word-kept s.fields (used_field K) (fault_field K) _ _ (λ e. absurd (omega (arith, e))) h.fault_is;
    datum_is = word-kept s.fields (used_field K) (fault_datum_field K) _ _ (λ e. absurd (omega (arith, e))) h.datum_is;
    ready_is = word-kept s.fields (used_field K) (ready_field K) _ _ (λ e. absurd (omega (arith, e))) h.ready_is;
    out = h.out;
    note = h.note;
  }

  -- a step more is used, where steps aren't counted
  pub used-untold : (a : ℕ) → K.tests.steps ≡ false → Represents K x (record m { used = a }) s
  used-untold a off = record {
    states = h.states;
    vals = h.vals;
    used = λ on. absurd (not-both K.tests.steps on off);
    outs = h.outs;
    noted = h.noted;
    fault_is = h.fault_is;
    datum_is = h.datum_is;
    ready_is = h.ready_is;
    out = h.out;
    note = h.note;
  }

  -- an event is emitted
  pub out-put : (e : ℕ) → length m.outputs < K.outputs → length m.outputs + 1 < 2 ^ 32
      → Represents K x (record m { outputs = m.outputs ++ e ∷ [] })
      (with_field (with_element s out_row (pos (length m.outputs)) (unsigned W32 e)) (outs_field K)
      (unsigned W32 (length m.outputs + 1)))
  out-put e room small = record {
    states = states-kept K m.states s (outs_field K) (unsigned W32 (length m.outputs + 1)) _ (omega arith) h.states;
    vals = data-kept K m.vals s (outs_field K) (unsigned W32 (length m.outputs + 1)) (omega (arith, long)) h.vals;
    used = λ t. word-kept s.fields (outs_field K) (used_field K) _ _ (λ e. absurd (omega (arith, e))) (h.used t);
    outs = subst (λ (n : ℕ). HasWord
        (slice_set s.fields (outs_field K) (object_of (unsigned W32 (length m.outputs + 1)))) (outs_field K) n)
        (sym (length-push m.outputs e)) (word-put s.fields (outs_field K) _ (length m.outputs + 1) h.outs small);
    noted = word-kept s.fields (outs_field K) (noted_field K) _ _ (λ e. absurd (omega (arith, e))) h.noted;
    fault_is = word-kept s.fields (outs_field K) (fault_field K) _ _ (λ e. absurd (omega (arith, e))) h.fault_is;
    datum_is = word-kept s.fields (outs_field K) (fault_datum_field K) _ _ (λ e. absurd (omega (arith, e))) h.datum_is;
    ready_is = word-kept s.fields (outs_field K) (ready_field K) _ _ (λ e. absurd (omega (arith, e))) h.ready_is;
    out = row-pushed s.rows out_row K.outputs e m.outputs h.out room;
    note = row-other s.rows note_row out_row K.notes m.notes _ (λ e. absurd (omega (arith, e))) h.note;
  }

  -- a note is pushed
  pub note-put : (p : ℕ) → length m.notes < K.notes → length m.notes + 1 < 2 ^ 32
      → Represents K x (record m { notes = m.notes ++ p ∷ [] })
      (with_field (with_element s note_row (pos (length m.notes)) (unsigned W32 p)) (noted_field K)
      (unsigned W32 (length m.notes + 1)))
  note-put p room small = record {
    states = states-kept K m.states s (noted_field K) (unsigned W32 (length m.notes + 1)) _ (omega arith) h.states;
    vals = data-kept K m.vals s (noted_field K) (unsigned W32 (length m.notes + 1)) (omega (arith, long)) h.vals;
    used = λ t. word-kept s.fields (noted_field K) (used_field K) _ _ (λ e. absurd (omega (arith, e))) (h.used t);
    outs = word-kept s.fields (noted_field K) (outs_field K) _ _ (λ e. absurd (omega (arith, e))) h.outs;
    noted = subst (λ (n : ℕ). HasWord
        (slice_set s.fields (noted_field K) (object_of (unsigned W32 (length m.notes + 1)))) (noted_field K) n)
        (sym (length-push m.notes p)) (word-put s.fields (noted_field K) _ (length m.notes + 1) h.noted small);
    fault_is = word-kept s.fields (noted_field K) (fault_field K) _ _ (λ e. absurd (omega (arith, e))) h.fault_is;
    datum_is = word-kept s.fields (noted_field K) (fault_datum_field K) _ _ (λ e. absurd (omega (arith, e))) h.datum_is;
    ready_is = word-kept s.fields (noted_field K) (ready_field K) _ _ (λ e. absurd (omega (arith, e))) h.ready_is;
    out = row-other s.rows out_row note_row K.outputs m.outputs _ (λ e. absurd (omega (arith, e))) h.out;
    note = row-pushed s.rows note_row K.notes p m.notes h.note room;
  }

  -- the last note is dropped
  pub note-drop : Represents K x (record m { notes = front m.notes })
      (with_field s (noted_field K) (unsigned W32 (length m.notes - 1)))
  note-drop = record {
    states = states-kept K m.states s (noted_field K) (unsigned W32 (length m.notes - 1)) s.rows (omega arith) h.states;
    vals = data-kept K m.vals s (noted_field K) (unsigned W32 (length m.notes - 1)) (omega (arith, long)) h.vals;
    used = λ t. word-kept s.fields (noted_field K) (used_field K) _ _ (λ e. absurd (omega (arith, e))) (h.used t);
    outs = word-kept s.fields (noted_field K) (outs_field K) _ _ (λ e. absurd (omega (arith, e))) h.outs;
    noted = subst (λ (n : ℕ). HasWord
        (slice_set s.fields (noted_field K) (object_of (unsigned W32 (length m.notes - 1)))) (noted_field K) n)
        (sym (front-length m.notes))
        (word-put s.fields (noted_field K) _ (length m.notes - 1) h.noted (omega (arith, h.noted.small)));
    fault_is = word-kept s.fields (noted_field K) (fault_field K) _ _ (λ e. absurd (omega (arith, e))) h.fault_is;
    datum_is = word-kept s.fields (noted_field K) (fault_datum_field K) _ _ (λ e. absurd (omega (arith, e))) h.datum_is;
    ready_is = word-kept s.fields (noted_field K) (ready_field K) _ _ (λ e. absurd (omega (arith, e))) h.ready_is;
    out = h.out;
    note = row-front s.rows note_row K.notes m.notes h.note;
  }

  -- nothing is emitted yet
  pub out-clear : Represents K x (record m { outputs = [] }) (with_field s (outs_field K) (unsigned W32 0))
  out-clear = record {
    states = states-kept K m.states s (outs_field K) (unsigned W32 0) s.rows (omega arith) h.states;
    vals = data-kept K m.vals s (outs_field K) (unsigned W32 0) (omega (arith, long)) h.vals;
    used = λ t. word-kept s.fields (outs_field K) (used_field K) _ _ (λ e. absurd (omega (arith, e))) (h.used t);
    outs = word-put s.fields (outs_field K) _ 0 h.outs (omega arith);
    noted = word-kept s.fields (outs_field K) (noted_field K) _ _ (λ e. absurd (omega (arith, e))) h.noted;
    fault_is = word-kept s.fields (outs_field K) (fault_field K) _ _ (λ e. absurd (omega (arith, e))) h.fault_is;
    datum_is = word-kept s.fields (outs_field K) (fault_datum_field K) _ _ (λ e. absurd (omega (arith, e))) h.datum_is;
    ready_is = word-kept s.fields (outs_field K) (ready_field K) _ _ (λ e. absurd (omega (arith, e))) h.ready_is;
    out = row-empty s.rows out_row K.outputs m.outputs h.out;
    note = h.note;
  }

  -- there are no notes
  pub note-clear : Represents K x (record m { notes = [] }) (with_field s (noted_field K) (unsigned W32 0))
  note-clear = record {
    states = states-kept K m.states s (noted_field K) (unsigned W32 0) s.rows (omega arith) h.states;
    vals = data-kept K m.vals s (noted_field K) (unsigned W32 0) (omega (arith, long)) h.vals;
    used = λ t. word-kept s.fields (noted_field K) (used_field K) _ _ (λ e. absurd (omega (arith, e))) (h.used t);
    outs = word-kept s.fields (noted_field K) (outs_field K) _ _ (λ e. absurd (omega (arith, e))) h.outs;
    noted = word-put s.fields (noted_field K) _ 0 h.noted (omega arith);
    fault_is = word-kept s.fields (noted_field K) (fault_field K) _ _ (λ e. absurd (omega (arith, e))) h.fault_is;
    datum_is = word-kept s.fields (noted_field K) (fault_datum_field K) _ _ (λ e. absurd (omega (arith, e))) h.datum_is;
    ready_is = word-kept s.fields (noted_field K) (ready_field K) _ _ (λ e. absurd (omega (arith, e))) h.ready_is;
    out = h.out;
    note = row-empty s.rows note_row K.notes m.notes h.note;
  }

  -- a field of states changes
  pub states-put : (st : States) (f : ℕ) (a : CValue) → length K.names.vars + 6 ≤ f
      → HoldsStates K.tree (layout K) st (with_field s f a)
      → Represents K x (record m { states = st }) (with_field s f a)
  states-put st f a above holds = record {
    states = holds;
    vals = data-kept K m.vals s f a (omega (arith, long, above)) h.vals;
    used = λ t. word-kept s.fields f (used_field K) _ _ (λ e. absurd (omega (arith, above, e))) (h.used t);
    outs = word-kept s.fields f (outs_field K) _ _ (λ e. absurd (omega (arith, above, e))) h.outs;
    noted = word-kept s.fields f (noted_field K) _ _ (λ e. absurd (omega (arith, above, e))) h.noted;
    fault_is = word-kept s.fields f (fault_field K) _ _ (λ e. absurd (omega (arith, above, e))) h.fault_is;
    datum_is = word-kept s.fields f (fault_datum_field K) _ _ (λ e. absurd (omega (arith, above, e))) h.datum_is;
    ready_is = word-kept s.fields f (ready_field K) _ _ (λ e. absurd (omega (arith, above, e))) h.ready_is;
    out = h.out;
    note = h.note;
  }

  -- a fault is told, and its datum, and the run is over
  pub fault-told : (y : Fault) → fault_number (Some y) < 2 ^ 32 → fault_datum (Some y) < 2 ^ 32
      → Represents K (Some y) m (with_fault K s (fault_number (Some y)) (fault_datum (Some y)))
  fault-told y small_number small_datum =
      let f = fault_field K in
      let g = fault_datum_field K in
      let r = ready_field K in
      let a = unsigned W32 (fault_number (Some y)) in
      let b = unsigned W32 (fault_datum (Some y)) in
      let zero = unsigned W32 0 in
      let one = with_field s f a in
      let two = with_field one g b in
      let other : (i : ℕ) → i ≢ f → i ≢ g → i ≢ r → (n : ℕ) → HasWord s.fields i n
      → HasWord (with_field two r zero).fields i n =
      λ i nf ng nr n h. word-kept two.fields r i n _ nr (word-kept one.fields g i n _ ng (word-kept s.fields f i n _ nf h))
      in
      record {
        states = states-kept K m.states two r zero s.rows (omega arith)
            (states-kept K m.states one g b s.rows (omega arith)
            (states-kept K m.states s f a s.rows (omega arith) h.states));
        vals = data-kept K m.vals two r zero (omega (arith, long))
            (data-kept K m.vals one g b (omega (arith, long))
            (data-kept K m.vals s f a (omega (arith, long)) h.vals));
        used = λ t. other (used_field K) (λ e. absurd (omega (arith, e))) (λ e. absurd (omega (arith, e)))
            (λ e. absurd (omega (arith, e))) m.used (h.used t);
        outs = other (outs_field K) (λ e. absurd (omega (arith, e))) (λ e. absurd (omega (arith, e)))
            (λ e. absurd (omega (arith, e))) (length m.outputs) h.outs;
        noted = other (noted_field K) (λ e. absurd (omega (arith, e))) (λ e. absurd (omega (arith, e)))
            (λ e. absurd (omega (arith, e))) (length m.notes) h.noted;
        fault_is = word-kept two.fields r f _ _ (λ e. absurd (omega (arith, e)))
            (word-kept one.fields g f _ _ (λ e. absurd (omega (arith, e)))
            (word-put s.fields f _ (fault_number (Some y)) h.fault_is small_number));
        datum_is = word-kept two.fields r g _ _ (λ e. absurd (omega (arith, e)))
            (word-put one.fields g _ (fault_datum (Some y))
            (word-kept s.fields f g _ _ (λ e. absurd (omega (arith, e))) h.datum_is) small_datum);
        ready_is = word-put two.fields r _ 0
            (word-kept one.fields g r _ _ (λ e. absurd (omega (arith, e)))
            (word-kept s.fields f r _ _ (λ e. absurd (omega (arith, e))) h.ready_is)) (omega arith);
        out = h.out;
        note = h.note;
      }
