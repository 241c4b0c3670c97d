-- Where the function of a procedure stands: after a change of states, where a procedure is called, after a call, and
-- between two turns of `Play`.
use Rattle.std.proofs.Common.{◌≡◌, ◌≤◌, ◌<◌, ℕ, suc, ◌+◌, ◌++◌, List, [], ◌∷◌, length, drop, Option, Some, None}
use Rattle.std.proofs.Common.{Bool, true, false}
use Rattle.std.proofs.Common.{refl, sym, ap, ◌∙◌, subst, arith, append-nil, length-append}
use Rattle.std.proofs.lemmas.List.{drop_all, drop-append-le}
use Rattle.std.specs.Prelude.{if◌then◌else◌}
use Rattle.active_config.specs.Tree.{Tree, state_count, comp_of, is_or}
use Rattle.active_config.specs.Marks.{is_bare, can_mark, with_mark}
use Rattle.active_config.specs.declared.comp.Comp.{Comp}
use Rattle.active_config.specs.declared.comp.Comp.TheVariants.{Leaf, Or, And}
use Rattle.active_config.proofs.MarksLemmas.{marked, cleared, remembered}
use Rattle.actions.specs.declared.event.Event.{Event}
use Rattle.actions.specs.World.{World}
use Rattle.actions.specs.Changes.{mark_in, clear_in, keep_in, set_mark}
use Rattle.actions.specs.Work.{Now}
use Rattle.code_language.specs.Code.{Procedures, instructions}
use Rattle.code_language.specs.Instrs.{Instr}
use Rattle.code_language.specs.Instrs as i
use Rattle.code_language.specs.Machine.{Frame, later, fresh, next}
use Rattle.code_language.specs.Reach.{with_note, pending}
use Rattle.code_language.proofs.Notes.{pending_at, pending_past}
use Rattle.code_language.proofs.Tails.{onward}
use Rattle.c_functions.specs.States.{Numbers, Shows, c_mark, c_clear, c_keep}
use Rattle.c_functions.specs.Statements.{CMemory, Locals}
use Rattle.c_functions.specs.Meaning.{with_states, begins}
use Rattle.c_functions.specs.Written.{IsOrChild}
use Rattle.c_functions.specs.Runs.{Stands, IsAt}
use Rattle.c_functions.proofs.StatesChanges.{mark_shows, clear_shows, keep_shows}
use Rattle.c_functions.proofs.RunsStatements.{same_pending, later_at}
use Rattle.c_functions.proofs.RunsStatements.{later_zero, dropped, within_some, moved}

module _ (t : Tree) (n : ℕ → ℕ) (num : Numbers t n) (same : length t.comps ≡ state_count t) where
  -- ---- changes of states

  pub mark_stands : (s : ℕ) (m : CMemory) (w : World) → s < state_count t → Stands t n m w
      → Stands t n (with_states (c_mark t n s m.states) m) (mark_in t s w)
  unfolding mark_in
  mark_stands s m w lt h = at (can_mark t s w.marks) refl
      (mark_shows t n num same m.states w.marks h.states h.consistent s lt)
    where
      at : (d : Bool) → can_mark t s w.marks ≡ d → Shows t n (c_mark t n s m.states)
          (if d then with_mark s true w.marks else w.marks)
          → Stands t n (with_states (c_mark t n s m.states) m) (if d then set_mark s true w else w)
      at true e sh =
          record {
            states = sh;
            consistent = marked t w.marks h.consistent s e;
            vals = h.vals;
            outputs = h.outputs;
            used = h.used;
          }
      at false e sh =
          record { states = sh; consistent = h.consistent; vals = h.vals; outputs = h.outputs; used = h.used }

  pub clear_stands : (s : ℕ) (m : CMemory) (w : World) → s < state_count t → Stands t n m w
      → Stands t n (with_states (c_clear t n s m.states) m) (clear_in t s w)
  unfolding clear_in
  clear_stands s m w lt h = at (is_bare t s w.marks) refl
      (clear_shows t n num same m.states w.marks h.states h.consistent s lt)
    where
      at : (d : Bool) → is_bare t s w.marks ≡ d → Shows t n (c_clear t n s m.states)
          (if d then with_mark s false w.marks else w.marks)
          → Stands t n (with_states (c_clear t n s m.states) m) (if d then set_mark s false w else w)
      at true e sh =
          record {
            states = sh;
            consistent = cleared t w.marks h.consistent s e;
            vals = h.vals;
            outputs = h.outputs;
            used = h.used;
          }
      at false e sh =
          record { states = sh; consistent = h.consistent; vals = h.vals; outputs = h.outputs; used = h.used }

  or_of : (x : Comp) → is_or x ≡ true → x ≡ Or
  or_of Leaf h = absurd cc
  or_of Or h = refl
  or_of And h = absurd cc

  pub keep_stands : (s : ℕ) (m : CMemory) (w : World) → IsOrChild t s → Stands t n m w
      → Stands t n (with_states (c_keep t n s m.states) m) (keep_in t s w)
  unfolding keep_in
  keep_stands s m w o h = record {
    states = keep_shows t n num same m.states w.marks h.states h.consistent s o.parent o.up o.or;
    consistent = remembered t w.marks h.consistent s o.parent o.up (or_of (comp_of t o.parent) o.or);
    vals = h.vals;
    outputs = h.outputs;
    used = h.used;
  }

module _ (t : Tree) (n : ℕ → ℕ) (k : Procedures) (note : Option ℕ) (saved : Option Event) (fs : List Frame) where
  -- ---- calls

  -- the frame of a procedure that is called, with its note
  pub called : (p : ℕ) (tag : Option ℕ) (x : Instr) (rest : List Instr) (m m' : CMemory) (l : Locals) (w w' : World)
      (r : ℕ) (f : Frame)
      → IsAt t n k note saved (x ∷ rest) m l w r f fs → Stands t n m' w' → m'.notes ≡ m.notes ++ with_note tag []
      → IsAt t n k tag None (instructions k p) m' (begins l.base l.home l.result) w' l.result
      (fresh p tag f.base f.home None) (next f ∷ fs)
  called p tag x rest m m' l w w' r f h st e = record {
    code = refl;
    stands = st;
    notes = notes;
    note_is = refl;
    saved_is = refl;
    home = h.home;
    result = refl;
    within = omega (arith, h.within);
    base = subst (λ y. l.base ≤ length y) (sym e) (at_most (with_note tag []));
    above_base = over;
    cursor = omega arith;
    above_cursor = ap (λ y. drop y m'.notes) (later_zero l.base) ∙ over
        ∙ sym (ap (λ y. pending y (fresh p tag f.base f.home None ∷ next f ∷ fs)) (later_zero (suc f.base)));
  }
    where
      over : drop l.base m'.notes ≡ pending (suc f.base) (fresh p tag f.base f.home None ∷ next f ∷ fs)
      over = ap (drop l.base) e ∙ drop-append-le l.base m.notes (with_note tag []) h.base
          ∙ ap (λ y. y ++ with_note tag []) (h.above_base ∙ same_pending (suc f.base) f (next f) fs refl)
          ∙ sym (pending_at (suc f.base) (fresh p tag f.base f.home None) (next f ∷ fs) (omega (arith, h.within)))

      notes : m'.notes ≡ pending 0 (fresh p tag f.base f.home None ∷ next f ∷ fs)
      notes = e ∙ ap (λ y. y ++ with_note tag []) (h.notes ∙ same_pending 0 f (next f) fs refl)
          ∙ sym (pending_at 0 (fresh p tag f.base f.home None) (next f ∷ fs) (omega arith))

      at_most : (ys : List ℕ) → l.base ≤ length (m.notes ++ ys)
      at_most ys = omega (arith, h.base, length-append m.notes ys)

  -- the function at the next place, with the result of a call
  pub resulted : (x : Instr) (rest : List Instr) (m v : CMemory) (l : Locals) (w u : World) (r y : ℕ) (f : Frame)
      → IsAt t n k note saved (x ∷ rest) m l w r f fs → Stands t n v u → v.notes ≡ m.notes
      → IsAt t n k note saved rest v (record l { result = y }) u y (next f) fs
  resulted x rest m v l w u r y f h st e =
      let at = moved t n k note saved (x ∷ rest) rest m l w r f fs h (f.place + 1) v u
      (onward (instructions k f.proc) f.place h.code) st e in
      record {
        code = at.code;
        stands = at.stands;
        notes = at.notes;
        note_is = at.note_is;
        saved_is = at.saved_is;
        home = at.home;
        result = refl;
        within = at.within;
        base = at.base;
        above_base = at.above_base;
        cursor = at.cursor;
        above_cursor = at.above_cursor;
      }

  -- the notes below are those at the place
  pub same_notes : (m : CMemory) (x : Instr) (rest : List Instr) (l : Locals) (w : World) (r : ℕ) (f : Frame)
      → IsAt t n k note saved (x ∷ rest) m l w r f fs
      → pending 0 (next f ∷ fs) ≡ m.notes
  same_notes m x rest l w r f h = sym (h.notes ∙ same_pending 0 f (next f) fs refl)

  -- ---- sends

  -- the frame of a procedure to which an event is sent
  pub sent_at : (now : Now) (e p : ℕ) (x : Instr) (rest : List Instr) (m v : CMemory) (l : Locals) (w u : World)
      (r : ℕ) (f : Frame)
      → IsAt t n k note saved (x ∷ rest) m l w r f fs → Stands t n v u → v.notes ≡ m.notes
      → IsAt t n k None (Some now.event) (instructions k p) v (begins (length v.notes) 0 l.result) u l.result
      (fresh p None (suc (length fs)) 0 (Some now.event)) (next f ∷ fs)
  sent_at now e p x rest m v l w u r f h st same_as = record {
    code = refl;
    stands = st;
    notes = notes;
    note_is = refl;
    saved_is = refl;
    home = refl;
    result = refl;
    within = omega arith;
    base = omega arith;
    above_base = over;
    cursor = omega arith;
    above_cursor = ap (λ y. drop y v.notes) (later_zero (length v.notes)) ∙ over
        ∙ sym (ap (λ y. pending y (fresh p None (suc (length fs)) 0 (Some now.event) ∷ next f ∷ fs))
        (later_zero (suc (suc (length fs)))));
  }
    where
      over : drop (length v.notes) v.notes ≡ pending (suc (suc (length fs)))
          (fresh p None (suc (length fs)) 0 (Some now.event) ∷ next f ∷ fs)
      over = drop_all (length v.notes) v.notes (omega arith)
          ∙ sym (pending_past (suc (suc (length fs))) (fresh p None (suc (length fs)) 0 (Some now.event))
          (next f ∷ fs) (omega arith))

      notes : v.notes ≡ pending 0 (fresh p None (suc (length fs)) 0 (Some now.event) ∷ next f ∷ fs)
      notes = same_as ∙ sym (same_notes m x rest l w r f h) ∙ sym (append-nil (pending 0 (next f ∷ fs)))
          ∙ sym (pending_at 0 (fresh p None (suc (length fs)) 0 (Some now.event)) (next f ∷ fs) (omega arith))

  -- ---- `Play`

  -- the frame of a noted procedure
  pub played_at : (p j : ℕ) (x : Instr) (rest : List Instr) (m v : CMemory) (l : Locals) (w u : World) (r : ℕ)
      (f : Frame)
      → IsAt t n k note saved (x ∷ rest) m l w r f fs → Stands t n v u → v.notes ≡ m.notes
      → IsAt t n k None None (instructions k p) v (begins (length v.notes) l.home l.result) u l.result
      (fresh p None (suc (length fs)) f.home None) (record f { cursor = j } ∷ fs)
  played_at p j x rest m v l w u r f h st same_as = record {
    code = refl;
    stands = st;
    notes = notes;
    note_is = refl;
    saved_is = refl;
    home = h.home;
    result = refl;
    within = omega arith;
    base = omega arith;
    above_base = over;
    cursor = omega arith;
    above_cursor = ap (λ y. drop y v.notes) (later_zero (length v.notes)) ∙ over
        ∙ sym (ap (λ y. pending y (fresh p None (suc (length fs)) f.home None ∷ record f { cursor = j } ∷ fs))
        (later_zero (suc (suc (length fs)))));
  }
    where
      over : drop (length v.notes) v.notes ≡ pending (suc (suc (length fs)))
          (fresh p None (suc (length fs)) f.home None ∷ record f { cursor = j } ∷ fs)
      over = drop_all (length v.notes) v.notes (omega arith)
          ∙ sym (pending_past (suc (suc (length fs))) (fresh p None (suc (length fs)) f.home None)
          (record f { cursor = j } ∷ fs) (omega arith))

      notes : v.notes ≡ pending 0 (fresh p None (suc (length fs)) f.home None ∷ record f { cursor = j } ∷ fs)
      notes = same_as ∙ h.notes ∙ same_pending 0 f (record f { cursor = j }) fs refl
          ∙ sym (append-nil (pending 0 (record f { cursor = j } ∷ fs)))
          ∙ sym (pending_at 0 (fresh p None (suc (length fs)) f.home None) (record f { cursor = j } ∷ fs)
          (omega arith))

  -- the function before the next turn
  pub turned_at : (q p : ℕ) (rest : List Instr) (m o : CMemory) (l : Locals) (w z : World) (r y : ℕ) (f : Frame)
      → IsAt t n k note saved (i.Play ∷ rest) m l w r f fs → Stands t n o z → o.notes ≡ m.notes
      → l.base ≤ l.cursor → suc f.base ≤ q → drop l.cursor m.notes ≡ p ∷ pending (suc q) (f ∷ fs)
      → IsAt t n k note saved (i.Play ∷ rest) o (record l { cursor = suc l.cursor; result = y }) z y
      (record f { cursor = suc q }) fs
  turned_at q p rest m o l w z r y f h so e le ge found = record {
    code = h.code;
    stands = so;
    notes = e ∙ h.notes ∙ same_pending 0 f (record f { cursor = suc q }) fs refl;
    note_is = h.note_is;
    saved_is = h.saved_is;
    home = h.home;
    result = refl;
    within = h.within;
    base = subst (λ x. l.base ≤ length x) (sym e) h.base;
    above_base = ap (drop l.base) e ∙ h.above_base ∙ same_pending (suc f.base) f
        (record f { cursor = suc q }) fs refl;
    cursor = subst (λ x. suc l.cursor ≤ length x) (sym e)
        (within_some m.notes l.cursor p (pending (suc q) (f ∷ fs)) found);
    above_cursor = ap (drop (later (suc l.cursor) l.base)) e ∙ ap (λ x. drop x m.notes)
        (later_at (suc l.cursor) l.base (omega (arith, le)))
        ∙ dropped m.notes l.cursor p (pending (suc q) (f ∷ fs)) found ∙ same_pending (suc q) f
        (record f { cursor = suc q }) fs refl
        ∙ sym (ap (λ x. pending x (record f { cursor = suc q } ∷ fs))
        (later_at (suc q) (suc f.base) (omega (arith, ge))));
  }
