-- The notes of a search with one transition more, and of frames that are put on others.
use Rattle.std.proofs.Common.{◌≡◌, ℕ, ◌≤◌, List, [], ◌∷◌, ◌++◌, length, Option, Some, None, refl, ap, ◌∙◌, arith}
use Rattle.std.proofs.Common.{append_assoc}
use Rattle.std.proofs.lemmas.List.{append-nil}
use Rattle.actions.specs.Exprs.{Stmt}
use Rattle.checked_chart.specs.Chart.{life_of}
use Rattle.checked_chart.specs.declared.parts.ListKind.{ListKind}
use Rattle.checked_chart.specs.declared.parts.ListKind.TheVariants.{Outer, Inner, Default}
use Rattle.code_language.specs.Machine.{Frame}
use Rattle.code_language.specs.Reach.{with_note, pending}
use Rattle.code_language.proofs.Notes.{pending_at, pending_past}
use Rattle.chart_code.specs.StateProcedures.{state_of_life}
use Rattle.chart_code.specs.Kinds.{NotesBy}
use Rattle.chart_code.specs.Compiled.{PartBy}
use Rattle.chart_code.specs.SearchFrames.{onto, notes_of}

-- ---- one transition more

-- the note of the last transition's action
pub one_note : (A : ℕ → List Stmt → Type 0) (ss : List Stmt) (tag : Option ℕ) → PartBy A ss tag
    → NotesBy A (with_note tag []) (ss ∷ [])
one_note A [] None h = tt
one_note A [] (Some q) h = absurd h
one_note A (s ∷ ss) None h = absurd h
one_note A (s ∷ ss) (Some q) h = (h, tt)

-- the notes with one transition more
pub more_notes : (A : ℕ → List Stmt → Type 0) (ss : List Stmt) (tag : Option ℕ) (ps : List ℕ)
    (actions : List (List Stmt)) → PartBy A ss tag → NotesBy A ps actions → NotesBy A (with_note tag ps) (ss ∷ actions)
more_notes A [] None [] actions h n = n
more_notes A [] None (q ∷ ps) actions h n = n
more_notes A [] (Some q) ps actions h n = absurd h
more_notes A (s ∷ ss) None ps actions h n = absurd h
more_notes A (s ∷ ss) (Some q) ps actions h n = (h, n)

-- ---- frames that are put on others

-- above the frames nothing is pending
pending_none : (i : ℕ) (fs : List Frame) → length fs ≤ i → pending i fs ≡ []
unfolding pending
pending_none i [] h = refl
pending_none i (f ∷ fs) h = pending_past i f fs h

-- frames that are put on others, with one on top, add their notes in order
put_on : (f : Frame) (gs fs : List Frame) (i : ℕ) (ps : List ℕ) → i ≤ length fs → pending i fs ≡ ps
    → pending i (f ∷ onto gs fs) ≡ ps ++ notes_of gs (with_note f.note [])
put_on f [] fs i ps h e = pending_at i f fs h ∙ ap (λ l. l ++ with_note f.note []) e
put_on f (g ∷ gs) fs i ps h e =
    put_on f gs (g ∷ fs) i (ps ++ with_note g.note []) (omega arith)
    (pending_at i g fs h ∙ ap (λ l. l ++ with_note g.note []) e) ∙ regroup ps g.note (notes_of gs (with_note f.note []))
  where
    -- a note between two lists of notes
    regroup : (xs : List ℕ) (n : Option ℕ) (ys : List ℕ) → (xs ++ with_note n []) ++ ys ≡ xs ++ with_note n ys
    regroup xs None ys = ap (λ l. l ++ ys) (append-nil xs)
    regroup xs (Some q) ys = append_assoc xs (q ∷ []) ys

-- so these are the notes above the frames below
pub pending_onto : (f : Frame) (gs fs : List Frame)
    → pending (length fs) (f ∷ onto gs fs) ≡ notes_of gs (with_note f.note [])
pending_onto f gs fs = put_on f gs fs (length fs) [] (omega arith) (pending_none (length fs) fs (omega arith))

-- the state of the life of a list
pub home_is : (s : ℕ) (kind : ListKind) → state_of_life (life_of s kind) ≡ s
home_is s Outer = refl
home_is s Inner = refl
home_is s Default = refl
