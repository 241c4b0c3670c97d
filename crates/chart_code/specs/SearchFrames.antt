-- Where a search of a list leads: the frames that it has put on others, and what it found, whatever its procedures of firings
-- and of the end do.
use Rattle.std.specs.Prelude.{◌≡◌, ℕ, suc, true, List, [], ◌∷◌, length, Option, Some, None}
use Rattle.active_config.specs.Marks.{IsConsistent}
use Rattle.actions.specs.Exprs.{Stmt}
use Rattle.actions.specs.World.{World, lives}
use Rattle.actions.specs.Work.{Now}
use Rattle.checked_chart.specs.Chart.{Trans, life_of}
use Rattle.sos_rules.specs.Parts.{Found, Fire, DeadEnd, No, Stop, Parts}
use Rattle.code_language.specs.Machine.{Program, Frame, CodeState, machine, fresh}
use Rattle.code_language.specs.Reach.{Reaches, Aim, MeetsAim, with_note}
use Rattle.chart_code.specs.Kinds.{running, NotesBy}
use Rattle.chart_code.specs.ListProcedures.{Search}
use Rattle.chart_code.specs.SearchParts.{Meaning}

-- frames put onto others, the first of the list lowest
abbrev pub onto : List Frame → List Frame → List Frame
onto [] fs = fs
onto (f ∷ gs) fs = onto gs (f ∷ fs)

-- the notes of frames, from the lowest on
abbrev pub notes_of : List Frame → List ℕ → List ℕ
notes_of [] last = last
notes_of (f ∷ gs) last = with_note f.note (notes_of gs last)

-- the frame that searches: its procedure, note and base, what is current, and the frames below
pub record Searcher : Type 0 where
  pub proc : ℕ
  pub tag : Option ℕ
  pub base : ℕ
  pub now : Now
  pub below : List Frame

-- the frame that searches, at a place
abbrev pub searching : Search → Searcher → ℕ → Frame
searching S R i = running R.proc i R.tag R.base S.state None

-- it is to fire: at which place it waits, the frames between, and the note of the firing frame
pub record FiresFrom (C : Program) (P : Meaning) (S : Search) (R : Searcher) (w : World) (d : ℕ)
    (actions : List (List Stmt)) : Type 0 where
  pub result : ℕ
  pub place : ℕ
  pub between : List Frame
  pub tag : Option ℕ
  pub alive : lives C.tree (life_of S.state S.kind) w.marks ≡ true
  pub leads : P.dest d
  pub notes : NotesBy P.action (notes_of between (with_note tag [])) actions
  pub back : (v : World) (r : ℕ)
      → Reaches C (machine v R.now r (onto between (searching S R place ∷ R.below)))
      (machine v R.now (S.result d) R.below)

-- it came to an empty junction: at which place it waits, and the frames between
pub record EndsFrom (C : Program) (S : Search) (R : Searcher) (w : World) : Type 0 where
  pub result : ℕ
  pub place : ℕ
  pub between : List Frame
  pub alive : lives C.tree (life_of S.state S.kind) w.marks ≡ true
  pub back : (v : World) (r : ℕ)
      → Reaches C (machine v R.now (suc r) (onto between (searching S R place ∷ R.below)))
      (machine v R.now (suc r) R.below)

-- where there is no end procedure it comes to none
abbrev pub EndFactsFrom : Program → Option ℕ → Search → Searcher → World → Type 0
EndFactsFrom C None S R w = ⊥
EndFactsFrom C (Some e) S R w = EndsFrom C S R w

-- where the search stands then
abbrev pub end_from : (C : Program) (end : Option ℕ) (S : Search) (R : Searcher) (w : World) → EndFactsFrom C end S R w
    → CodeState
end_from C None S R w i = absurd i
end_from C (Some e) S R w i =
    machine w R.now i.result (fresh e None R.base S.state None ∷ onto i.between (searching S R i.place ∷ R.below))

-- what is known of what it found
abbrev pub FactsFrom : Program → Meaning → Search → Searcher → Found → World → Type 0
FactsFrom C P S R No w = lives C.tree (life_of S.state S.kind) w.marks ≡ true
FactsFrom C P S R Stop w = Unit {0}
FactsFrom C P S R (Fire d actions) w = FiresFrom C P S R w d actions
FactsFrom C P S R DeadEnd w = EndFactsFrom C S.end S R w

-- where the search stands then
abbrev pub found_from : (C : Program) (P : Meaning) (S : Search) (R : Searcher) (f : Found) (w : World)
    → FactsFrom C P S R f w → CodeState
found_from C P S R No w i = machine w R.now 0 R.below
found_from C P S R Stop w i = machine w R.now 1 R.below
found_from C P S R (Fire d actions) w i =
    machine w R.now i.result (fresh (S.fire d) i.tag R.base S.state None ∷ onto i.between
    (searching S R i.place ∷ R.below))
found_from C P S R DeadEnd w i = end_from C S.end S R w i

-- where the search leads for each answer
abbrev pub finds_from : Program → Meaning → Search → Searcher → Aim Found
finds_from C P S R = record { Facts = FactsFrom C P S R; stands = found_from C P S R }

-- a new frame of the list's procedure, with the search's state as its home and no saved event, in a consistent world in which
-- the life of the list holds: the code does the list's search, where the work of the rules is that of p, and leads where that ends
pub record SearchesFrom (C : Program) (P : Meaning) (S : Search) (p : Parts) (proc : ℕ) (list : List Trans) : Type 0 where
  pub by : (w : World) → IsConsistent C.tree w.marks → lives C.tree (life_of S.state S.kind) w.marks ≡ true
      → (now : Now) (r : ℕ) (tag : Option ℕ) (base : ℕ) (fs : List Frame)
      → MeetsAim C (machine w now r (fresh proc tag base S.state None ∷ fs))
      (finds_from C P S (record { proc = proc; tag = tag; base = length fs; now = now; below = fs }))
      (p.search (life_of S.state S.kind) list now w)
