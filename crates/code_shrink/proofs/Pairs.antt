-- Frames of code beside frames of its copy, and what stands at a place.
use Rattle.std.proofs.Common.{◌≡◌, ℕ, zero, suc, ◌+◌, Bool, true, false, List, [], ◌∷◌, length, drop, Option, Some}
use Rattle.std.proofs.Common.{None, refl, sym, ap, subst, ◌∙◌, arith}
use Rattle.std.specs.Prelude.{slice_get, nat_lt, if◌then◌else◌}
use Rattle.actions.specs.World.{World}
use Rattle.actions.specs.Work.{Now}
use Rattle.code_language.specs.Code.{Procedures, instructions, fetch}
use Rattle.code_language.specs.Instrs.{Instr}
use Rattle.code_language.specs.Machine.{Program, Frame, machine, noted, or_this, now_after, act, step}

-- ---- frames

-- the frame of the copy: another procedure with its place, and its note and base
abbrev pub twin : Frame → ℕ → ℕ → Option ℕ → ℕ → Frame
twin f p i tag base = record f { proc = p; place = i; note = tag; base = base }

-- Frames of the code and of the copy, pair by pair, each with what is current there: of both G holds, which the frame
-- and the procedure, the place and the note of its twin determine.
pub data Paired (G : Now → Frame → ℕ → ℕ → Option ℕ → Type 0) : Now → List Frame → List Frame → Type 0 where
  End : {now : Now} → Paired G now [] []
  Both : {now : Now} {f : Frame} {p i base : ℕ} {tag : Option ℕ} {fs fs' : List Frame} → G now f p i tag
      → base ≡ f.base → Paired G (now_after f.saved now) fs fs'
      → Paired G now (f ∷ fs) (twin f p i tag base ∷ fs')

-- both sides have as many frames
pub same_length : {G : Now → Frame → ℕ → ℕ → Option ℕ → Type 0} {now : Now} {fs fs' : List Frame}
    → Paired G now fs fs' → length fs' ≡ length fs
same_length End = refl
same_length (Both g same under) = ap suc (same_length under)

-- pairs stay paired by what stays of each
pub paired_later : {G H : Now → Frame → ℕ → ℕ → Option ℕ → Type 0} {now : Now} {fs fs' : List Frame}
    → ((now : Now) (f : Frame) (p i : ℕ) (tag : Option ℕ) → G now f p i tag → H now f p i tag)
    → Paired G now fs fs' → Paired H now fs fs'
paired_later t End = End
paired_later t (Both {now = now} {f = f} {p = p} {i = i} {tag = tag} g same under) =
    Both (t now f p i tag g) same (paired_later t under)

-- ---- notes

-- both frames have a note or none; of the procedures that are noted N holds
pub data Notes (N : ℕ → ℕ → Type 0) : Option ℕ → Option ℕ → Type 0 where
  Neither : Notes N None None
  Each : {p p' : ℕ} → N p p' → Notes N (Some p) (Some p')

-- both sides find a note in frames of one number, or none
pub data Found (N : ℕ → ℕ → Type 0) : Option (ℕ × ℕ) → Option (ℕ × ℕ) → Type 0 where
  Nowhere : Found N None None
  There : {i p p' : ℕ} → N p p' → Found N (Some (i, p)) (Some (i, p'))

module _ {N : ℕ → ℕ → Type 0} where
  -- what was found before, else the note of this frame
  or_found : {o o' : Option (ℕ × ℕ)} (i : ℕ) {tag tag' : Option ℕ} → Found N o o' → Notes N tag tag'
      → Found N (or_this o i tag) (or_this o' i tag')
  or_found i Nowhere Neither = Nowhere
  or_found i Nowhere (Each n) = There n
  or_found i (There n) t = There n

  -- either of two
  if_found : (b : Bool) {o o' : Option (ℕ × ℕ)} → Found N o o'
      → Found N (if b then None else o) (if b then None else o')
  if_found true h = Nowhere
  if_found false h = h

  -- both sides find alike
  pub found_alike : {G : Now → Frame → ℕ → ℕ → Option ℕ → Type 0} {now : Now} {fs fs' : List Frame}
      → ((now : Now) (f : Frame) (p i : ℕ) (tag : Option ℕ) → G now f p i tag → Notes N f.note tag) → (k : ℕ)
      → Paired G now fs fs' → Found N (noted k fs) (noted k fs')
  unfolding noted
  found_alike t k End = Nowhere
  found_alike t k (Both {now = now} {f = f} {p = p} {i = i} {tag = tag} {fs = fs} {fs' = fs'} g same under) =
      subst (λ l. Found N (if nat_lt (length fs) k then None else or_this (noted k fs) (length fs) f.note)
      (if nat_lt l k then None else or_this (noted k fs') l tag)) (sym (same_length under))
      (if_found (nat_lt (length fs) k) (or_found (length fs) (found_alike t k under) (t now f p i tag g)))

-- ---- what stands at a place

-- the first of these instructions, if there is one
abbrev pub head_of : List Instr → Option Instr
head_of [] = None
head_of (x ∷ rest) = Some x

-- at a place stands the first instruction from there on
at_place : (is : List Instr) (i : ℕ) → slice_get is i ≡ head_of (drop i is)
at_place [] zero = refl
at_place [] (suc i) = refl
at_place (x ∷ is) zero = refl
at_place (x ∷ is) (suc i) = at_place is i

-- the same of a procedure
pub stands : (k : Procedures) (p i : ℕ) (xs : List Instr) → drop i (instructions k p) ≡ xs → fetch k p i ≡ head_of xs
unfolding fetch
stands k p i xs e = at_place (instructions k p) i ∙ ap head_of e

-- so this is what acts there
pub acts_at : (C : Program) (w : World) (now : Now) (r : ℕ) (f : Frame) (fs : List Frame) {xs : List Instr}
    → drop f.place (instructions C.procedures f.proc) ≡ xs
    → step C (machine w now r (f ∷ fs)) ≡ act C (head_of xs) w now r f fs
acts_at C w now r f fs {xs = xs} e = ap (λ o. act C o w now r f fs) (stands C.procedures f.proc f.place xs e)
