-- The notes that Play finds, one after another.
use Rattle.std.proofs.Common.{◌≡◌, ℕ, suc, ◌<◌, ◌≤◌, Bool, true, false, List, [], ◌∷◌, ◌++◌, length, Option, Some, None}
use Rattle.std.proofs.Common.{refl, sym, ap, ◌∙◌, arith}
use Rattle.std.specs.Prelude.{nat_lt, if◌then◌else◌}
use Rattle.std.proofs.lemmas.Bool.{lt-ltb, le-ltb, ltb-true, ltb-false}
use Rattle.code_language.specs.Machine.{Frame, noted, or_this}
use Rattle.code_language.specs.Reach.{with_note, pending}

-- above the top frame nothing is pending
pub pending_past : (j : ℕ) (f : Frame) (fs : List Frame) → length fs < j → pending j (f ∷ fs) ≡ []
unfolding pending
pending_past j f fs h = ap (λ b. if b then [] else pending j fs ++ with_note f.note []) (lt-ltb (length fs) j h)

-- the notes of more frames: those of the frames below, and that of the top frame
pub pending_at : (j : ℕ) (f : Frame) (fs : List Frame) → j ≤ length fs
    → pending j (f ∷ fs) ≡ pending j fs ++ with_note f.note []
unfolding pending
pending_at j f fs h = ap (λ b. if b then [] else pending j fs ++ with_note f.note []) (le-ltb (length fs) j h)

-- what is found, and what is left then
abbrev pub IsHead : ℕ → List Frame → Option (ℕ × ℕ) → Type 0
IsHead k F None = pending k F ≡ []
IsHead k F (Some x) = (k ≤ x.0) × (x.0 < length F) × (pending k F ≡ x.1 ∷ pending (suc x.0) F)

-- the head of the notes where the top frame is one more
head_this : (k : ℕ) (f : Frame) (fs : List Frame) (n : Option ℕ) → f.note ≡ n → k ≤ length fs → (o : Option (ℕ × ℕ))
    → IsHead k fs o → IsHead k (f ∷ fs) (or_this o (length fs) n)
head_this k f fs n e h (Some x) y =
    let rest : suc x.0 ≤ length fs = y.1 in (
      y.0,
      omega (arith, y.1),
      pending_at k f fs h ∙ ap (λ l. l ++ with_note f.note []) y.2 ∙ ap (λ l. x.1 ∷ l)
          (sym (pending_at (suc x.0) f fs rest)),
    )
head_this k f fs None e h None y =
    pending_at k f fs h ∙ ap (λ l. l ++ with_note f.note []) y ∙ ap (λ m. with_note m []) e
head_this k f fs (Some p) e h None y = (
  h,
  omega arith,
  pending_at k f fs h ∙ ap (λ l. l ++ with_note f.note []) y ∙ ap (λ m. with_note m []) e ∙ ap
      (λ l. p ∷ l) (sym (pending_past (suc (length fs)) f fs (omega arith))),
)

-- the same, whether the top frame counts or not
head_if : (k : ℕ) (f : Frame) (fs : List Frame) (b : Bool) → nat_lt (length fs) k ≡ b → IsHead k fs (noted k fs)
    → IsHead k (f ∷ fs) (if b then None else or_this (noted k fs) (length fs) f.note)
head_if k f fs true q y = pending_past k f fs (ltb-true (length fs) k q)
head_if k f fs false q y = head_this k f fs f.note refl (ltb-false (length fs) k q) (noted k fs) y

-- the note that `Play` finds is the first pending one
pub noted_head : (k : ℕ) (F : List Frame) → IsHead k F (noted k F)
unfolding noted pending
noted_head k [] = refl
noted_head k (f ∷ fs) = head_if k f fs (nat_lt (length fs) k) refl (noted_head k fs)
