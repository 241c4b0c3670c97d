-- Smaller code is a copy of the code.
use Rattle.std.proofs.Common.{◌≡◌, ℕ, zero, suc, Bool, true, false, List, [], ◌∷◌}
use Rattle.std.proofs.Common.{refl, sym, ◌∙◌, subst}
use Rattle.std.specs.Prelude.{slice_index_or}
use Rattle.code_language.specs.Code.{Code, Procedures, instructions}
use Rattle.code_language.specs.Instrs.{Instr}
use Rattle.code_shrink.specs.Follows.{Follows, AreCopied, HasCopy}
use Rattle.code_shrink.specs.Smaller.{straight, one_if, count, smaller}
use Rattle.code_shrink.specs.Whole.{keep_if, is_live, number_in, collected, smaller_procedures, smaller_code}
use Rattle.code_shrink.proofs.Closed.{IsMarked, AreClosed, AllClosed, KeepsReached}
use Rattle.code_shrink.proofs.Squeezed.{smaller_does}

-- a procedure that is kept: the flags of its places, and where it stands now
pub record Stands (R : ℕ → Bool) (m : ℕ → ℕ) (live : List Bool) (flags : List (List Bool)) (procs : List (List Instr))
    (p : ℕ) : Type 0 where
  pub marks : List Bool
  pub closed : AreClosed R marks (straight (slice_index_or procs p []))
  pub first : IsMarked marks 0
  pub there : slice_index_or (collected m live flags procs) (count p live) [] ≡ smaller m marks
      (slice_index_or procs p [])

-- past a procedure that may be kept
past_kept : (b : Bool) (is : List Instr) (n : ℕ) (out : List (List Instr))
    → slice_index_or (keep_if b is out) (one_if b n) [] ≡ slice_index_or out n []
past_kept true is n out = refl
past_kept false is n out = refl

-- each kept procedure stands at its new number
pub kept_stands : (R : ℕ → Bool) (m : ℕ → ℕ) (live : List Bool) (flags : List (List Bool)) (procs : List (List Instr))
    (p : ℕ) → AllClosed R live flags procs → is_live live p ≡ true → Stands R m live flags procs p
kept_stands R m [] [] [] p closed h = absurd cc
kept_stands R m [] [] (is ∷ procs) p closed h = absurd closed
kept_stands R m [] (bs ∷ flags) procs p closed h = absurd closed
kept_stands R m (b ∷ live) [] procs p closed h = absurd closed
kept_stands R m (b ∷ live) (bs ∷ flags) [] p closed h = absurd closed
kept_stands R m (false ∷ live) (bs ∷ flags) (is ∷ procs) zero closed h = absurd cc
kept_stands R m (true ∷ live) (bs ∷ flags) (is ∷ procs) zero closed h =
    let c = closed.0 refl in record { marks = bs; closed = c.0; first = c.1; there = refl }
kept_stands R m (b ∷ live) (bs ∷ flags) (is ∷ procs) (suc p) closed h =
    let s = kept_stands R m live flags procs p closed.1 h in
    record {
      marks = s.marks;
      closed = s.closed;
      first = s.first;
      there = past_kept b (smaller m bs is) (count p live) (collected m live flags procs) ∙ s.there;
    }

-- the smaller procedures are copies
pub smaller_copies : (live : List Bool) (flags : List (List Bool)) (k : Procedures) → KeepsReached live flags k
    → AreCopied (is_live live) (number_in live) k (smaller_procedures live flags k)
unfolding instructions
smaller_copies live flags k h = record {
  start = h.start;
  start_at = refl;
  react = h.react;
  react_at = refl;
  each = λ p l.
      let s = kept_stands (is_live live) (number_in live) live flags k.procs p h.each l in
      subst (λ is. Follows (is_live live) (number_in live) (slice_index_or k.procs p []) is) (sym s.there)
      (smaller_does (is_live live) (number_in live) (slice_index_or k.procs p []) s.marks s.closed 0 s.first);
}

-- smaller code is a copy of the code
pub smaller_has_copy : (live : List Bool) (flags : List (List Bool)) (k : Code) → KeepsReached live flags k.procedures
    → HasCopy (is_live live) (number_in live) k (smaller_code live flags k)
smaller_has_copy live flags k h =
    record { tree = refl; names = refl; procedures = smaller_copies live flags k.procedures h }
