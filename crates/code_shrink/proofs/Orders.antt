-- The procedures of smaller code: where they come from, and that none is higher or works more.
use Rattle.std.proofs.Common.{◌≡◌, ◌≤◌, ℕ, zero, suc, ◌+◌, Bool, true, false, List, [], ◌∷◌, Some}
use Rattle.std.proofs.Common.{refl, sym, ap, ◌∙◌, subst, arith}
use Rattle.std.specs.Prelude.{slice_get, slice_index}
use Rattle.code_language.specs.Instrs.{Instr}
use Rattle.code_language.specs.Measures.{reckon, greatest, heights, works, height_by, work_by}
use Rattle.code_language.specs.Sound.{AreProcs, CallsBelow}
use Rattle.code_language.specs.WellFormed.{Known}
use Rattle.code_language.proofs.Measures.{height_measure, work_measure}
use Rattle.code_language.proofs.Reckoned.{IsMeasure, reckon_is, reckon_bounded}
use Rattle.code_language.proofs.Sound.{calls_at}
use Rattle.code_language.proofs.Greatest.{at_most_greatest}
use Rattle.code_shrink.specs.Smaller.{straight, count, smaller}
use Rattle.code_shrink.specs.Whole.{is_live, number_in, collected}
use Rattle.code_shrink.proofs.Closed.{IsMarked, AreClosed, old_of, AllClosed}
use Rattle.code_shrink.proofs.Measured.{smaller_less, smaller_height}

-- a kept procedure has its old number
pub old_counted : (live : List Bool) (q : ℕ) → is_live live q ≡ true → old_of live (count q live) ≡ q
old_counted [] q h = absurd (cc h)
old_counted (true ∷ live) zero h = refl
old_counted (false ∷ live) zero h = absurd (cc h)
old_counted (true ∷ live) (suc q) h = ap suc (old_counted live q h)
old_counted (false ∷ live) (suc q) h = ap suc (old_counted live q h)

-- where a procedure of the smaller code comes from
pub record From (R : ℕ → Bool) (m : ℕ → ℕ) (live : List Bool) (flags : List (List Bool)) (procs : List (List Instr))
    (i : ℕ) (now : List Instr) : Type 0 where
  pub old : ℕ
  pub before : List Instr
  pub there : slice_get procs old ≡ Some before
  pub stays : is_live live old ≡ true
  pub at : count old live ≡ i
  pub marks : List Bool
  pub closed : AreClosed R marks (straight before)
  pub first : IsMarked marks 0
  pub made : smaller m marks before ≡ now

-- each comes from a kept one
pub comes_from : (R : ℕ → Bool) (m : ℕ → ℕ) (live : List Bool) (flags : List (List Bool)) (procs : List (List Instr))
    (i : ℕ) (now : List Instr) → AllClosed R live flags procs → slice_get (collected m live flags procs) i ≡ Some now
    → From R m live flags procs i now
comes_from R m [] [] [] i now closed e = absurd (cc e)
comes_from R m [] [] (is ∷ procs) i now closed e = absurd closed
comes_from R m [] (bs ∷ flags) procs i now closed e = absurd closed
comes_from R m (b ∷ live) [] procs i now closed e = absurd closed
comes_from R m (b ∷ live) (bs ∷ flags) [] i now closed e = absurd closed
comes_from R m (true ∷ live) (bs ∷ flags) (is ∷ procs) zero now closed e =
    let c = closed.0 refl in
    let made : smaller m bs is ≡ now = cc e in
    record {
      old = 0;
      before = is;
      there = refl;
      stays = refl;
      at = refl;
      marks = bs;
      closed = c.0;
      first = c.1;
      made = made;
    }
comes_from R m (true ∷ live) (bs ∷ flags) (is ∷ procs) (suc i) now closed e =
    let f = comes_from R m live flags procs i now closed.1 e in
    record {
      old = suc f.old;
      before = f.before;
      there = f.there;
      stays = f.stays;
      at = ap suc f.at;
      marks = f.marks;
      closed = f.closed;
      first = f.first;
      made = f.made;
    }
comes_from R m (false ∷ live) (bs ∷ flags) (is ∷ procs) i now closed e =
    let f = comes_from R m live flags procs i now closed.1 e in
    record {
      old = suc f.old;
      before = f.before;
      there = f.there;
      stays = f.stays;
      at = f.at;
      marks = f.marks;
      closed = f.closed;
      first = f.first;
      made = f.made;
    }

-- ---- heights and works

-- where all are at most a number the greatest is
pub greatest_at_most : (ns : List ℕ) (n : ℕ) → ((p : ℕ) → slice_index ns p ≤ n) → greatest ns ≤ n
greatest_at_most [] n h = omega arith
greatest_at_most (x ∷ ns) n h = omega (arith, h 0, greatest_at_most ns n (λ p. h (suc p)))

module _ (K : Known) (live : List Bool) (flags : List (List Bool)) (procs : List (List Instr))
    (sound : AreProcs K 0 procs) (kept : AllClosed (is_live live) live flags procs) where
  -- what smaller procedures have by their own numbers
  abbrev pub Lessens : ((ℕ → ℕ) → List Instr → ℕ) → Type 0
  Lessens F = (w w' : ℕ → ℕ) → ((q : ℕ) → is_live live q ≡ true → w' (number_in live q) ≤ w q)
      → (is : List Instr) (bs : List Bool) → AreClosed (is_live live) bs (straight is) → IsMarked bs 0
      → F w' (smaller (number_in live) bs is) ≤ F w is

  -- a procedure has the number that its instructions give by the numbers of all
  numbered : (F : (ℕ → ℕ) → List Instr → ℕ) → IsMeasure F → (p : ℕ) (is : List Instr) → slice_get procs p ≡ Some is
      → slice_index (reckon F [] procs) p ≡ F (slice_index (reckon F [] procs)) is
  numbered F measure p is e =
      let n : 0 + p ≡ p = omega arith in
      subst (λ (i : ℕ). slice_index (reckon F [] procs) i ≡ F (slice_index (reckon F [] procs)) is) n
      (reckon_is F measure procs [] p is e
      (subst (λ (i : ℕ). CallsBelow i is) (sym n) (calls_at K procs p is sound e)))

  -- no procedure has a greater number than the one that it comes from
  pub each_less : (F : (ℕ → ℕ) → List Instr → ℕ) → IsMeasure F → Lessens F → (i : ℕ)
      → slice_index (reckon F [] (collected (number_in live) live flags procs)) i
      ≤ slice_index (reckon F [] procs) (old_of live i)
  each_less F measure lessens i =
      let w = slice_index (reckon F [] procs) in
      let b = λ (i : ℕ). w (old_of live i) in
      reckon_bounded F measure b (collected (number_in live) live flags procs) [] (λ p. omega arith)
      (λ j now e.
      let f = comes_from (is_live live) (number_in live) live flags procs j now kept e in
      let here = lessens w b (λ q r.
      let same : w (old_of live (count q live)) ≡ w q = ap w (old_counted live q r) in omega (arith, same))
      f.before f.marks f.closed f.first in
      let there = numbered F measure f.old f.before f.there in
      let back : old_of live j ≡ f.old = ap (old_of live) (sym f.at) ∙ old_counted live f.old f.stays in
      let n : 0 + j ≡ j = omega arith in
      subst (λ l. F b l ≤ b (0 + j)) f.made
      (let e' : b (0 + j) ≡ w f.old = ap b n ∙ ap w back in omega (arith, here, there, e'))) i

  -- the smaller code has no greater height
  pub heights_less : greatest (heights (collected (number_in live) live flags procs)) ≤ greatest (heights procs)
  heights_less = greatest_at_most (heights (collected (number_in live) live flags procs)) (greatest (heights procs))
      (λ i. omega (
        arith,
        each_less height_by height_measure
            (λ w w' less is bs closed first. smaller_height (is_live live) (number_in live) w w' less is bs closed) i,
        at_most_greatest (heights procs) (old_of live i),
      ))

  -- and no greater work
  pub works_less : greatest (works (collected (number_in live) live flags procs)) ≤ greatest (works procs)
  unfolding work_by
  works_less = greatest_at_most (works (collected (number_in live) live flags procs)) (greatest (works procs))
      (λ i. omega (
        arith,
        each_less work_by work_measure
            (λ w w' less is bs closed first. smaller_less (is_live live)
            (number_in live) w w' less is bs closed 0 first) i,
        at_most_greatest (works procs) (old_of live i),
      ))
