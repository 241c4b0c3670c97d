-- New numbers of procedures, as a table.
use Rattle.std.proofs.Common.{◌≡◌, ◌⊎◌, inl, inr, ◌≤◌, ◌<◌, ℕ, zero, suc, ◌+◌, ◌-◌, min, Bool, true, false, List}
use Rattle.std.proofs.Common.{[], ◌∷◌, ◌++◌, length}
use Rattle.std.proofs.Common.{sym, ap, ◌∙◌, arith, get_or, length-append}
use Rattle.std.specs.Prelude.{slice_index}
use Rattle.std.proofs.lemmas.Bool.{cases_lt}
use Rattle.std.proofs.lemmas.List.{get_or_append_left, get_or_push}
use Rattle.code_shrink.specs.Smaller.{one_if, count}
use Rattle.code_shrink.specs.Numbers.{number_by}

-- the numbers of the first procedures, and the next number
pub record NumbersTo (live : List Bool) (i number : ℕ) (numbers : List ℕ) : Type 0 where
  pub size : length numbers ≡ i
  pub each : (p : ℕ) → p < i → get_or numbers p 0 ≡ count p live
  pub next : number ≡ count i live
  pub within : number ≤ i

-- one more place counts where it is set
pub count_more : (live : List Bool) (i : ℕ) → i < length live
    → count (i + 1) live ≡ one_if (get_or live i false) (count i live)
count_more [] i lt = absurd (omega arith)
count_more (true ∷ live) zero lt = omega arith
count_more (false ∷ live) zero lt = omega arith
count_more (true ∷ live) (suc i) lt =
    let e : suc i + 1 ≡ suc (i + 1) = omega arith in
    rw e (inner (get_or live i false) (count (i + 1) live) (count i live) (count_more live i (omega arith)))
  where
    inner : (b : Bool) (n k : ℕ) → n ≡ one_if b k → suc n ≡ one_if b (suc k)
    inner true n k e = omega (arith, e)
    inner false n k e = omega (arith, e)
count_more (false ∷ live) (suc i) lt =
    let e : suc i + 1 ≡ suc (i + 1) = omega arith in rw e (count_more live i (omega arith))

-- past the end nothing counts
count_past : (live : List Bool) (p : ℕ) → length live ≤ p → count p live ≡ count (length live) live
count_past [] zero le = omega arith
count_past [] (suc p) le = omega arith
count_past (b ∷ live) zero le = absurd (omega arith)
count_past (b ∷ live) (suc p) le = ap (one_if b) (count_past live p (omega arith))

-- one more number
pub one_numbered : (live : List Bool) (i number next : ℕ) (numbers : List ℕ) → NumbersTo live i number numbers
    → next ≡ count (i + 1) live → next ≤ i + 1 → NumbersTo live (i + 1) next (numbers ++ number ∷ [])
one_numbered live i number next numbers h e le = record {
  size = omega (arith, h.size, length-append numbers (number ∷ []));
  each = λ p lt. inner p (cases_lt p i) lt;
  next = e;
  within = le;
}
  where
    inner : (p : ℕ) → (p < i) ⊎ (i ≤ p) → p < i + 1 → get_or (numbers ++ number ∷ []) p 0 ≡ count p live
    inner p (inl l) lt =
        get_or_append_left numbers (number ∷ []) 0 p (omega (arith, h.size)) ∙ h.each p l
    inner p (inr l) lt =
        let same : length numbers ≡ p = omega (arith, h.size) in
        let at : i ≡ p = omega arith in
        get_or_push numbers number 0 p same ∙ h.next ∙ ap (λ q. count q live) at

-- one more that is reached
pub one_live : (live : List Bool) (i number next : ℕ) (numbers : List ℕ) → NumbersTo live i number numbers
    → i < length live → get_or live i false ≡ true → next ≡ number + 1
    → NumbersTo live (i + 1) next (numbers ++ number ∷ [])
one_live live i number next numbers h lt set e =
    let more : count (i + 1) live ≡ suc (count i live) =
    count_more live i lt ∙ ap (λ b. one_if b (count i live)) set in
    one_numbered live i number next numbers h (omega (arith, more, h.next, e)) (omega (arith, e, h.within))

-- one more that isn't
pub one_dead : (live : List Bool) (i number next : ℕ) (numbers : List ℕ) → NumbersTo live i number numbers
    → i < length live → get_or live i false ≡ false → next ≡ number
    → NumbersTo live (i + 1) next (numbers ++ number ∷ [])
one_dead live i number next numbers h lt unset e =
    let more : count (i + 1) live ≡ count i live =
    count_more live i lt ∙ ap (λ b. one_if b (count i live)) unset in
    one_numbered live i number next numbers h (omega (arith, more, h.next, e)) (omega (arith, e, h.within))

-- a table with all numbers
pub all_numbered : (live : List Bool) (i number : ℕ) (numbers : List ℕ) → NumbersTo live i number numbers
    → i ≡ length live → (p : ℕ) → number_by (numbers ++ number ∷ []) p ≡ count p live
all_numbered live i number numbers h e p = inner (cases_lt p i)
  where
    longer : length (numbers ++ number ∷ []) ≡ i + 1
    longer = omega (arith, h.size, length-append numbers (number ∷ []))

    inner : (p < i) ⊎ (i ≤ p) → number_by (numbers ++ number ∷ []) p ≡ count p live
    inner (inl l) =
        let at : min p (length (numbers ++ number ∷ []) - 1) ≡ p = omega (arith, longer) in
        ap (slice_index (numbers ++ number ∷ [])) at
        ∙ get_or_append_left numbers (number ∷ []) 0 p (omega (arith, h.size)) ∙ h.each p l
    inner (inr l) =
        let at : min p (length (numbers ++ number ∷ []) - 1) ≡ i = omega (arith, longer) in
        ap (slice_index (numbers ++ number ∷ [])) at
        ∙ get_or_push numbers number 0 i h.size ∙ h.next ∙ ap (λ q. count q live) e
        ∙ sym (count_past live p (omega arith))
