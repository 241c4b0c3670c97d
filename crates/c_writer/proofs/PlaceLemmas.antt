-- Where jumps lead among instructions.
use Rattle.std.proofs.Common.{◌≡◌, ◌≤◌, ◌<◌, ◌+◌, ◌-◌, ℕ, zero, suc, true, false, List, [], ◌∷◌, drop}
use Rattle.std.proofs.Common.{length, Some, get_or, sym, ap, ◌∙◌, arith}
use Rattle.std.specs.Prelude.{◌&&◌, nat_le, slice_get}
use Rattle.std.proofs.lemmas.Bool.Decides.{nat_tests}
use Rattle.code_language.specs.declared.instr.Instr as declared
use Rattle.code_language.specs.Code.{instr_of, instrs_of}
use Rattle.code_language.specs.Instrs.{Instr}
use Rattle.code_language.proofs.ListLemmas.{drop_map_at}
use Rattle.c_functions.specs.Writer.{jump_of, stays_within, skip_of, join_of}
use Rattle.c_functions.proofs.WriterLemmas.{join_within}

-- the instruction that stands at a place
pub get_at : (xs : List declared.Instr) (i : ℕ) (x : declared.Instr) → i < length xs → x ≡ get_or xs i x
    → slice_get (instrs_of xs) i ≡ Some (instr_of x)
get_at [] i x lt e = absurd (omega (arith, lt))
get_at (y ∷ xs) zero x lt e = ap (λ z. Some (instr_of z)) (sym e)
get_at (y ∷ xs) (suc i) x lt e = get_at xs i x (omega (arith, lt)) e

-- and at a place after the first ones
get_drop : (n k : ℕ) (xs : List Instr) → slice_get (drop n xs) k ≡ slice_get xs (n + k)
get_drop zero k xs = let e : k ≡ 0 + k = omega arith in ap (slice_get xs) e
get_drop (suc n) k [] = let e : suc n + k ≡ suc (n + k) = omega arith in sym (ap (slice_get []) e)
get_drop (suc n) k (x ∷ xs) =
    let e : suc n + k ≡ suc (n + k) = omega arith in get_drop n k xs ∙ sym (ap (slice_get (x ∷ xs)) e)

-- the instructions from a place on, of which the first one is known
pub stands_at : (ys : List declared.Instr) (i : ℕ) (x y : declared.Instr) → i < length ys → x ≡ get_or ys i x
    → x ≡ y → drop i (instrs_of ys) ≡ instr_of y ∷ drop (i + 1) (instrs_of ys)
stands_at ys i x y lt is same =
    drop_map_at instr_of ys i x lt is ∙ ap (λ z. instr_of z ∷ drop (i + 1) (instrs_of ys)) same

-- where the instruction at the end of the first part skips, the parts come together after what it skips
pub join_at : (xs : List Instr) (rest over : ℕ) (x : Instr) → 0 < over → slice_get xs (rest + over - 1) ≡ Some x
    → over + skip_of (Some x) ≡ join_of over (drop rest xs)
join_at xs rest zero x some at = absurd (omega arith)
join_at xs rest (suc k) x some at =
    let e : rest + suc k - 1 ≡ rest + k = omega arith in
    sym (ap (λ o. suc k + skip_of o) (get_drop rest k xs ∙ sym (ap (slice_get xs) e) ∙ at))

module _ (xs : List Instr) (place to : ℕ) (x : Instr) (lt : place < to)
    (at : drop place xs ≡ x ∷ drop (place + 1) xs) where
  one : stays_within (to - place) (drop place xs)
      ≡ (nat_le (jump_of x) (to - (place + 1)) && stays_within (to - (place + 1)) (drop (place + 1) xs))
  one =
      let count : to - place ≡ suc (to - (place + 1)) = omega arith in
      ap (stays_within (to - place)) at ∙ ap (λ m. stays_within m (x ∷ drop (place + 1) xs)) count

  -- an instruction that jumps no further stays where those after it do
  pub stays_on : jump_of x ≤ to - place - 1
      → stays_within (to - (place + 1)) (drop (place + 1) xs) ≡ stays_within (to - place) (drop place xs)
  stays_on le =
      let test : nat_le (jump_of x) (to - (place + 1)) ≡ true = grind (arith, nat_tests) in
      sym (one ∙ ap (λ b. b && stays_within (to - (place + 1)) (drop (place + 1) xs)) test)

  -- one that jumps further doesn't
  pub stays_not : to - place - 1 < jump_of x → stays_within (to - place) (drop place xs) ≡ false
  stays_not gt =
      let test : nat_le (jump_of x) (to - (place + 1)) ≡ false = grind (arith, nat_tests) in
      one ∙ ap (λ b. b && stays_within (to - (place + 1)) (drop (place + 1) xs)) test

-- no instructions stay
pub stays_end : (xs : List Instr) (place to : ℕ) → to ≤ place → stays_within (to - place) (drop place xs) ≡ true
stays_end xs place to le =
    let none : to - place ≡ 0 = omega arith in ap (λ m. stays_within m (drop place xs)) none

-- the parts come together among the instructions that are written
pub join_before : (xs : List Instr) (rest over to : ℕ) → rest + over ≤ to
    → stays_within (to - rest) (drop rest xs) ≡ true → rest + join_of over (drop rest xs) ≤ to
join_before xs rest over to le stays =
    let inner = join_within over (to - rest) (drop rest xs) (omega arith) stays in omega (arith, inner)
