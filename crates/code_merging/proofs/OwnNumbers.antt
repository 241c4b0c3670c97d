-- The numbers of procedures, one after the other.
use Rattle.std.proofs.Common.{◌≡◌, ◌+◌, ℕ, zero, suc, List, [], ◌∷◌, ◌++◌, length, refl, ap, ◌∙◌, arith}
use Rattle.code_merging.specs.Merged.{numbers_from}

-- one more number
next_number : (p n : ℕ) → numbers_from p (suc n) ≡ numbers_from p n ++ (p + n) ∷ []
next_number p zero = let same : p ≡ p + 0 = omega arith in ap (λ m. m ∷ []) same
next_number p (suc n) =
    let same : suc p + n ≡ p + suc n = omega arith in
    ap (λ l. p ∷ l) (next_number (suc p) n ∙ ap (λ m. numbers_from (suc p) n ++ m ∷ []) same)

-- those so far and one more
pub numbers_push : (n : ℕ) → numbers_from 0 (n + 1) ≡ numbers_from 0 n ++ n ∷ []
numbers_push n =
    let same : n + 1 ≡ suc n = omega arith in
    let last : 0 + n ≡ n = omega arith in
    ap (numbers_from 0) same ∙ next_number 0 n ∙ ap (λ m. numbers_from 0 n ++ m ∷ []) last

-- there are so many
pub numbers_size : (p n : ℕ) → length (numbers_from p n) ≡ n
numbers_size p zero = refl
numbers_size p (suc n) = ap suc (numbers_size (suc p) n)
