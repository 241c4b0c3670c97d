-- Lists that are the same.
use Rattle.std.proofs.Common.{◌≡◌, ℕ, zero, suc, ◌<◌, Bool, true, false, List, [], ◌∷◌, length, get_or, Option}
use Rattle.std.proofs.Common.{None, refl, arith}
use Rattle.std.specs.Bool.{OnTrue}

-- lists with the same entries are the same
pub same_entries : (xs ys : List (Option ℕ)) → length xs ≡ length ys
    → ((k : ℕ) → k < length xs → get_or xs k None ≡ get_or ys k None) → xs ≡ ys
same_entries [] [] l h = refl
same_entries [] (y ∷ ys) l h = absurd (omega arith)
same_entries (x ∷ xs) [] l h = absurd (omega arith)
same_entries (x ∷ xs) (y ∷ ys) l h =
    let first : x ≡ y = h zero (omega arith) in
    let rest = same_entries xs ys (omega arith) (λ k lt. h (suc k) (omega arith)) in
    cc

-- what a test says where it is true
pub on_true : {P : Type 0} (r : Bool) → (r ≡ true → P) → OnTrue r P
on_true true h = h refl
on_true false h = tt
