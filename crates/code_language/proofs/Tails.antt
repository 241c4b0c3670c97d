-- What is left of instructions past some places.
use Rattle.std.proofs.Common.{◌≡◌, ℕ, zero, suc, ◌+◌, List, [], ◌∷◌, drop, refl, ap, ◌∙◌, arith}
use Rattle.code_language.specs.Instrs.{Instr}

-- nothing is left of nothing
pub drop_none : (k : ℕ) → drop {A = Instr} k [] ≡ []
drop_none zero = refl
drop_none (suc k) = refl

-- so many more places on
pub further : (is : List Instr) (i k : ℕ) {x : Instr} {rest : List Instr} → drop i is ≡ x ∷ rest
    → drop (i + 1 + k) is ≡ drop k rest
further [] i k e = absurd (cc (e, drop_none i))
further (y ∷ is) zero k e =
    let n : zero + 1 + k ≡ suc k = omega arith in ap (λ j. drop j (y ∷ is)) n ∙ ap (λ l. drop k (drop 1 l)) e
further (y ∷ is) (suc i) k e =
    let n : suc i + 1 + k ≡ suc (i + 1 + k) = omega arith in ap (λ j. drop j (y ∷ is)) n ∙ further is i k e

-- the next place
pub onward : (is : List Instr) (i : ℕ) {x : Instr} {rest : List Instr} → drop i is ≡ x ∷ rest → drop (i + 1) is ≡ rest
onward is i e = let n : i + 1 ≡ i + 1 + 0 = omega arith in ap (λ j. drop j is) n ∙ further is i 0 e
