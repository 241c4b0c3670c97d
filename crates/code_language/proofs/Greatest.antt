-- The greatest of numbers, and the first one over a limit.
use Rattle.std.proofs.Common.{◌≡◌, ℕ, zero, suc, ◌+◌, ◌<◌, ◌≤◌, max, List, [], ◌∷◌, ◌++◌, length, Option, None, refl}
use Rattle.std.proofs.Common.{sym, ap, ◌∙◌, arith}
use Rattle.std.specs.Prelude.{slice_index, nat_lt, not, Bool, true, false}
use Rattle.std.proofs.lemmas.Bool.Decides.{nat_tests}
use Rattle.code_language.specs.declared.fault.CodeKind.{CodeKind}
use Rattle.code_language.specs.declared.fault.CodeFault.{CodeFault}
use Rattle.code_language.specs.Measures.{greatest}
use Rattle.code_language.specs.WellFormed.{first_of, unless, fault_at, first_over}
use Rattle.code_language.proofs.Accepted.{passes, none_over}

-- no number is above the greatest
pub at_most_greatest : (ns : List ℕ) (p : ℕ) → slice_index ns p ≤ greatest ns
at_most_greatest [] p = omega arith
at_most_greatest (n ∷ ns) zero = omega arith
at_most_greatest (n ∷ ns) (suc p) = omega (arith, at_most_greatest ns p)

-- one more number
pub greatest_more : (ns : List ℕ) (n : ℕ) → greatest (ns ++ n ∷ []) ≡ max (greatest ns) n
greatest_more [] n = omega arith
greatest_more (m ∷ ns) n = omega (arith, greatest_more ns n)

-- where the greatest is within the limit, no number is over it
pub none_over_greatest : (limit : ℕ) (kind : CodeKind) (p : ℕ) (ns : List ℕ) → greatest ns ≤ limit
    → first_over limit kind p ns ≡ None
none_over_greatest limit kind p ns h = none_over limit kind p ns (λ i. omega (arith, at_most_greatest ns i))

-- a number over the limit
over_here : (limit n : ℕ) → limit < n → not (nat_lt limit n) ≡ false
over_here limit n h = grind (arith, nat_tests)

-- a test that fails gives its fault
pub fails : (good : Bool) (kind : CodeKind) (p i : ℕ) (later : Option CodeFault) → good ≡ false
    → first_of (unless good kind p i) later ≡ fault_at kind p i
fails true kind p i later h = absurd (cc h)
fails false kind p i later h = refl

-- a number within it
within_here : (limit n : ℕ) → n ≤ limit → not (nat_lt limit n) ≡ true
within_here limit n h = grind (arith, nat_tests)

-- the first number over the limit stands after numbers of which none is
pub first_over_here : (limit : ℕ) (kind : CodeKind) (p : ℕ) (ns : List ℕ) (n : ℕ) (rest : List ℕ)
    → greatest ns ≤ limit → limit < n → first_over limit kind p (ns ++ n ∷ rest) ≡ fault_at kind (p + length ns) 0
unfolding first_over
first_over_here limit kind p [] n rest h over =
    let e : p + length {A = ℕ} [] ≡ p = omega arith in
    fails (not (nat_lt limit n)) kind p 0 _ (over_here limit n over) ∙ ap (λ q. fault_at kind q 0) (sym e)
first_over_here limit kind p (m ∷ ns) n rest h over =
    let e : p + 1 + length ns ≡ p + length (m ∷ ns) = omega arith in
    passes (not (nat_lt limit m)) kind p 0 _ (within_here limit m (omega arith))
    ∙ first_over_here limit kind (p + 1) ns n rest (omega arith) over ∙ ap (λ q. fault_at kind q 0) e
