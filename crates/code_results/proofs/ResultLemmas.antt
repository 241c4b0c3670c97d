-- What is told of a result holds of it.
use Rattle.std.proofs.Common.{◌≡◌, ℕ, Bool, true, false, List, [], ◌∷◌, Option, Some, None, refl, sym, ap, ◌∙◌}
use Rattle.std.proofs.Common.{eqb-true, eq-eqb}
use Rattle.std.specs.Prelude.{◌==◌, if◌then◌else◌}
use Rattle.code_results.specs.Results.{Results, Any, OneOf, is_among, may_be, all_are, only, told_by, told}

-- a test that passes on has both sides
both_pass : (b : Bool) (x y r : ℕ) (xs : List ℕ) → (x == y) ≡ b → (if b then all_are y xs else false) ≡ true
    → (x ≡ y) × (all_are y xs ≡ true)
both_pass true x y r xs e h = (eqb-true x y e, h)
both_pass false x y r xs e h = absurd (cc h)

-- one of equal results is that result
among_all : (x r : ℕ) (xs : List ℕ) → all_are x xs ≡ true → is_among xs r ≡ true → x ≡ r
among_all x r [] a h = absurd (cc h)
among_all x r (y ∷ ys) a h =
    let p = both_pass (y == x) y x r ys refl a in by_test (y == r) refl p.0 (among_all x r ys p.1) h
  where
    by_test : (b : Bool) → (y == r) ≡ b → y ≡ x → (is_among ys r ≡ true → x ≡ r)
        → (if b then true else is_among ys r) ≡ true → x ≡ r
    by_test true e q later h = sym q ∙ eqb-true y r e
    by_test false e q later h = later h

-- the one result that may be there is the one that is there
pub only_is : (s : Results) (x r : ℕ) → only s ≡ Some x → may_be s r ≡ true → x ≡ r
only_is Any x r o h = absurd (cc o)
only_is (OneOf []) x r o h = absurd (cc o)
only_is (OneOf (y ∷ ys)) x r o h = by_all (all_are y ys) refl o
  where
    by_first : (b : Bool) → (y == r) ≡ b → all_are y ys ≡ true → (if b then true else is_among ys r) ≡ true → y ≡ r
    by_first true e a h = eqb-true y r e
    by_first false e a h = among_all y r ys a h

    by_all : (b : Bool) → all_are y ys ≡ b → (if b then Some y else None) ≡ Some x → x ≡ r
    by_all true e o = let same : y ≡ x = cc o in sym same ∙ by_first (y == r) refl e h
    by_all false e o = absurd (cc o)

-- a result that is told to be x is x
pub told_true : (s : Results) (x r : ℕ) → may_be s r ≡ true → told s x ≡ Some true → (r == x) ≡ true
told_true s x r h t = by_parts (may_be s x) (only s) refl refl t
  where
    by_parts : (b : Bool) (o : Option ℕ) → may_be s x ≡ b → only s ≡ o → told_by b o ≡ Some true → (r == x) ≡ true
    by_parts false o e q t = absurd (cc t)
    by_parts true None e q t = absurd (cc t)
    by_parts true (Some y) e q t = eq-eqb r x (sym (only_is s y r q h) ∙ only_is s y x q e)

-- and one that is told not to be x is another
pub told_false : (s : Results) (x r : ℕ) → may_be s r ≡ true → told s x ≡ Some false → (r == x) ≡ false
told_false s x r h t = by_parts (may_be s x) (only s) refl t
  where
    by_test : (b : Bool) → (r == x) ≡ b → may_be s x ≡ false → b ≡ false
    by_test true e m = absurd (cc (sym h ∙ ap (may_be s) (eqb-true r x e) ∙ m))
    by_test false e m = refl

    by_parts : (b : Bool) (o : Option ℕ) → may_be s x ≡ b → told_by b o ≡ Some false → (r == x) ≡ false
    by_parts false o e t = by_test (r == x) refl e
    by_parts true None e t = absurd (cc t)
    by_parts true (Some y) e t = absurd (cc t)

-- the one result that may be there may be there
pub only_may : (s : Results) (x : ℕ) → only s ≡ Some x → may_be s x ≡ true
only_may Any x o = absurd (cc o)
only_may (OneOf []) x o = absurd (cc o)
only_may (OneOf (y ∷ ys)) x o = by_all (all_are y ys) o
  where
    by_all : (b : Bool) → (if b then Some y else None) ≡ Some x → (if y == x then true else is_among ys x) ≡ true
    by_all true o =
        let same : y ≡ x = cc o in ap (λ b. if b then true else is_among ys x) (eq-eqb y x same)
    by_all false o = absurd (cc o)
