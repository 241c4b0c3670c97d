-- Which locals are live after some are added or taken away.
use Rattle.std.proofs.Common.{◌≡◌, ◌==◌, ℕ, Bool, true, false, cond, ◌&&◌, ◌||◌, not, List, [], ◌∷◌, ◌++◌, refl, sym, ap}
use Rattle.std.proofs.Common.{◌∙◌, arith}
use Rattle.std.specs.List.{list_any}
use Rattle.c_subset.specs.declared.trees.CType.{CType}
use Rattle.c_subset.specs.Trees.{CExpr, Const, Field, Element, Local, Cast, Minus, Bang, Calc, Divide, Bits, Compare}
use Rattle.c_subset.specs.Trees.{Both, Either, Choose}
use Rattle.c_subset.specs.Running.{same_type}
use Rattle.c_bare.specs.Needs.{is_it, reads}
use Rattle.c_bare.proofs.Calling.{type-is}
use Rattle.c_bare.proofs.Truth.{both}
use Rattle.c_unread.specs.Live.{LocalName, is_live, with_local, without, united, with_read, with_all_read}

-- ---- one local

-- what is a local is that one
pub it-is : (t u : CType) (i j : ℕ) → is_it t i u j ≡ true → (t ≡ u) × (i ≡ j)
it-is t u i j e =
    let parts = both (i == j) (same_type t u) e in
    (type-is t u parts.1, grind (arith, parts.0))

-- so what holds of the one holds of the other
pub it-live : (t u : CType) (i j : ℕ) (live : List LocalName) → is_it t i u j ≡ true
    → is_live t i live ≡ is_live u j live
it-live t u i j live e =
    let same = it-is t u i j e in
    ap (λ (v : CType). is_live v i live) same.0 ∙ ap (λ (n : ℕ). is_live u n live) same.1

-- ---- truth values

swap-or : (a b l : Bool) → (b || (a || l)) ≡ ((a || b) || l)
swap-or true true l = refl
swap-or true false l = refl
swap-or false true l = refl
swap-or false false l = refl

swap-three : (e a b l : Bool) → (b || (a || (e || l))) ≡ ((e || (a || b)) || l)
swap-three true true true l = refl
swap-three true true false l = refl
swap-three true false true l = refl
swap-three true false false l = refl
swap-three false true true l = refl
swap-three false true false l = refl
swap-three false false true l = refl
swap-three false false false l = refl

or-last : (a b : Bool) → (a || (b || false)) ≡ (b || a)
or-last true true = refl
or-last true false = refl
or-last false true = refl
or-last false false = refl

-- ---- lists

any-append : (p : LocalName → Bool) (xs ys : List LocalName) → list_any p (xs ++ ys) ≡ (list_any p xs || list_any p ys)
any-append p [] ys = refl
any-append p (x ∷ xs) ys = ap (λ (b : Bool). p x || b) (any-append p xs ys) ∙ assoc (p x) (list_any p xs) (list_any p ys)
  where
    assoc : (a b c : Bool) → (a || (b || c)) ≡ ((a || b) || c)
    assoc true b c = refl
    assoc false b c = refl

-- with one more
pub with-is : (t u : CType) (i j : ℕ) (live : List LocalName)
    → is_live t i (with_local u j live) ≡ (is_it t i u j || is_live t i live)
with-is t u i j live = at (is_live u j live) refl
  where
    there : (b : Bool) → is_it t i u j ≡ b → is_live u j live ≡ true → is_live t i live ≡ (b || is_live t i live)
    there true it is = it-live t u i j live it ∙ is
    there false it is = refl

    at : (b : Bool) → is_live u j live ≡ b
        → is_live t i (cond b live (live ++ record { of = u; number = j } ∷ [])) ≡ (is_it t i u j || is_live t i live)
    at true is = there (is_it t i u j) refl is
    at false is =
        any-append (λ (x : LocalName). is_it t i x.of x.number) live (record { of = u; number = j } ∷ [])
        ∙ or-last (is_live t i live) (is_it t i u j)

-- without one, each other one is there
pub others-stay : (t u : CType) (i j : ℕ) (live : List LocalName) → is_it t i u j ≡ false → is_live t i live ≡ true
    → is_live t i (without u j live) ≡ true
others-stay t u i j [] other is = is
others-stay t u i j (x ∷ xs) other is =
    at (is_it x.of x.number u j) refl (is_it t i x.of x.number) refl is (others-stay t u i j xs other)
  where
    at : (b : Bool) → is_it x.of x.number u j ≡ b → (c : Bool) → is_it t i x.of x.number ≡ c
        → (c || is_live t i xs) ≡ true → (is_live t i xs ≡ true → is_live t i (without u j xs) ≡ true)
        → is_live t i (cond (not b) (x ∷ without u j xs) (without u j xs)) ≡ true
    at true e true f is rest = absurd (clash (it-is t x.of i x.number f) e other)
      where
        clash : (t ≡ x.of) × (i ≡ x.number) → is_it x.of x.number u j ≡ true → is_it t i u j ≡ false → ⊥
        clash same e other =
            absurd (differ (sym other ∙ ap (λ (v : CType). is_it v i u j) same.0
            ∙ ap (λ (n : ℕ). is_it x.of n u j) same.1 ∙ e))
          where
            differ : false ≡ true → ⊥
            differ h = absurd cc
    at true e false f is rest = rest is
    at false e true f is rest = ap (λ (b : Bool). b || is_live t i (without u j xs)) f
    at false e false f is rest = ap (λ (b : Bool). b || is_live t i (without u j xs)) f ∙ rest is

-- and no other one comes
pub none-comes : (t u : CType) (i j : ℕ) (live : List LocalName) → is_live t i (without u j live) ≡ true
    → is_live t i live ≡ true
none-comes t u i j [] is = is
none-comes t u i j (x ∷ xs) is = at (is_it x.of x.number u j) (is_it t i x.of x.number) is (none-comes t u i j xs)
  where
    more : (b c : Bool) → c ≡ true → (b || c) ≡ true
    more true c e = refl
    more false c e = e

    put : (c d e : Bool) → (d ≡ true → e ≡ true) → (c || d) ≡ true → (c || e) ≡ true
    put true d e h is = refl
    put false d e h is = h is

    at : (b c : Bool) → is_live t i (cond (not b) (x ∷ without u j xs) (without u j xs)) ≡ true
        → (is_live t i (without u j xs) ≡ true → is_live t i xs ≡ true)
        → (is_it t i x.of x.number || is_live t i xs) ≡ true
    at true c is rest = more (is_it t i x.of x.number) (is_live t i xs) (rest is)
    at false c is rest =
        put (is_it t i x.of x.number) (is_live t i (without u j xs)) (is_live t i xs) rest is

-- those of both
pub united-is : (t : CType) (i : ℕ) (xs live : List LocalName)
    → is_live t i (united xs live) ≡ (is_live t i xs || is_live t i live)
united-is t i [] live = refl
united-is t i (x ∷ xs) live =
    united-is t i xs (with_local x.of x.number live)
    ∙ ap (λ (b : Bool). is_live t i xs || b) (with-is t x.of i x.number live)
    ∙ swap-or (is_it t i x.of x.number) (is_live t i xs) (is_live t i live)

-- ---- expressions

pub read-is : (t : CType) (i : ℕ) (e : CExpr) (live : List LocalName)
    → is_live t i (with_read e live) ≡ (reads t i e || is_live t i live)
unfolding with_read reads
read-is t i (Const u z) live = refl
read-is t i (Field f) live = refl
read-is t i (Element a e) live = read-is t i e live
read-is t i (Local u j) live = with-is t u i j live
read-is t i (Cast u e) live = read-is t i e live
read-is t i (Minus e) live = read-is t i e live
read-is t i (Bang e) live = read-is t i e live
read-is t i (Calc op a b) live =
    read-is t i b (with_read a live) ∙ ap (λ (c : Bool). reads t i b || c) (read-is t i a live)
    ∙ swap-or (reads t i a) (reads t i b) (is_live t i live)
read-is t i (Divide op a b) live =
    read-is t i b (with_read a live) ∙ ap (λ (c : Bool). reads t i b || c) (read-is t i a live)
    ∙ swap-or (reads t i a) (reads t i b) (is_live t i live)
read-is t i (Bits op a b) live =
    read-is t i b (with_read a live) ∙ ap (λ (c : Bool). reads t i b || c) (read-is t i a live)
    ∙ swap-or (reads t i a) (reads t i b) (is_live t i live)
read-is t i (Compare op a b) live =
    read-is t i b (with_read a live) ∙ ap (λ (c : Bool). reads t i b || c) (read-is t i a live)
    ∙ swap-or (reads t i a) (reads t i b) (is_live t i live)
read-is t i (Both a b) live =
    read-is t i b (with_read a live) ∙ ap (λ (c : Bool). reads t i b || c) (read-is t i a live)
    ∙ swap-or (reads t i a) (reads t i b) (is_live t i live)
read-is t i (Either a b) live =
    read-is t i b (with_read a live) ∙ ap (λ (c : Bool). reads t i b || c) (read-is t i a live)
    ∙ swap-or (reads t i a) (reads t i b) (is_live t i live)
read-is t i (Choose u e a b) live =
    read-is t i b (with_read a (with_read e live))
    ∙ ap (λ (c : Bool). reads t i b || c) (read-is t i a (with_read e live)
    ∙ ap (λ (c : Bool). reads t i a || c) (read-is t i e live))
    ∙ swap-three (reads t i e) (reads t i a) (reads t i b) (is_live t i live)

pub all-read-is : (t : CType) (i : ℕ) (es : List CExpr) (live : List LocalName)
    → is_live t i (with_all_read es live) ≡ (list_any (reads t i) es || is_live t i live)
all-read-is t i [] live = refl
all-read-is t i (e ∷ es) live =
    all-read-is t i es (with_read e live) ∙ ap (λ (c : Bool). list_any (reads t i) es || c) (read-is t i e live)
    ∙ swap-or (reads t i e) (list_any (reads t i) es) (is_live t i live)
