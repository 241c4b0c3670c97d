-- What is found breadth first: each number once, all that they lead to, and nothing else.
use Rattle.std.proofs.Common.{◌≡◌, ℕ, zero, suc, ◌+◌, ◌<◌, ◌≤◌, Bool, true, false, List, [], ◌∷◌, ◌++◌, length, drop}
use Rattle.std.proofs.Common.{Option, Some, None, inl, inr, refl, sym, ap, ◌∙◌, subst, arith, length-append}
use Rattle.std.proofs.Common.{append_assoc}
use Rattle.std.proofs.Common.{append-nil}
use Rattle.std.specs.Prelude.{slice_get, nat_eq, ◌||◌, if◌then◌else◌}
use Rattle.std.specs.List.{AllByRecursion}
use Rattle.std.proofs.lemmas.Bool.{cases_lt}
use Rattle.chart_code.specs.ReachedJunctions.{has, Distinct, sum_over, meet_one, meet, on_some, spread}
use Rattle.chart_code.proofs.Weights.{at_most_all}
use Rattle.chart_code.proofs.Members.{eq_is, has_front, has_last, has_at, all_has, all_more, distinct_more}

-- ---- longer lists

-- the second list begins with the first
pub record Extends (old new : List ℕ) : Type 0 where
  pub extra : List ℕ
  pub is : new ≡ old ++ extra

-- a list begins with itself
extends_same : (xs : List ℕ) → Extends xs xs
extends_same xs = record { extra = []; is = sym (append-nil xs) }

-- and so on
extends_on : (xs ys zs : List ℕ) → Extends xs ys → Extends ys zs → Extends xs zs
extends_on xs ys zs a b = record {
  extra = a.extra ++ b.extra;
  is = b.is ∙ ap (λ l. l ++ b.extra) a.is ∙ append_assoc xs a.extra b.extra;
}

-- what is in a list is in a longer one
extends_has : (xs ys : List ℕ) (j : ℕ) → Extends xs ys → has xs j ≡ true → has ys j ≡ true
extends_has xs ys j a h = subst (λ l. has l j ≡ true) (sym a.is) (has_front xs a.extra j h)

-- what stands in a list stands in it with more after it
get_more : (xs ys : List ℕ) (i j : ℕ) → slice_get xs i ≡ Some j → slice_get (xs ++ ys) i ≡ Some j
get_more [] ys i j h = cc
get_more (x ∷ xs) ys zero j h = h
get_more (x ∷ xs) ys (suc i) j h = get_more xs ys i j h

-- what stands in a list stands in a longer one
extends_get : (xs ys : List ℕ) (i j : ℕ) → Extends xs ys → slice_get xs i ≡ Some j → slice_get ys i ≡ Some j
extends_get xs ys i j a h = subst (λ l. slice_get l i ≡ Some j) (sym a.is) (get_more xs a.extra i j h)

-- ---- places

-- a place at which a number stands is within the list
get_within : (xs : List ℕ) (k j : ℕ) → slice_get xs k ≡ Some j → k < length xs
get_within [] k j e = absurd cc
get_within (x ∷ xs) zero j e = omega arith
get_within (x ∷ xs) (suc k) j e = omega (arith, get_within xs k j e)

-- where none stands the list is over
get_none : (xs : List ℕ) (i : ℕ) → slice_get xs i ≡ None → length xs ≤ i
get_none [] i e = omega arith
get_none (x ∷ xs) zero e = absurd cc
get_none (x ∷ xs) (suc i) e = omega (arith, get_none xs i e)

-- within the list a number stands
get_some : (xs : List ℕ) (k : ℕ) → k < length xs → (y : ℕ) × (slice_get xs k ≡ Some y)
get_some [] k h = absurd (omega arith)
get_some (x ∷ xs) zero h = (x, refl)
get_some (x ∷ xs) (suc k) h = get_some xs k (omega arith)

-- the sum from a place on
drop_sum : (f : ℕ → ℕ) (xs : List ℕ) (i j : ℕ) → slice_get xs i ≡ Some j
    → sum_over f (drop i xs) ≡ f j + sum_over f (drop (suc i) xs)
unfolding sum_over
drop_sum f [] i j e = absurd cc
drop_sum f (x ∷ xs) zero j e = let q : x ≡ j = cc in omega (arith, ap f q)
drop_sum f (x ∷ xs) (suc i) j e = drop_sum f xs i j e

-- ---- meeting

-- what is known of numbers that were found: none stands twice, and all have P
pub record AreFound (P : ℕ → Type 0) (found : List ℕ) : Type 0 where
  pub once : Distinct found
  pub each : AllByRecursion P found

-- one number more, where it is new
record Met (P : ℕ → Type 0) (found : List ℕ) (j : ℕ) (new : List ℕ) : Type 0 where
  pub extends : Extends found new
  pub there : has new j ≡ true
  pub few : length new ≤ suc (length found)
  pub keeps : AreFound P new

-- numbers more, those that are new
record MetAll (P : ℕ → Type 0) (found js new : List ℕ) : Type 0 where
  pub extends : Extends found new
  pub there : (j : ℕ) → has js j ≡ true → has new j ≡ true
  pub few : length new ≤ length found + length js
  pub keeps : AreFound P new

module _ (P : ℕ → Type 0) where
  -- one number is met
  met_one : (found : List ℕ) (j : ℕ) → P j → AreFound P found → Met P found j (meet_one found j)
  met_one found j p f = at (has found j) refl
    where
      at : (b : Bool) → has found j ≡ b → Met P found j (if b then found else found ++ j ∷ [])
      at true e = record { extends = extends_same found; there = e; few = omega arith; keeps = f }
      at false e = record {
        extends = record { extra = j ∷ []; is = refl };
        there = has_last found j;
        few = omega (arith, length-append found (j ∷ []));
        keeps = record { once = distinct_more found j f.once e; each = all_more P found j f.each p };
      }

  -- numbers are met
  met_all : (found js : List ℕ) → AllByRecursion P js → AreFound P found → MetAll P found js (meet found js)
  unfolding meet has
  met_all found [] a f =
      record { extends = extends_same found; there = λ j h. cc; few = omega arith; keeps = f }
  met_all found (k ∷ js) a f =
      let one = met_one found k a.0 f in
      let rest = met_all (meet_one found k) js a.1 one.keeps in
      record {
        extends = extends_on found (meet_one found k) (meet (meet_one found k) js) one.extends rest.extends;
        there = λ j h. at (nat_eq k j) j refl h one rest;
        few = omega (arith, one.few, rest.few);
        keeps = rest.keeps;
      }
    where
      at : (b : Bool) (j : ℕ) → nat_eq k j ≡ b → (nat_eq k j || has js j) ≡ true → Met P found k (meet_one found k)
          → MetAll P (meet_one found k) js (meet (meet_one found k) js)
          → has (meet (meet_one found k) js) j ≡ true
      at true j e h one rest =
          subst (λ y. has (meet (meet_one found k) js) y ≡ true) (eq_is k j e)
          (extends_has (meet_one found k) (meet (meet_one found k) js) k rest.extends one.there)
      at false j e h one rest = rest.there j (ap (λ c. c || has js j) (sym e) ∙ h)

-- ---- spreading

-- what numbers lead to has P where they have it, and what has P is below n
pub record Leads (next : ℕ → List ℕ) (n : ℕ) (P : ℕ → Type 0) : Type 0 where
  pub on : (j : ℕ) → P j → AllByRecursion P (next j)
  pub below : (j : ℕ) → P j → j < n

module _ (next : ℕ → List ℕ) (n : ℕ) (P : ℕ → Type 0) (leads : Leads next n P) where
  -- what all have is below n
  pub all_below : (xs : List ℕ) → AllByRecursion P xs → AllByRecursion (λ x. x < n) xs
  all_below [] a = tt
  all_below (x ∷ xs) a = (leads.below x a.0, all_below xs a.1)

  -- no more were found than there are
  found_few : (found : List ℕ) → AreFound P found → length found ≤ n
  found_few found f = at_most_all found n f.once (all_below found f.each)

  -- what the numbers before the i-th lead to is there
  abbrev ClosedTo : ℕ → List ℕ → Type 0
  ClosedTo i found =
      (k j x : ℕ) → k < i → slice_get found k ≡ Some j → has (next j) x ≡ true → has found x ≡ true

  -- all that is found, with what it leads to
  pub record Spread (i : ℕ) (found all : List ℕ) : Type 0 where
    pub extends : Extends found all
    pub keeps : AreFound P all
    pub closed : ClosedTo (length all) all
    pub few : length all ≤ length found + sum_over (λ j. length (next j)) (drop i all)

  -- nothing is left to look at
  spread_done : (i : ℕ) (found : List ℕ) → AreFound P found → ClosedTo i found → length found ≤ i → Spread i found found
  spread_done i found f c h = record {
    extends = extends_same found;
    keeps = f;
    closed = λ k j x l e g. c k j x (omega arith) e g;
    few = omega arith;
  }

  -- with what the i-th number leads to, what those up to it lead to is there
  closed_one : (i : ℕ) (found : List ℕ) (j : ℕ) → ClosedTo i found → slice_get found i ≡ Some j
      → MetAll P found (next j) (meet found (next j)) → ClosedTo (suc i) (meet found (next j))
  closed_one i found j c e all k y x l g q = elim (cases_lt k i) [
    | inl h ↦
        let old = get_some found k (omega (arith, get_within found i j e)) in
        let there = extends_get found (meet found (next j)) k old.0 all.extends old.1 in
        let same : old.0 ≡ y = cc in
        let old_y : slice_get found k ≡ Some y = cc in
        extends_has found (meet found (next j)) x all.extends (c k y x h old_y q)
    | inr h ↦
        let here : k ≡ i = omega arith in
        let there = extends_get found (meet found (next j)) i j all.extends e in
        let same : y ≡ j = cc in
        all.there x (subst (λ z. has (next z) x ≡ true) same q)
  ]

  -- from the i-th number on
  spreads : (m i : ℕ) (found : List ℕ) → n ≤ m + i → AreFound P found → ClosedTo i found
      → Spread i found (spread next m i found)
  unfolding spread
  spreads zero i found h f c = spread_done i found f c (omega (arith, found_few found f))
  spreads (suc m) i found h f c =
      at (slice_get found i) refl (λ found' f' c'. spreads m (suc i) found' (omega arith) f' c')
    where
      at : (o : Option ℕ) → slice_get found i ≡ o
          → ((found' : List ℕ) → AreFound P found' → ClosedTo (suc i) found'
          → Spread (suc i) found' (spread next m (suc i) found'))
          → Spread i found (on_some o found (λ j. spread next m (suc i) (meet found (next j))))
      at None e ih = spread_done i found f c (get_none found i e)
      at (Some j) e ih =
          let p = all_has P found j f.each (has_at found i j e) in
          let all = met_all P found (next j) (leads.on j p) f in
          let found' = meet found (next j) in
          let closed' : ClosedTo (suc i) found' = λ k y x l g q. closed_one i found j c e all k y x l g q in
          let rest = ih found' all.keeps closed' in
          let whole = spread next m (suc i) found' in
          let there = extends_get found whole i j (extends_on found found' whole all.extends rest.extends) e in
          record {
            extends = extends_on found found' whole all.extends rest.extends;
            keeps = rest.keeps;
            closed = rest.closed;
            few = omega (arith, rest.few, all.few, drop_sum (λ y. length (next y)) whole i j there);
          }

  -- what is reached from the first ones
  pub record ReachedFrom (first all : List ℕ) : Type 0 where
    pub keeps : AreFound P all
    pub starts : (x : ℕ) → has first x ≡ true → has all x ≡ true
    pub closed : (k j x : ℕ) → slice_get all k ≡ Some j → has (next j) x ≡ true → has all x ≡ true
    pub few : length all ≤ length first + sum_over (λ j. length (next j)) all

  -- it is found
  pub reaches : (first : List ℕ) → AllByRecursion P first → ReachedFrom first (spread next n 0 (meet [] first))
  reaches first a =
      let none : AreFound P [] = record { once = tt; each = tt } in
      let start = met_all P [] first a none in
      let found = meet [] first in
      let all = spread next n 0 found in
      let got = spreads n 0 found (omega arith) start.keeps (λ k j x l e q. absurd (omega arith)) in
      record {
        keeps = got.keeps;
        starts = λ x h. extends_has found all x got.extends (start.there x h);
        closed = λ k j x e q. got.closed k j x (get_within all k j e) e q;
        few = omega (arith, got.few, start.few);
      }
