-- The least set of numbers that has the first ones, and with each of its numbers those to which that leads.
use Rattle.std.proofs.Common.{◌≡◌, ◌≢◌, ◌⊎◌, ℕ, zero, suc, ◌+◌, ◌≤◌, ◌<◌, Bool, true, false, not, ◌&&◌, ◌||◌, nat_eq}
use Rattle.std.proofs.Common.{Decides, inl, inr, refl, sym, ap, ◌∙◌, subst, arith}
use Rattle.std.proofs.lemmas.Bool.{and_parts, and_from, or_left, or_right, not_from_false, true_from_ne_false}
use Rattle.std.proofs.lemmas.Bool.Decides.{nat_tests, not_from_Decides, Decides-below_or}
use Rattle.checked_chart.specs.Reached.{weight}
use Rattle.chart_structure.proofs.WeightLemmas.{weight_more, weight_ones}

-- ---- tests

-- a number is itself
pub eq_same : (x : ℕ) → nat_eq x x ≡ true
eq_same x = grind (arith, nat_tests)

-- what passes the test is the same
pub eq_is : (x y : ℕ) → nat_eq x y ≡ true → x ≡ y
eq_is x y h = grind (arith, nat_tests)

-- and what isn't the same doesn't pass it
eq_not : (x y : ℕ) → x ≢ y → nat_eq x y ≡ false
eq_not x y h = grind (arith, nat_tests)

-- a test of which the contrary holds fails
off_of : (b : Bool) → not b ≡ true → b ≡ false
off_of true e = absurd (cc e)
off_of false e = refl

-- one of two holds where the first one does
or_none : (b : Bool) → (b || false) ≡ b
or_none true = refl
or_none false = refl

-- some number below the limit passes the test
abbrev any_below : (ℕ → Bool) → ℕ → Bool
any_below p zero = false
any_below p (suc n) = p n || any_below p n

-- that is decided
any_is : (p : ℕ → Bool) (n : ℕ) → Decides (any_below p n) ((k : ℕ) × (k < n) × (p k ≡ true))
any_is p n = Decides-below_or p (λ k. p k ≡ true) (any_below p) (λ k. ((λ e. e), (λ e. e))) refl (λ m. refl) n

-- a set with one more number
abbrev with_one : (ℕ → Bool) → ℕ → ℕ → Bool
with_one s j i = s i || nat_eq i j

-- one more number counts one
one_heavier : (s : ℕ → Bool) (n j : ℕ) → j < n → s j ≡ false
    → weight (with_one s j) (λ _. 1) n ≡ weight s (λ _. 1) n + 1
one_heavier s n j lt off =
    weight_more s (with_one s j) (λ _. 1) n j lt off (or_right (s j) (nat_eq j j) (eq_same j))
    (λ i ne. ap (λ b. s i || b) (eq_not i j ne) ∙ or_none (s i))

-- ---- the least set

module _ (n : ℕ) (first : ℕ → Bool) (next : ℕ → ℕ → Bool) (P : ℕ → Type 0) where
  -- what is in the set has P; the first numbers are in it, and with each number those to which that leads
  pub record Least : Type 0 where
    pub within : ℕ → Bool
    pub sound : (j : ℕ) → within j ≡ true → P j
    pub begins : (j : ℕ) → first j ≡ true → within j ≡ true
    pub goes_on : (k j : ℕ) → within k ≡ true → next k j ≡ true → within j ≡ true

  -- what is in a set has P
  abbrev HoldsOnSet : (ℕ → Bool) → Type 0
  HoldsOnSet s = (j : ℕ) → s j ≡ true → P j

  -- the first numbers, and those to which a number of the set leads
  abbrev brings : (ℕ → Bool) → ℕ → Bool
  brings s j = first j || any_below (λ k. s k && next k j) n

  -- those of them that aren't in the set
  abbrev new : (ℕ → Bool) → ℕ → Bool
  new s j = not (s j) && brings s j

  -- a set with one number more, all of which have P
  record Heavier (s : ℕ → Bool) : Type 0 where
    set : ℕ → Bool
    sound : HoldsOnSet set
    heavier : weight set (λ _. 1) n ≡ weight s (λ _. 1) n + 1

  module _ (starts : (j : ℕ) → first j ≡ true → P j) (on : (k j : ℕ) → P k → next k j ≡ true → P j)
      (low : (k j : ℕ) → next k j ≡ true → k < n) where
    -- what a set brings has P
    brings_sound : (s : ℕ → Bool) → HoldsOnSet s → (j : ℕ) → brings s j ≡ true → P j
    brings_sound s h j e = at (first j) refl e
      where
        at : (b : Bool) → first j ≡ b → (b || any_below (λ k. s k && next k j) n) ≡ true → P j
        at true f e = starts j f
        at false f e =
            let got = (any_is (λ k. s k && next k j) n).0 e in
            let both = and_parts (s got.0) (next got.0 j) got.2 in
            on got.0 j (h got.0 both.0) both.1

    -- where nothing new is brought, what is brought is there
    nothing_new : (s : ℕ → Bool) → any_below (new s) n ≡ false → (k : ℕ) → k < n → brings s k ≡ true → s k ≡ true
    nothing_new s none k lt b =
        true_from_ne_false (s k) (λ off. not_from_Decides (any_below (new s) n) (any_is (new s) n) none
        (k, lt, and_from (not (s k)) (brings s k) (not_from_false (s k) off) b))

    -- then the set is the least one
    settled : (s : ℕ → Bool) → HoldsOnSet s → any_below (new s) n ≡ false → Least
    settled s h none = record {
      within = brings s;
      sound = brings_sound s h;
      begins = λ j f. or_left (first j) (any_below (λ k. s k && next k j) n) f;
      goes_on = λ k j b e.
          let lt = low k j e in
          or_right (first j) (any_below (λ i. s i && next i j) n)
          ((any_is (λ i. s i && next i j) n).1 (k, lt, and_from (s k) (next k j) (nothing_new s none k lt b) e));
    }

    -- what is new has P, and so the set with it
    one_sound : (s : ℕ → Bool) → HoldsOnSet s → (j : ℕ) → P j → HoldsOnSet (with_one s j)
    one_sound s h j p i e = at (s i) refl e
      where
        at : (b : Bool) → s i ≡ b → (b || nat_eq i j) ≡ true → P i
        at true f e = h i f
        at false f e = subst P (sym (eq_is i j e)) p

    -- the set is the least one, or one number is new
    step : (s : ℕ → Bool) → HoldsOnSet s → Least ⊎ Heavier s
    step s h = at (any_below (new s) n) refl
      where
        at : (b : Bool) → any_below (new s) n ≡ b → Least ⊎ Heavier s
        at true e =
            let got = (any_is (new s) n).0 e in
            let both = and_parts (not (s got.0)) (brings s got.0) got.2 in
            inr (record {
              set = with_one s got.0;
              sound = one_sound s h got.0 (brings_sound s h got.0 both.1);
              heavier = one_heavier s n got.0 got.1 (off_of (s got.0) both.0);
            })
        at false e = inl (settled s h e)

    -- from a set on to which so many numbers can be added
    grown : (room : ℕ) (s : ℕ → Bool) → HoldsOnSet s → n ≤ room + weight s (λ _. 1) n → Least
    grown zero s h enough = ended (step s h)
      where
        ended : Least ⊎ Heavier s → Least
        ended (inl least) = least
        ended (inr more) = absurd (omega (arith, more.heavier, weight_ones more.set n))
    grown (suc room) s h enough = went (step s h) (λ s' h' enough'. grown room s' h' enough')
      where
        went : Least ⊎ Heavier s → ((s' : ℕ → Bool) → HoldsOnSet s' → n ≤ room + weight s' (λ _. 1) n → Least) → Least
        went (inl least) on = least
        went (inr more) on = on more.set more.sound (omega (arith, more.heavier))

    -- the least set
    pub least : Least
    least = grown n (λ _. false) (λ j e. absurd (cc e)) (omega arith)
