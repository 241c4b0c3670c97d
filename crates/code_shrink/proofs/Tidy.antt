-- The smaller procedure is neat.
use Rattle.std.proofs.Common.{◌≡◌, ◌≢◌, ◌<◌, ◌≤◌, ◌⊎◌, inl, inr, ⊎_elim, ℕ, zero, suc, ◌+◌, Bool, true, false, List}
use Rattle.std.proofs.Common.{[], ◌∷◌, length, map, drop, Some, None}
use Rattle.std.proofs.Common.{refl, sym, ap, ◌∙◌, subst, arith}
use Rattle.std.specs.Prelude.{slice_get, slice_index_or, ◌==◌, ◌&&◌, not}
use Rattle.std.proofs.lemmas.Bool.Decides.{nat_tests}
use Rattle.actions.specs.Exprs.{Expr}
use Rattle.code_language.specs.Instrs.{Cond, Test, Instr, Unless, Skip}
use Rattle.code_shrink.specs.Neat.{constant_truth, IsAfter, Comes, First, After, IsNoSkip, IsNeatProcedure}
use Rattle.code_shrink.specs.Smaller.{one_if, count, is_idle, keeps, recounted, squeezed, folded, straight, smaller}
use Rattle.code_shrink.specs.Whole.{AreReached}
use Rattle.code_shrink.proofs.Squeezed.{plain}
use Rattle.code_shrink.proofs.Shapes.{Shape, GoesOn, Returns, Tests, Skips, shape, other}
use Rattle.code_shrink.proofs.Placed.{count_next, count_on, kept_at, none_beyond, origin, kept_where}
use Rattle.code_shrink.proofs.Straight.{test_far, skip_far, straight_open}

-- something stands before the end only
pub within : (t : List Instr) (i : ℕ) (x : Instr) → slice_get t i ≡ Some x → i < length t
within [] i x e = absurd (cc e)
within (y ∷ t) zero x e = omega arith
within (y ∷ t) (suc i) x e = omega (arith, within t i x e)

-- something stands before the end
stands_at : (t : List Instr) (i : ℕ) → i < length t → (x : Instr) × (slice_get t i ≡ Some x)
stands_at [] i h = absurd (omega arith)
stands_at (y ∷ t) zero h = (y, refl)
stands_at (y ∷ t) (suc i) h = stands_at t i (omega arith)

-- before the end or not
pub before_or_not : (i n : ℕ) → (i < n) ⊎ (n ≤ i)
before_or_not zero zero = inr (omega arith)
before_or_not zero (suc n) = inl (omega arith)
before_or_not (suc i) zero = inr (omega arith)
before_or_not (suc i) (suc n) =
    ⊎_elim (λ (h : i < n). inl (omega (arith, h))) (λ (h : n ≤ i). inr (omega (arith, h))) (before_or_not i n)

-- both of two tests
first_of_both : (a b : Bool) → (a && b) ≡ true → a ≡ true
first_of_both true b e = refl
first_of_both false b e = absurd (cc e)

-- the number is 0, so the test says so
zero_test : (n : ℕ) → n ≡ 0 → (n == 0) ≡ true
zero_test n h = grind (arith, nat_tests)

-- and the other way round
test_zero : (n : ℕ) → (n == 0) ≡ true → n ≡ 0
test_zero n h = grind (arith, nat_tests)

-- a skip comes of a skip
of_skip : (m : ℕ → ℕ) (x : Instr) (rest : List Bool) (n : ℕ) → Shape x → recounted m x rest ≡ Skip n
    → (k : ℕ) × (x ≡ Skip k) × (count k rest ≡ n)
of_skip m x rest n (GoesOn _ g) e =
    absurd ((other m x g).no_skip n (sym ((plain m x g).counts rest) ∙ e))
of_skip m x rest n (Returns r) e = absurd (cc e)
of_skip m x rest n (Tests k c) e = absurd (cc e)
of_skip m x rest n (Skips k) e = let same : count k rest ≡ n = cc e in (k, refl, same)

-- a test comes of a test
of_test : (m : ℕ → ℕ) (x : Instr) (rest : List Bool) (n : ℕ) (c : Cond) → Shape x → recounted m x rest ≡ Unless n c
    → (k : ℕ) × (x ≡ Unless k c) × (count k rest ≡ n)
of_test m x rest n c (GoesOn _ g) e =
    absurd ((other m x g).no_test n c (sym ((plain m x g).counts rest) ∙ e))
of_test m x rest n c (Returns r) e = absurd (cc e)
of_test m x rest n c (Tests k d) e =
    let same : count k rest ≡ n = cc e in
    let cond : d ≡ c = cc e in
    (k, ap (Unless k) cond, same)
of_test m x rest n c (Skips k) e = absurd (cc e)

-- what isn't a skip isn't idle
busy : (x : Instr) (rest : List Bool) → Shape x → ((k : ℕ) → x ≢ Skip k) → is_idle x rest ≡ false
busy x rest (GoesOn _ g) h = (plain (λ n. n) x g).keeps rest
busy x rest (Returns r) h = refl
busy x rest (Tests k c) h = refl
busy x rest (Skips k) h = absurd (h k refl)

-- the place after an instruction, in the smaller procedure
after_kept : (m : ℕ → ℕ) (ms rest : List Bool) (i j : ℕ) (x : Instr) → Shape x → IsAfter i x j
    → count (i + 1) ms ≡ count i ms + 1 → ((k : ℕ) → count (i + 1 + k) ms ≡ count i ms + 1 + count k rest)
    → IsAfter (count i ms) (recounted m x rest) (count j ms)
after_kept m ms rest i j x (GoesOn _ g) a one more =
    let known = other m x g in
    subst (λ z. IsAfter (count i ms) z (count j ms)) (sym ((plain m x g).counts rest))
    (known.renamed_after (count i ms) (count j ms) (ap (λ n. count n ms) (known.after i j a) ∙ one))
after_kept m ms rest i j x (Returns r) a one more = absurd a
after_kept m ms rest i j x (Tests k c) a one more =
    ⊎_elim (λ (e : j ≡ i + 1). inl (ap (λ n. count n ms) e ∙ one))
    (λ (e : j ≡ i + 1 + k). inr (ap (λ n. count n ms) e ∙ more k)) a
after_kept m ms rest i j x (Skips k) a one more = ap (λ n. count n ms) a ∙ more k

-- an idle instruction leads to what comes next in the smaller procedure
after_idle : (ms rest : List Bool) (i j : ℕ) (x : Instr) → Shape x → IsAfter i x j → is_idle x rest ≡ true
    → ((k : ℕ) → count (i + 1 + k) ms ≡ count i ms + count k rest) → count j ms ≡ count i ms
after_idle ms rest i j x (GoesOn _ g) a idle more =
    let no = (plain (λ n. n) x g).keeps rest in absurd (cc (no, idle))
after_idle ms rest i j x (Returns r) a idle more = absurd a
after_idle ms rest i j x (Tests k c) a idle more = absurd (cc idle)
after_idle ms rest i j x (Skips k) a idle more =
    let none = test_zero (count k rest) idle in
    ap (λ n. count n ms) a ∙ omega (arith, more k, none)

module _ (m : ℕ → ℕ) (is : List Instr) (bs : List Bool) (reached : AreReached (straight is) bs) where
  -- what is kept
  abbrev pub mask : List Bool
  mask = keeps bs (straight is)

  -- the smaller procedure
  abbrev pub out : List Instr
  out = squeezed m mask (straight is)

  -- a count goes on past a place
  past_place : (i k : ℕ) → count (i + 1 + k) mask ≡ count (i + 1) mask + count k (drop (suc i) mask)
  past_place i k =
      let e : i + 1 ≡ suc i = omega arith in
      count_on (i + 1) k mask ∙ ap (λ n. count (i + 1) mask + count k (drop n mask)) e

  -- where a reached place leads to, by whether it is idle
  comes_by : (i j : ℕ) (x : Instr) (idle : Bool) → slice_get (straight is) i ≡ Some x → IsAfter i x j
      → slice_index_or bs i false ≡ true → is_idle x (drop (suc i) mask) ≡ idle → Comes out (count i mask)
      → Comes out (count j mask)
  comes_by i j x true e a marked idle c =
      let kept : slice_index_or mask i false ≡ false = kept_where bs (straight is) i x e
      ∙ ap (λ b. b && not (is_idle x (drop (suc i) mask))) marked ∙ ap not idle in
      let next : count (i + 1) mask ≡ count i mask =
      let n = count_next i mask in
      let z : one_if (slice_index_or mask i false) 0 ≡ 0 = ap (λ b. one_if b 0) kept in
      omega (arith, n, z) in
      subst (λ n. Comes out n)
      (sym (after_idle mask (drop (suc i) mask) i j x (shape x) a idle (λ k. past_place i k
      ∙ ap (λ n. n + count k (drop (suc i) mask)) next))) c
  comes_by i j x false e a marked idle c =
      let kept : slice_index_or mask i false ≡ true = kept_where bs (straight is) i x e
      ∙ ap (λ b. b && not (is_idle x (drop (suc i) mask))) marked ∙ ap not idle in
      let next : count (i + 1) mask ≡ count i mask + 1 =
      let n = count_next i mask in
      let z : one_if (slice_index_or mask i false) 0 ≡ 1 = ap (λ b. one_if b 0) kept in
      omega (arith, n, z) in
      After (count i mask) (count j mask) (recounted m x (drop (suc i) mask)) c
      (kept_at m mask (straight is) i x e kept)
      (after_kept m mask (drop (suc i) mask) i j x (shape x) a next
      (λ k. past_place i k ∙ ap (λ n. n + count k (drop (suc i) mask)) next))

  -- what is reached is reached in the smaller procedure
  comes_kept : (i : ℕ) → Comes (straight is) i → Comes out (count i mask)
  comes_kept _ First = First
  comes_kept _ (After i j x c e a) =
      comes_by i j x (is_idle x (drop (suc i) mask)) e a
      (reached.complete i (within (straight is) i x e) c) refl (comes_kept i c)

  -- a place that is kept is reached
  kept_comes : (i : ℕ) (x : Instr) → slice_get (straight is) i ≡ Some x → slice_index_or mask i false ≡ true
      → Comes (straight is) i
  kept_comes i x e kept = reached.sound i
      (first_of_both (slice_index_or bs i false) (not (is_idle x (drop (suc i) mask)))
      (sym (kept_where bs (straight is) i x e) ∙ kept))

  -- each place of the smaller procedure is reached
  all_reached : (j : ℕ) → j < length out → Comes out j
  all_reached j h =
      let s = stands_at out j h in
      let o = origin m mask (straight is) j s.0 s.1 in
      subst (λ n. Comes out n) o.at (comes_kept o.place (kept_comes o.place o.instr o.there o.kept))

  -- no skip of it passes over nothing
  none_idle : (j : ℕ) → slice_get out j ≢ Some (Skip 0)
  none_idle j e =
      let o = origin m mask (straight is) j (Skip 0) e in
      let s = of_skip m o.instr (drop (suc o.place) mask) 0 (shape o.instr) o.now in
      let idle : is_idle o.instr (drop (suc o.place) mask) ≡ true =
      ap (λ x. is_idle x (drop (suc o.place) mask)) s.1 ∙ zero_test (count s.0 (drop (suc o.place) mask)) s.2 in
      let lost = kept_where bs (straight is) o.place o.instr o.there
      ∙ ap (λ b. slice_index_or bs o.place false && not b) idle in
      never (slice_index_or bs o.place false) (sym lost ∙ o.kept)
    where
      never : (b : Bool) → (b && false) ≡ true → ⊥
      never true e = cc e
      never false e = cc e

  -- no test of it is constant
  none_constant : (j k : ℕ) (d : Expr) → slice_get out j ≡ Some (Unless k (Test d)) → constant_truth d ≡ None
  none_constant j k d e =
      let o = origin m mask (straight is) j (Unless k (Test d)) e in
      let s = of_test m o.instr (drop (suc o.place) mask) k (Test d) (shape o.instr) o.now in
      straight_open is o.place s.0 d (o.there ∙ ap Some s.1)

  -- at a place that is reached, and where no skip stands, none stands now
  no_skip_now : (i : ℕ) → Comes (straight is) i → IsNoSkip (straight is) i → IsNoSkip out (count i mask)
  no_skip_now i c far n e =
      ⊎_elim
      (λ (h : i < length (straight is)).
      let s = stands_at (straight is) i h in
      let busy_here = busy s.0 (drop (suc i) mask) (shape s.0) (λ k q. far k (s.1 ∙ ap Some q)) in
      let kept : slice_index_or mask i false ≡ true = kept_where bs (straight is) i s.0 s.1
      ∙ ap (λ b. b && not (is_idle s.0 (drop (suc i) mask))) (reached.complete i h c) ∙ ap not busy_here in
      let now = kept_at m mask (straight is) i s.0 s.1 kept in
      let same : recounted m s.0 (drop (suc i) mask) ≡ Skip n = cc (now, e) in
      let t = of_skip m s.0 (drop (suc i) mask) n (shape s.0) same in
      far t.0 (s.1 ∙ ap Some t.1))
      (λ (h : length (straight is) ≤ i).
      let none = none_beyond m mask (straight is) i h in cc (none, e))
      (before_or_not i (length (straight is)))

  -- where a kept jump leads to, counted in the smaller procedure
  target_at : (i j k n : ℕ) → slice_index_or mask i false ≡ true → count i mask ≡ j → count k (drop (suc i) mask) ≡ n
      → count (i + 1 + k) mask ≡ j + 1 + n
  target_at i j k n kept at counted =
      let next = count_next i mask in
      let z : one_if (slice_index_or mask i false) 0 ≡ 1 = ap (λ b. one_if b 0) kept in
      let on = past_place i k in
      omega (arith, next, z, on, at, counted)

  -- no test of it leads to a skip
  tests_far : (j n : ℕ) (c : Cond) → slice_get out j ≡ Some (Unless n c) → IsNoSkip out (j + 1 + n)
  tests_far j n c e =
      let o = origin m mask (straight is) j (Unless n c) e in
      let s = of_test m o.instr (drop (suc o.place) mask) n c (shape o.instr) o.now in
      let there = o.there ∙ ap Some s.1 in
      subst (λ i. IsNoSkip out i) (target_at o.place j s.0 n o.kept o.at s.2)
      (no_skip_now (o.place + 1 + s.0)
      (After o.place (o.place + 1 + s.0) (Unless s.0 c) (kept_comes o.place o.instr o.there o.kept) there (inr refl))
      (test_far (map folded is) o.place s.0 c there))

  -- and no skip
  skips_far : (j n : ℕ) → slice_get out j ≡ Some (Skip n) → IsNoSkip out (j + 1 + n)
  skips_far j n e =
      let o = origin m mask (straight is) j (Skip n) e in
      let s = of_skip m o.instr (drop (suc o.place) mask) n (shape o.instr) o.now in
      let there = o.there ∙ ap Some s.1 in
      subst (λ i. IsNoSkip out i) (target_at o.place j s.0 n o.kept o.at s.2)
      (no_skip_now (o.place + 1 + s.0)
      (After o.place (o.place + 1 + s.0) (Skip s.0) (kept_comes o.place o.instr o.there o.kept) there refl)
      (skip_far (map folded is) o.place s.0 there))

  -- the smaller procedure is neat
  pub smaller_is_neat : IsNeatProcedure (smaller m bs is)
  smaller_is_neat = record {
    reached = all_reached;
    undecided = none_constant;
    far = none_idle;
    tests = tests_far;
    skips = skips_far;
  }
