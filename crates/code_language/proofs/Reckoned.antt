-- Numbers that are reckoned from the first procedure on: what is appended changes none, and bounds are proved procedure by procedure.
use Rattle.std.proofs.Common.{◌≡◌, ℕ, zero, suc, ◌+◌, ◌<◌, ◌≤◌, List, [], ◌∷◌, ◌++◌, length, Some, refl, sym, ap}
use Rattle.std.proofs.Common.{◌∙◌, subst, arith, append_assoc, length-append}
use Rattle.std.specs.Prelude.{slice_get, slice_index}
use Rattle.std.proofs.Math.Seq.{get_or-append_seam}
use Rattle.std.proofs.lemmas.List.{append-nil}
use Rattle.code_language.specs.Instrs.{Instr}
use Rattle.code_language.specs.Measures.{reckon}
use Rattle.code_language.specs.Sound.{CallsBelow}

-- a number of a procedure by those of the procedures that it calls: greater ones give no less, and only those that it calls count
pub record IsMeasure (F : (ℕ → ℕ) → List Instr → ℕ) : Type 0 where
  pub grows : (f g : ℕ → ℕ) (is : List Instr) → ((p : ℕ) → f p ≤ g p) → F f is ≤ F g is
  pub agrees : (f g : ℕ → ℕ) (n : ℕ) (is : List Instr) → CallsBelow n is → ((p : ℕ) → p < n → f p ≡ g p)
      → F f is ≡ F g is

-- ---- lists

-- numbers at the front stay where they are
pub at_front : (ns ms : List ℕ) (p : ℕ) → p < length ns → slice_index (ns ++ ms) p ≡ slice_index ns p
at_front [] ms p h = absurd (omega arith)
at_front (x ∷ ns) ms zero h = refl
at_front (x ∷ ns) ms (suc p) h = at_front ns ms p (omega arith)

module _ (F : (ℕ → ℕ) → List Instr → ℕ) where
  -- the numbers of the procedures alone
  later : List ℕ → List (List Instr) → List ℕ
  later ns [] = []
  later ns (is ∷ ps) = F (slice_index ns) is ∷ later (ns ++ F (slice_index ns) is ∷ []) ps

  -- the numbers that were there come first
  reckon_later : (ps : List (List Instr)) (ns : List ℕ) → reckon F ns ps ≡ ns ++ later ns ps
  unfolding reckon later
  reckon_later [] ns = sym (append-nil ns)
  reckon_later (is ∷ ps) ns =
      let x = F (slice_index ns) is in
      reckon_later ps (ns ++ x ∷ []) ∙ append_assoc ns (x ∷ []) (later (ns ++ x ∷ []) ps)

  -- numbers that were there stay
  pub reckon_keeps : (ps : List (List Instr)) (ns : List ℕ) (p : ℕ) → p < length ns
      → slice_index (reckon F ns ps) p ≡ slice_index ns p
  reckon_keeps ps ns p h = ap (λ l. slice_index l p) (reckon_later ps ns) ∙ at_front ns (later ns ps) p h

  -- the number of the procedure that comes next
  pub reckon_here : (ns : List ℕ) (is : List Instr) (ps : List (List Instr))
      → slice_index (reckon F ns (is ∷ ps)) (length ns) ≡ F (slice_index ns) is
  unfolding later
  reckon_here ns is ps = ap (λ l. slice_index l (length ns)) (reckon_later (is ∷ ps) ns)
      ∙ get_or-append_seam ns (F (slice_index ns) is) (later (ns ++ F (slice_index ns) is ∷ []) ps) 0

  -- the numbers that were there, that of the procedure that comes next, and others
  pub reckon_split : (ns : List ℕ) (is : List Instr) (ps : List (List Instr))
      → (rest : List ℕ) × (reckon F ns (is ∷ ps) ≡ ns ++ F (slice_index ns) is ∷ rest)
  unfolding later
  reckon_split ns is ps = (later (ns ++ F (slice_index ns) is ∷ []) ps, reckon_later (is ∷ ps) ns)

  module _ (measure : IsMeasure F) where
    -- one more number
    one_longer : (ns : List ℕ) (x : ℕ) → length (ns ++ x ∷ []) ≡ suc (length ns)
    one_longer ns x = omega (arith, length-append ns (x ∷ []))

    -- where its calls go lower, it has exactly that
    pub reckon_is : (ps : List (List Instr)) (ns : List ℕ) (k : ℕ) (is : List Instr) → slice_get ps k ≡ Some is
        → CallsBelow (length ns + k) is
        → slice_index (reckon F ns ps) (length ns + k) ≡ F (slice_index (reckon F ns ps)) is
    unfolding reckon
    reckon_is [] ns k is e low = absurd (cc e)
    reckon_is (js ∷ ps) ns zero is e low =
        let q : js ≡ is = cc e in
        let n : length ns + 0 ≡ length ns = omega arith in
        let here = ap (λ i. slice_index (reckon F ns (js ∷ ps)) i) n ∙ reckon_here ns js ps in
        let low' : CallsBelow (length ns) is = subst (λ i. CallsBelow i is) n low in
        let same = measure.agrees (slice_index ns) (slice_index (reckon F ns (js ∷ ps))) (length ns) is low' (λ p h. sym (reckon_keeps (js ∷ ps) ns p h)) in
        here ∙ ap (λ l. F (slice_index ns) l) q ∙ same
    reckon_is (js ∷ ps) ns (suc k) is e low =
        let x = F (slice_index ns) js in
        let n : length (ns ++ x ∷ []) + k ≡ length ns + suc k = omega (arith, one_longer ns x) in
        subst (λ i. slice_index (reckon F (ns ++ x ∷ []) ps) i ≡ F (slice_index (reckon F (ns ++ x ∷ []) ps)) is) n (reckon_is ps (ns ++ x ∷ []) k is e (subst (λ i. CallsBelow i is) (sym n) low))

    -- bounds that each procedure keeps by those of the procedures that it calls are bounds
    pub reckon_bounded : (b : ℕ → ℕ) (ps : List (List Instr)) (ns : List ℕ) → ((p : ℕ) → slice_index ns p ≤ b p)
        → ((k : ℕ) (is : List Instr) → slice_get ps k ≡ Some is → F b is ≤ b (length ns + k)) → (p : ℕ)
        → slice_index (reckon F ns ps) p ≤ b p
    unfolding reckon
    reckon_bounded b [] ns old each p = old p
    reckon_bounded b (is ∷ ps) ns old each p =
        let x = F (slice_index ns) is in
        let here : x ≤ b (length ns) =
        let n : length ns + 0 ≡ length ns = omega arith in
        omega (arith, measure.grows (slice_index ns) b is old, subst (λ i. F b is ≤ b i) n (each 0 is refl)) in
        reckon_bounded b ps (ns ++ x ∷ []) (λ p'. with_last ns x b old here p') (λ k js e.
        let n : length ns + suc k ≡ length (ns ++ x ∷ []) + k = omega (arith, one_longer ns x) in
        subst (λ i. F b js ≤ b i) n (each (suc k) js e)) p
      where
        with_last : (ms : List ℕ) (y : ℕ) (c : ℕ → ℕ) → ((p : ℕ) → slice_index ms p ≤ c p) → y ≤ c (length ms)
            → (p : ℕ) → slice_index (ms ++ y ∷ []) p ≤ c p
        with_last [] y c low h zero = h
        with_last [] y c low h (suc p) = omega arith
        with_last (m ∷ ms) y c low h zero = low 0
        with_last (m ∷ ms) y c low h (suc p) = with_last ms y (λ i. c (suc i)) (λ i. low (suc i)) h p
