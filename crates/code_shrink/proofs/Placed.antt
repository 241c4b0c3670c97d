-- Where the instructions of the smaller procedure stand.
use Rattle.std.proofs.Common.{◌≡◌, ◌≤◌, ℕ, zero, suc, ◌+◌, Bool, true, false, List, [], ◌∷◌, length, drop, Some, None}
use Rattle.std.proofs.Common.{refl, ap, ◌∙◌, arith}
use Rattle.std.specs.Prelude.{slice_get, slice_index_or, ◌&&◌, not}
use Rattle.code_language.specs.Instrs.{Instr}
use Rattle.code_shrink.specs.Smaller.{one_if, count, is_idle, keeps, recounted, put_if, squeezed}

-- nothing is kept of nothing
nothing_counted : (k : ℕ) → count k [] ≡ 0
nothing_counted zero = refl
nothing_counted (suc k) = refl

-- one place further the count grows by one where the place is kept
pub count_next : (i : ℕ) (bs : List Bool) → count (i + 1) bs ≡ count i bs + one_if (slice_index_or bs i false) 0
count_next zero [] = omega arith
count_next zero (true ∷ bs) = omega arith
count_next zero (false ∷ bs) = omega arith
count_next (suc i) [] =
    let e : suc i + 1 ≡ suc (i + 1) = omega arith in ap (λ n. count n []) e ∙ omega arith
count_next (suc i) (true ∷ bs) =
    let e : suc i + 1 ≡ suc (i + 1) = omega arith in
    ap (λ n. count n (true ∷ bs)) e ∙ omega (arith, count_next i bs)
count_next (suc i) (false ∷ bs) =
    let e : suc i + 1 ≡ suc (i + 1) = omega arith in
    ap (λ n. count n (false ∷ bs)) e ∙ omega (arith, count_next i bs)

-- a count goes on after a place
pub count_on : (i k : ℕ) (bs : List Bool) → count (i + k) bs ≡ count i bs + count k (drop i bs)
count_on zero k bs = let e : zero + k ≡ k = omega arith in ap (λ n. count n bs) e ∙ omega arith
count_on (suc i) k [] =
    let e : suc i + k ≡ suc (i + k) = omega arith in ap (λ n. count n []) e ∙ omega (arith, nothing_counted k)
count_on (suc i) k (true ∷ bs) =
    let e : suc i + k ≡ suc (i + k) = omega arith in
    ap (λ n. count n (true ∷ bs)) e ∙ omega (arith, count_on i k bs)
count_on (suc i) k (false ∷ bs) =
    let e : suc i + k ≡ suc (i + k) = omega arith in
    ap (λ n. count n (false ∷ bs)) e ∙ omega (arith, count_on i k bs)

-- past an instruction that may be kept
past_get : (b : Bool) (y : Instr) (n : ℕ) (out : List Instr) → slice_get (put_if b y out) (one_if b n) ≡ slice_get out n
past_get true y n out = refl
past_get false y n out = refl

-- a kept instruction stands at the count of those before it
pub kept_at : (m : ℕ → ℕ) (ms : List Bool) (t : List Instr) (i : ℕ) (x : Instr) → slice_get t i ≡ Some x
    → slice_index_or ms i false ≡ true
    → slice_get (squeezed m ms t) (count i ms) ≡ Some (recounted m x (drop (suc i) ms))
kept_at m [] t i x e h = absurd cc
kept_at m (b ∷ ms) [] i x e h = absurd cc
kept_at m (false ∷ ms) (y ∷ t) zero x e h = absurd cc
kept_at m (true ∷ ms) (y ∷ t) zero x e h = let same : y ≡ x = cc e in ap (λ z. Some (recounted m z ms)) same
kept_at m (b ∷ ms) (y ∷ t) (suc i) x e h =
    past_get b (recounted m y ms) (count i ms) (squeezed m ms t) ∙ kept_at m ms t i x e h

-- past the end nothing stands
pub none_beyond : (m : ℕ → ℕ) (ms : List Bool) (t : List Instr) (j : ℕ) → length t ≤ j
    → slice_get (squeezed m ms t) (count j ms) ≡ None
none_beyond m [] t j h = refl
none_beyond m (b ∷ ms) [] j h = refl
none_beyond m (b ∷ ms) (y ∷ t) zero h = absurd (omega arith)
none_beyond m (b ∷ ms) (y ∷ t) (suc j) h =
    past_get b (recounted m y ms) (count j ms) (squeezed m ms t) ∙ none_beyond m ms t j (omega arith)

-- where an instruction of the smaller procedure comes from
pub record Origin (m : ℕ → ℕ) (ms : List Bool) (t : List Instr) (j : ℕ) (z : Instr) : Type 0 where
  pub place : ℕ
  pub instr : Instr
  pub there : slice_get t place ≡ Some instr
  pub kept : slice_index_or ms place false ≡ true
  pub at : count place ms ≡ j
  pub now : recounted m instr (drop (suc place) ms) ≡ z

-- each has an origin
pub origin : (m : ℕ → ℕ) (ms : List Bool) (t : List Instr) (j : ℕ) (z : Instr)
    → slice_get (squeezed m ms t) j ≡ Some z → Origin m ms t j z
origin m [] t j z e = absurd cc
origin m (b ∷ ms) [] j z e = absurd cc
origin m (true ∷ ms) (y ∷ t) zero z e =
    let same : recounted m y ms ≡ z = cc e in
    record { place = 0; instr = y; there = refl; kept = refl; at = refl; now = same }
origin m (true ∷ ms) (y ∷ t) (suc j) z e =
    let o = origin m ms t j z e in
    record { place = suc o.place; instr = o.instr; there = o.there; kept = o.kept; at = ap suc o.at; now = o.now }
origin m (false ∷ ms) (y ∷ t) j z e =
    let o = origin m ms t j z e in
    record { place = suc o.place; instr = o.instr; there = o.there; kept = o.kept; at = o.at; now = o.now }

-- a place is kept where it is reached and its instruction isn't idle
pub kept_where : (bs : List Bool) (t : List Instr) (i : ℕ) (x : Instr) → slice_get t i ≡ Some x
    → slice_index_or (keeps bs t) i false ≡ (slice_index_or bs i false && not (is_idle x (drop (suc i) (keeps bs t))))
kept_where [] t i x e = refl
kept_where (b ∷ bs) [] i x e = absurd cc
kept_where (b ∷ bs) (y ∷ t) zero x e =
    let same : y ≡ x = cc e in ap (λ z. b && not (is_idle z (keeps bs t))) same
kept_where (b ∷ bs) (y ∷ t) (suc i) x e = kept_where bs t i x e
