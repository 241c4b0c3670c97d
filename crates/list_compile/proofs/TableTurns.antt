-- How tables are made and read.
use Rattle.std.proofs.Common.{◌≡◌, ℕ, zero, suc, ◌+◌, ◌*◌, ◌<◌, ◌≤◌, List, [], ◌∷◌, ◌++◌, length, refl, sym, ap, ◌∙◌}
use Rattle.std.proofs.Common.{arith, inl, inr, length-append, subst}
use Rattle.std.specs.Prelude.{slice_index_or}
use Rattle.std.proofs.lemmas.Bool.{cases_lt}
use Rattle.chart_code.specs.Orders.{sum_to}
use Rattle.list_compile.specs.declared.number_limits.TheConstants.{SIZE_LIMIT, SUM_LIMIT}
use Rattle.list_compile.specs.Tables.{IsTable, AreLow}

-- what stands in a list stands in it with one more after it
get_front : (xs : List ℕ) (x k : ℕ) → k < length xs → slice_index_or (xs ++ x ∷ []) k 0 ≡ slice_index_or xs k 0
get_front [] x k h = absurd (omega arith)
get_front (y ∷ xs) x zero h = refl
get_front (y ∷ xs) x (suc k) h = get_front xs x k (omega arith)

-- and that one stands at its end
get_last : (xs : List ℕ) (x k : ℕ) → k ≡ length xs → slice_index_or (xs ++ x ∷ []) k 0 ≡ x
get_last [] x k h = rw h refl
get_last (y ∷ xs) x zero h = absurd (omega arith)
get_last (y ∷ xs) x (suc k) h = get_last xs x k (omega arith)

-- an empty table
pub table_none : (f : ℕ → ℕ) (b : ℕ) (xs : List ℕ) → xs ≡ [] → IsTable f 0 b xs
table_none f b xs e = record {
  long = ap (λ ys. length ys) e;
  each = λ k h. absurd (omega arith);
  low = λ k h. absurd (omega arith);
}

-- a table with one more number
pub table_more : (f : ℕ → ℕ) (n m b x : ℕ) (xs new : List ℕ) → m ≡ n + 1 → IsTable f n b xs → x ≡ f n → x ≤ b
    → new ≡ xs ++ x ∷ [] → IsTable f m b new
table_more f n m b x xs new e t is small step = subst (λ l. IsTable f m b l) (sym step) (record {
  long = omega (arith, length-append xs (x ∷ []), t.long);
  each = λ k h. elim (cases_lt k n) [
    | inl lt ↦ get_front xs x k (omega (arith, t.long)) ∙ t.each k lt
    | inr le ↦
        let here : n ≡ k = omega arith in get_last xs x k (omega (arith, t.long)) ∙ is ∙ ap f here
  ];
  low = λ k h. elim (cases_lt k n) [
    | inl lt ↦ t.low k lt
    | inr le ↦ let here : n ≡ k = omega arith in omega (arith, ap f here)
  ];
})

-- the numbers of a table are low
pub table_low : (f : ℕ → ℕ) (n b d : ℕ) (xs : List ℕ) → IsTable f n b xs → b ≤ d → AreLow d xs
table_low f n b d xs t h k lt = let there : k < n = omega (arith, t.long) in omega (arith, t.each k there, t.low k there)

-- a table with a greater bound
pub table_within : (f : ℕ → ℕ) (n b d : ℕ) (xs : List ℕ) → IsTable f n b xs → b ≤ d → IsTable f n d xs
table_within f n b d xs t h = record { long = t.long; each = t.each; low = λ k lt. omega (arith, t.low k lt) }

-- sums of low numbers are low
pub sums_low : (f : ℕ → ℕ) (n k : ℕ) → ((i : ℕ) → i < n → f i ≤ SIZE_LIMIT) → k ≤ n → sum_to f k ≤ k * SIZE_LIMIT
unfolding sum_to
sums_low f n zero low h = omega arith
sums_low f n (suc k) low h = omega (arith, sums_low f n k low (omega arith), low k (omega arith))

-- a table of other numbers that are the same
pub table_same : (f g : ℕ → ℕ) (n b : ℕ) (xs : List ℕ) → ((k : ℕ) → k < n → f k ≡ g k) → IsTable f n b xs
    → IsTable g n b xs
table_same f g n b xs e t = record {
  long = t.long;
  each = λ k h. t.each k h ∙ e k h;
  low = λ k h. omega (arith, t.low k h, e k h);
}

-- a table of sums
pub table_sums : (f : ℕ → ℕ) (n : ℕ) (xs sums : List ℕ) → IsTable f n SIZE_LIMIT xs
    → ((f : ℕ → ℕ) → IsTable f (length xs) SIZE_LIMIT xs → IsTable (sum_to f) (suc (length xs)) SUM_LIMIT sums)
    → IsTable (sum_to f) (suc n) SUM_LIMIT sums
table_sums f n xs sums t h =
    subst (λ m. IsTable (sum_to f) (suc m) SUM_LIMIT sums) t.long
    (h f (subst (λ m. IsTable f m SIZE_LIMIT xs) (sym t.long) t))
