-- The most bytes of the lines of procedures.
use Rattle.std.proofs.Common.{◌≡◌, ℕ, zero, suc, ◌+◌, ◌*◌, ◌<◌, ◌≤◌, List, [], ◌∷◌, ◌++◌, map, refl, ap, arith, suc-mul}
use Rattle.checked_chart.specs.Chart.{Chart}
use Rattle.code_language.specs.Instrs.{Instr}
use Rattle.chart_code.specs.Bodies.{body}
use Rattle.chart_code.specs.Keys.{Key}
use Rattle.chart_code.specs.Orders.{sum_to, ascending, descending, span}
use Rattle.layout_text.specs.Sizes.{lines_limit, proc_limit, procs_limit}

-- two lists
pub lines_append : (xs ys : List Instr) → lines_limit (xs ++ ys) ≡ lines_limit xs + lines_limit ys
lines_append [] ys = omega arith
lines_append (x ∷ xs) ys = omega (arith, lines_append xs ys)

module _ (c : Chart) where
  -- the most bytes of a procedure
  abbrev pub key_limit : Key → ℕ
  key_limit key = proc_limit (body c key)

  -- those of all procedures of a list
  unfoldable pub keys_limit : List Key → ℕ
  keys_limit [] = 0
  keys_limit (key ∷ keys) = key_limit key + keys_limit keys

  -- one more
  pub keys_more : (key : Key) (keys : List Key) → keys_limit (key ∷ keys) ≡ key_limit key + keys_limit keys
  unfolding keys_limit
  keys_more key keys = omega arith

  -- they are those of the procedures
  pub keys_are : (keys : List Key) → procs_limit (map (body c) keys) ≡ keys_limit keys
  unfolding keys_limit
  keys_are [] = refl {a = 0}
  keys_are (key ∷ keys) = ap (λ n. key_limit key + n) (keys_are keys)

  -- two lists
  pub keys_append : (xs ys : List Key) → keys_limit (xs ++ ys) ≡ keys_limit xs + keys_limit ys
  unfolding keys_limit
  keys_append [] ys = omega arith
  keys_append (x ∷ xs) ys = omega (arith, keys_append xs ys)

  -- what is made upwards
  pub keys_ascending : (f : ℕ → List Key) (most : ℕ → ℕ) (n : ℕ) → ((i : ℕ) → i < n → keys_limit (f i) ≤ most i)
      → keys_limit (ascending f n) ≤ sum_to most n
  unfolding ascending sum_to keys_limit
  keys_ascending f most zero h = omega arith
  keys_ascending f most (suc n) h =
      omega (
        arith,
        keys_append (ascending f n) (f n),
        h n (omega arith),
        keys_ascending f most n (λ i lt. h i (omega arith)),
      )

  -- what is made downwards
  pub keys_descending : (f : ℕ → List Key) (most : ℕ → ℕ) (n : ℕ) → ((i : ℕ) → i < n → keys_limit (f i) ≤ most i)
      → keys_limit (descending f n) ≤ sum_to most n
  unfolding descending sum_to keys_limit
  keys_descending f most zero h = omega arith
  keys_descending f most (suc n) h =
      omega (
        arith,
        keys_append (f n) (descending f n),
        h n (omega arith),
        keys_descending f most n (λ i lt. h i (omega arith)),
      )

  -- a span
  pub keys_span : (f : ℕ → Key) (most a n : ℕ) → ((i : ℕ) → key_limit (f i) ≤ most) → keys_limit (span f a n) ≤ n * most
  unfolding span keys_limit
  keys_span f most a zero h = omega arith
  keys_span f most a (suc n) h = omega (arith, h a, keys_span f most (suc a) n h, suc-mul n most)
