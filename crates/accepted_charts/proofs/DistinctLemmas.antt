-- Lists of names that are pairwise different.
use Rattle.std.proofs.Common.{◌≡◌, ◌≢◌, ℕ, zero, suc, ◌+◌, ◌≤◌, ◌<◌, List, [], ◌∷◌, ◌++◌, map, Option, Some, None, Bool}
use Rattle.std.proofs.Common.{true, false, cond, not, ◌&&◌, is_some, refl, sym, ap, ◌∙◌, arith}
use Rattle.std.specs.Prelude.{bytes_eq, if◌then◌else◌}
use Rattle.std.specs.List.{AllByRecursion, find, filter, range_with_len}
use Rattle.std.proofs.lemmas.Slice.Eq.{bytes_eq-Decides}
use Rattle.std.proofs.lemmas.Bool.{false_from_ne_true}
use Rattle.flow_base.specs.Names.{after, index_of, are_distinct}
use Rattle.chart_tree.specs.declared.name.NameText.{NameText}
use Rattle.chart_places.specs.Scopes.{number_from}

-- a name is none of some names
abbrev pub IsNone : List ℕ → List (List ℕ) → Type 0
IsNone name names = AllByRecursion (λ (other : List ℕ). name ≢ other) names

-- each name is none of those after it
abbrev pub Distinct : List (List ℕ) → Type 0
Distinct [] = Unit {0}
Distinct (name ∷ names) = IsNone name names × Distinct names

index_none : (name : List ℕ) (names : List (List ℕ)) → IsNone name names → index_of name names ≡ None
index_none name [] h = refl
index_none name (other ∷ names) h =
    let differ = false_from_ne_true (bytes_eq other name) (λ e. h.0 (sym ((bytes_eq-Decides other name).0 e))) in
    ap (λ b. if b then Some 0 else after (index_of name names)) differ ∙ ap after (index_none name names h.1)

-- such names are distinct
pub distinct_test : (names : List (List ℕ)) → Distinct names → are_distinct names ≡ true
distinct_test [] h = refl
distinct_test (name ∷ names) h =
    ap (λ o. not (is_some o) && are_distinct names) (index_none name names h.0) ∙ distinct_test names h.1

-- names of two lists, of which none of the first is one of the second
none-append : (name : List ℕ) (xs ys : List (List ℕ)) → IsNone name xs → IsNone name ys → IsNone name (xs ++ ys)
none-append name [] ys h k = k
none-append name (x ∷ xs) ys h k = (h.0, none-append name xs ys h.1 k)

pub distinct-append : (xs ys : List (List ℕ)) → Distinct xs → Distinct ys
    → AllByRecursion (λ (x : List ℕ). IsNone x ys) xs → Distinct (xs ++ ys)
distinct-append [] ys h k apart = k
distinct-append (x ∷ xs) ys h k apart =
    (none-append x xs ys h.0 apart.0, distinct-append xs ys h.1 k apart.1)

-- ---- names that are found at their own numbers

-- the texts of names
abbrev pub texts : List NameText → List (List ℕ)
texts names = map (λ (x : NameText). x.text) names

-- each name, the first of which has number n, is found at its number
abbrev pub AtOwn : (List ℕ → Option ℕ) → ℕ → List NameText → Type 0
AtOwn found n [] = Unit {0}
AtOwn found n (x ∷ xs) = (found x.text ≡ Some n) × AtOwn found (suc n) xs

-- names after one of number m: they differ from it, and are found without it
own_rest : (y : NameText) (m n : ℕ) (found : List ℕ → Option ℕ) (xs : List NameText) → m < n
    → AtOwn (λ name. if bytes_eq y.text name then Some m else found name) n xs
    → AtOwn found n xs × IsNone y.text (texts xs)
own_rest y m n found [] lt h = (tt, tt)
own_rest y m n found (x ∷ xs) lt h =
    let rest = own_rest y m (suc n) found xs (omega arith) h.1 in
    at (bytes_eq y.text x.text) refl h.0 rest
  where
    differ : bytes_eq y.text x.text ≡ false → y.text ≢ x.text
    differ other same = let yes = (bytes_eq-Decides y.text x.text).1 same in cc

    at : (b : Bool) → bytes_eq y.text x.text ≡ b → (if b then Some m else found x.text) ≡ Some n
        → AtOwn found (suc n) xs × IsNone y.text (texts xs)
        → AtOwn found n (x ∷ xs) × IsNone y.text (texts (x ∷ xs))
    at true t e rest = absurd (let same : m ≡ n = cc in omega arith)
    at false t e rest = ((e, rest.0), (differ t, rest.1))

-- names that are found at their own numbers are distinct
pub own_distinct : (n : ℕ) (xs : List NameText) → AtOwn (number_from n xs) n xs → Distinct (texts xs)
own_distinct n [] h = tt
own_distinct n (x ∷ xs) h =
    let rest = own_rest x n (suc n) (number_from (suc n) xs) xs (omega arith) h.1 in
    (rest.1, own_distinct (suc n) xs rest.0)

-- ---- names of the numbers of a range that pass a test

module _ (name : ℕ → List ℕ) (has : List ℕ → ℕ → Bool) (q : ℕ → Bool) where
  -- what holds of the name of each number that passes
  all_names : (P : List ℕ → Type 0) (a n : ℕ) → ((x : ℕ) → a ≤ x → x < a + n → q x ≡ true → P (name x))
      → AllByRecursion P (map name (filter q (range_with_len a n)))
  all_names P a zero h = tt
  all_names P a (suc n) h =
      at (q a) refl (all_names P (a + 1) n (λ x lo hi t. h x (omega arith) (omega arith) t))
    where
      at : (b : Bool) → q a ≡ b → AllByRecursion P (map name (filter q (range_with_len (a + 1) n)))
          → AllByRecursion P (map name (cond b (a ∷ filter q (range_with_len (a + 1) n))
          (filter q (range_with_len (a + 1) n))))
      at true t rest = (h a (omega arith) (omega arith) t, rest)
      at false t rest = rest

  -- each number that passes has its name, and is the first of them that has it
  pub record AreFirst (a n : ℕ) : Type 0 where
    pub own : (x : ℕ) → a ≤ x → x < a + n → has (name x) x ≡ true
    pub first : (x : ℕ) → a ≤ x → x < a + n → q x ≡ true
        → find (has (name x)) (filter q (range_with_len a n)) ≡ Some x

  -- one that has the name of a later one would be found in its place
  first_differs : (a x : ℕ) (rest : List ℕ) → a < x → has (name a) a ≡ true
      → cond (has (name x) a) (Some a) (find (has (name x)) rest) ≡ Some x
      → (name a ≢ name x) × (find (has (name x)) rest ≡ Some x)
  first_differs a x rest lt own e = at (has (name x) a) refl e
    where
      at : (b : Bool) → has (name x) a ≡ b → cond b (Some a) (find (has (name x)) rest) ≡ Some x
          → (name a ≢ name x) × (find (has (name x)) rest ≡ Some x)
      at true t e = absurd (let same : a ≡ x = cc in omega arith)
      at false t e = (λ same. let yes = ap (λ y. has y a) same in absurd cc, e)

  -- their names are distinct
  pub first_distinct : (a n : ℕ) → AreFirst a n → Distinct (map name (filter q (range_with_len a n)))
  first_distinct a zero h = tt
  first_distinct a (suc n) h = at (q a) refl h.first (λ first. first_distinct (a + 1) n (record {
    own = λ x lo hi. h.own x (omega arith) (omega arith);
    first = first;
  }))
    where
      rest : List ℕ
      rest = filter q (range_with_len (a + 1) n)

      at : (b : Bool) → q a ≡ b
          → ((x : ℕ) → a ≤ x → x < a + suc n → q x ≡ true → find (has (name x)) (cond b (a ∷ rest) rest) ≡ Some x)
          → (((x : ℕ) → a + 1 ≤ x → x < a + 1 + n → q x ≡ true → find (has (name x)) rest ≡ Some x)
          → Distinct (map name rest)) → Distinct (map name (cond b (a ∷ rest) rest))
      at true t first next =
          let both : (x : ℕ) → a + 1 ≤ x → x < a + 1 + n → q x ≡ true
          → (name a ≢ name x) × (find (has (name x)) rest ≡ Some x)
          = λ x lo hi p. first_differs a x rest (omega arith) (h.own a (omega arith) (omega arith))
          (first x (omega arith) (omega arith) p) in (
            all_names (λ other. name a ≢ other) (a + 1) n (λ x lo hi p. (both x lo hi p).0),
            next (λ x lo hi p. (both x lo hi p).1),
          )
      at false t first next = next (λ x lo hi p. first x (omega arith) (omega arith) p)
