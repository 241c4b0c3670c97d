-- Where a part of a list stands.
use Rattle.std.proofs.Common.{◌≡◌, ℕ, zero, suc, ◌+◌, ◌<◌, List, [], ◌∷◌, ◌++◌, length, Some, refl, sym, ap, ◌∙◌}
use Rattle.std.proofs.Common.{subst, arith, inl, inr, length-append}
use Rattle.std.specs.Prelude.{slice_get}
use Rattle.std.proofs.lemmas.Bool.{cases_lt}
use Rattle.chart_code.specs.Orders.{sum_to, sum_between, ascending, descending, span}
use Rattle.chart_code.proofs.Sums.{between_none, between_more}

-- xs stands in all from place a on
pub record Holds {A : Type 0} (all : List A) (a : ℕ) (xs : List A) : Type 0 where
  pub by : (n : ℕ) (x : A) → slice_get xs n ≡ Some x → slice_get all (a + n) ≡ Some x

-- ---- lengths

-- the length of what is made upwards
pub ascending_length : {A : Type 0} (f : ℕ → List A) (size : ℕ → ℕ) → ((i : ℕ) → length (f i) ≡ size i) → (n : ℕ)
    → length (ascending f n) ≡ sum_to size n
unfolding ascending sum_to
ascending_length f size sizes zero = refl {a = 0}
ascending_length f size sizes (suc n) =
    omega (arith, length-append (ascending f n) (f n), sizes n, ascending_length f size sizes n)

-- the length of what is made downwards
pub descending_length : {A : Type 0} (f : ℕ → List A) (size : ℕ → ℕ) → ((i : ℕ) → length (f i) ≡ size i) → (n : ℕ)
    → length (descending f n) ≡ sum_to size n
unfolding descending sum_to
descending_length f size sizes zero = refl {a = 0}
descending_length f size sizes (suc n) =
    omega (arith, length-append (f n) (descending f n), sizes n, descending_length f size sizes n)

-- the length of a span
pub span_length : {A : Type 0} (f : ℕ → A) (a n : ℕ) → length (span f a n) ≡ n
unfolding span
span_length f a zero = refl {a = 0}
span_length f a (suc n) = omega (arith, span_length f (suc a) n)

-- ---- items

-- what stands in the first list stands in both
get_front : {A : Type 0} (xs ys : List A) (n : ℕ) (x : A) → slice_get xs n ≡ Some x → slice_get (xs ++ ys) n ≡ Some x
get_front [] ys n x e = absurd cc
get_front (y ∷ xs) ys zero x e = e
get_front (y ∷ xs) ys (suc n) x e = get_front xs ys n x e

-- what stands in the second list stands after the first one
get_behind : {A : Type 0} (xs ys : List A) (n : ℕ) → slice_get (xs ++ ys) (length xs + n) ≡ slice_get ys n
get_behind [] ys n = let e : 0 + n ≡ n = omega arith in ap (λ i. slice_get ys i) e
get_behind (x ∷ xs) ys n =
    let e : length (x ∷ xs) + n ≡ suc (length xs + n) = omega arith in
    ap (λ i. slice_get (x ∷ (xs ++ ys)) i) e ∙ get_behind xs ys n

-- an item of a span
span_get : {A : Type 0} (f : ℕ → A) (a n k : ℕ) → k < n → slice_get (span f a n) k ≡ Some (f (a + k))
unfolding span
span_get f a zero k h = absurd (omega arith)
span_get f a (suc n) zero h = let e : a ≡ a + 0 = omega arith in ap (λ i. Some (f i)) e
span_get f a (suc n) (suc k) h =
    let e : suc a + k ≡ a + suc k = omega arith in span_get f (suc a) n k (omega arith) ∙ ap (λ i. Some (f i)) e

-- ---- parts

module _ {A : Type 0} (all : List A) where
  -- the whole list stands at its beginning
  pub holds_all : Holds all 0 all
  holds_all = record { by = λ n x e. let z : 0 + n ≡ n = omega arith in ap (λ i. slice_get all i) z ∙ e }

  -- a place by another number
  pub holds_at : (a b : ℕ) (xs : List A) → a ≡ b → Holds all a xs → Holds all b xs
  holds_at a b xs e h = subst (λ n. Holds all n xs) e h

  -- the first of two lists stands where both stand
  pub holds_front : (a : ℕ) (xs ys : List A) → Holds all a (xs ++ ys) → Holds all a xs
  holds_front a xs ys h = record { by = λ n x e. h.by n x (get_front xs ys n x e) }

  -- the second one stands after the first one
  pub holds_back : (a : ℕ) (xs ys : List A) → Holds all a (xs ++ ys) → Holds all (a + length xs) ys
  holds_back a xs ys h = record {
    by = λ n x e.
        let i : (a + length xs) + n ≡ a + (length xs + n) = omega arith in
        ap (λ m. slice_get all m) i ∙ h.by (length xs + n) x (get_behind xs ys n ∙ e);
  }

  -- an item
  pub holds_get : (a n p : ℕ) (xs : List A) (x : A) → a + n ≡ p → Holds all a xs → slice_get xs n ≡ Some x
      → slice_get all p ≡ Some x
  holds_get a n p xs x i h e = ap (λ m. slice_get all m) (sym i) ∙ h.by n x e

  -- the first item
  pub holds_first : (a : ℕ) (x : A) (xs : List A) → Holds all a (x ∷ xs) → slice_get all a ≡ Some x
  holds_first a x xs h = holds_get a 0 a (x ∷ xs) x (omega arith) h refl

  -- an item of a span
  pub holds_span : (f : ℕ → A) (s n d p a : ℕ) → s + n ≡ d → (size : ℕ) → n < size → a + n ≡ p
      → Holds all a (span f s size) → slice_get all p ≡ Some (f d)
  holds_span f s n d p a is size lt i h =
      holds_get a n p (span f s size) (f d) i h (span_get f s size n lt ∙ ap (λ y. Some (f y)) is)

  -- what is made of a number, of those made upwards
  pub holds_ascending : (f : ℕ → List A) (size : ℕ → ℕ) → ((i : ℕ) → length (f i) ≡ size i) → (n a i : ℕ) → i < n
      → Holds all a (ascending f n) → Holds all (a + sum_to size i) (f i)
  unfolding ascending
  holds_ascending f size sizes zero a i lt h = absurd (omega arith)
  holds_ascending f size sizes (suc n) a i lt h = elim (cases_lt i n) [
    | inl l ↦ holds_ascending f size sizes n a i l (holds_front a (ascending f n) (f n) h)
    | inr l ↦
        let e : n ≡ i = omega arith in
        let q : a + length (ascending f n) ≡ a + sum_to size n = omega (arith, ascending_length f size sizes n) in
        subst (λ j. Holds all (a + sum_to size j) (f j)) e
        (holds_at (a + length (ascending f n)) (a + sum_to size n) (f n) q (holds_back a (ascending f n) (f n) h))
  ]

  -- what is made of a number, of those made downwards
  pub holds_descending : (f : ℕ → List A) (size : ℕ → ℕ) → ((i : ℕ) → length (f i) ≡ size i) → (n a i : ℕ) → i < n
      → Holds all a (descending f n) → Holds all (a + sum_between size (suc i) n) (f i)
  unfolding descending
  holds_descending f size sizes zero a i lt h = absurd (omega arith)
  holds_descending f size sizes (suc n) a i lt h = elim (cases_lt i n) [
    | inl l ↦
        holds_at (a + length (f n) + sum_between size (suc i) n) (a + sum_between size (suc i) (suc n)) (f i)
        (omega (arith, sizes n, between_more size (suc i) n l))
        (holds_descending f size sizes n (a + length (f n)) i l (holds_back a (f n) (descending f n) h))
    | inr l ↦
        let e : n ≡ i = omega arith in
        subst (λ j. Holds all (a + sum_between size (suc j) (suc n)) (f j)) e
        (holds_at a (a + sum_between size (suc n) (suc n)) (f n) (omega (arith, between_none size (suc n)))
        (holds_front a (f n) (descending f n) h))
  ]
