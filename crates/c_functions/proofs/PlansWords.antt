-- Words: what expressions over them give, and what statements do that store them.
use Rattle.std.proofs.Common.{◌≡◌, ◌≢◌, ℕ, zero, suc, ◌+◌, ◌-◌, ◌^◌, ◌<◌, ◌≤◌, nat_lt, nat_le, pos, Bool}
use Rattle.std.proofs.Common.{cond}
use Rattle.std.proofs.Common.{List, [], ◌∷◌, ◌++◌, length, Option, Some, None, ◌⊎◌, slice_get, slice_set}
use Rattle.std.proofs.Common.{slice_index_or}
use Rattle.std.proofs.Common.{refl, sym, ap, ◌∙◌, arith, inl, inr, ⊎_elim, length-set}
use Rattle.std.proofs.lemmas.Int.{ints}
use Rattle.std.proofs.lemmas.Bool.Decides.{nat_tests}
use Rattle.active_config.proofs.TableLemmas.{same_or_other}
use Rattle.code_language.proofs.AssignLemmas.{got_within}
use Rattle.c_subset.specs.Trees.{CExpr}
use Rattle.c_subset.specs.declared.trees.Width.{Width}
use Rattle.c_subset.specs.declared.trees.Width.TheVariants.{W32}
use Rattle.c_subset.specs.declared.trees.CType.{CType}
use Rattle.c_subset.specs.declared.trees.Arithmetic.{Arithmetic}
use Rattle.c_subset.specs.declared.trees.Arithmetic.TheVariants.{Plus, Less}
use Rattle.c_subset.specs.declared.trees.Comparison.{Comparison}
use Rattle.c_subset.specs.declared.trees.Comparison.TheVariants.{IsBelow, IsAtLeast}
use Rattle.c_subset.specs.Trees.{Field, Local}
use Rattle.c_subset.specs.Trees.{Calc, Compare, Block, Set, StoreAt, If, Return, Store as PutField}
use Rattle.c_subset.specs.Meaning.{bits, CValue, Meaning, Gives, with_meaning, gives, converted, exact, calculated}
use Rattle.c_subset.specs.Meaning.{compared}
use Rattle.c_subset.specs.Meaning.{is_true, one_if, passes, Object, read, read_as, element, Store, Locals, meaning}
use Rattle.c_subset.specs.Running.{Outcome, Returns, Calls, with_value, and_on, with_local, object_of, brought_to}
use Rattle.c_subset.specs.Running.{with_field}
use Rattle.c_subset.specs.Running.{with_entry, with_element, with_values, with_arguments, called, outcome}
use Rattle.c_subset.proofs.TypeLemmas.{truth-stays}
use Rattle.c_functions.specs.Claims.{Has}
use Rattle.c_functions.specs.Meaning.{front}
use Rattle.c_functions.specs.Plans.{word, number}
use Rattle.c_functions.specs.Files.{HasWord, HasRow}
use Rattle.c_functions.proofs.LayoutTests.{unsigned, own-stays, word_stays, compared-unsigned}
use Rattle.c_functions.proofs.LayoutChanges.{put-goes}

-- ---- comparisons

pub at_least-is : (a b : ℕ) → passes IsAtLeast (pos a) (pos b) ≡ nat_le b a
at_least-is a b = grind (arith, ints, nat_tests)

pub below-is : (a b : ℕ) → passes IsBelow (pos a) (pos b) ≡ nat_lt a b
below-is a b = grind (arith, ints, nat_tests)

less-is : (x y : ℕ) → y ≤ x → exact Less (pos x) (pos y) ≡ pos (x - y)
less-is x y le = grind (arith, ints)

-- ---- expressions

module _ (int : Width) (most : bits int ≤ 32) (s : Store) (l : Locals) where
  pub number-means : (a : ℕ) → a < 2 ^ 32 → meaning int s l (number a) ≡ gives word (pos a)
  unfolding meaning
  number-means a small = own-stays W32 a small

  pub local-means : (i a : ℕ) → l word i ≡ Some (pos a) → meaning int s l (Local word i) ≡ gives word (pos a)
  unfolding meaning
  local-means i a there = ap (read_as word) there

  pub field-means : (f a : ℕ) → HasWord s.fields f a → meaning int s l (Field f) ≡ gives word (pos a)
  unfolding meaning
  field-means f a h = ap read h.there

  calc-means : (op : Arithmetic) (a b : CExpr) (x y z : ℕ) → exact op (pos x) (pos y) ≡ pos z → x < 2 ^ 32 → y < 2 ^ 32
      → z < 2 ^ 32 → meaning int s l a ≡ gives word (pos x) → meaning int s l b ≡ gives word (pos y)
      → meaning int s l (Calc op a b) ≡ gives word (pos z)
  unfolding meaning
  calc-means op a b x y z e fx fy fz ha hb =
      ap (λ (m : Meaning). with_meaning m (λ u. with_meaning (meaning int s l b) (calculated int op u))) ha
      ∙ ap (λ (m : Meaning). with_meaning m (calculated int op (unsigned W32 x))) hb
      ∙ ap (λ (t : CType). with_meaning (converted t (pos x))
      (λ u. with_meaning (converted t (pos y)) (λ v. converted t (exact op u.value v.value)))) (word_stays int most)
      ∙ ap (λ (m : Meaning). with_meaning m
      (λ u. with_meaning (converted word (pos y)) (λ v. converted word (exact op u.value v.value))))
      (own-stays W32 x fx)
      ∙ ap (λ (m : Meaning). with_meaning m (λ v. converted word (exact op (pos x) v.value))) (own-stays W32 y fy)
      ∙ ap (converted word) e ∙ own-stays W32 z fz

  pub plus-means : (a b : CExpr) (x y : ℕ) → x < 2 ^ 32 → y < 2 ^ 32 → x + y < 2 ^ 32
      → meaning int s l a ≡ gives word (pos x) → meaning int s l b ≡ gives word (pos y)
      → meaning int s l (Calc Plus a b) ≡ gives word (pos (x + y))
  plus-means a b x y fx fy fz ha hb = calc-means Plus a b x y (x + y) refl fx fy fz ha hb

  pub less-means : (a b : CExpr) (x y : ℕ) → x < 2 ^ 32 → y ≤ x → meaning int s l a ≡ gives word (pos x)
      → meaning int s l b ≡ gives word (pos y) → meaning int s l (Calc Less a b) ≡ gives word (pos (x - y))
  less-means a b x y fx le ha hb =
      calc-means Less a b x y (x - y) (less-is x y le) fx (omega (arith, fx, le)) (omega (arith, fx)) ha hb

  pub compare-has : (op : Comparison) (a b : CExpr) (x y : ℕ) → x < 2 ^ 32 → y < 2 ^ 32
      → meaning int s l a ≡ gives word (pos x) → meaning int s l b ≡ gives word (pos y)
      → Has int s l (Compare op a b) (one_if (passes op (pos x) (pos y)))
  unfolding meaning
  compare-has op a b x y fx fy ha hb = (
    _,
    ap (λ (m : Meaning). with_meaning m (λ u. with_meaning (meaning int s l b) (compared int op u))) ha
        ∙ ap (λ (m : Meaning). with_meaning m (compared int op (unsigned W32 x))) hb
        ∙ compared-unsigned int W32 op x y fx fy,
  )

  -- arguments that have values
  abbrev pub AreGiven : List CExpr → List CValue → Type 0
  AreGiven [] [] = Unit {0}
  AreGiven [] (v ∷ vs) = ⊥
  AreGiven (e ∷ es) [] = ⊥
  AreGiven (e ∷ es) (v ∷ vs) = (meaning int s l e ≡ Gives v) × AreGiven es vs

  pub values-given : (es : List CExpr) (vs : List CValue) (f : List CValue → Outcome) → AreGiven es vs
      → with_values int s l es f ≡ f vs
  unfolding with_values
  values-given [] [] f h = refl
  values-given [] (v ∷ vs) f h = absurd h
  values-given (e ∷ es) [] f h = absurd h
  values-given (e ∷ es) (v ∷ vs) f h =
      ap (λ (m : Meaning). with_value m (λ x. with_values int s l es (λ xs. f (x ∷ xs)))) h.0
      ∙ values-given es vs (λ xs. f (v ∷ xs)) h.1

-- a parameter
pub argument-goes : (ts : List CType) (a : ℕ) (xs : List CValue) (k : ℕ) (l : Locals) (f : Locals → Outcome)
    → a < 2 ^ 32 → with_arguments (word ∷ ts) (unsigned W32 a ∷ xs) k l f
    ≡ with_arguments ts xs (suc k) (with_local l word k (pos a)) f
unfolding with_arguments
argument-goes ts a xs k l f small =
    ap (λ (m : Meaning). with_value m (λ y. with_arguments ts xs (suc k) (with_local l word k y.value) f))
    (own-stays W32 a small)

-- after the last one
pub arguments-end : (k : ℕ) (l : Locals) (f : Locals → Outcome) → with_arguments [] [] k l f ≡ f l
unfolding with_arguments
arguments-end k l f = refl

-- a call that returns a word
pub called-goes : (v : Store) (r i : ℕ) (l : Locals) (go : Store → Locals → Outcome) → r < 2 ^ 32
    → called (Returns v (unsigned W32 r)) word i l go ≡ go v (with_local l word i (pos r))
called-goes v r i l go small =
    ap (λ (m : Meaning). with_value m (λ y. go v (with_local l word i y.value))) (own-stays W32 r small)

-- ---- entries of lists

pub set-same : {A : Type 0} (xs : List A) (i : ℕ) (x : A) → i < length xs → slice_get (slice_set xs i x) i ≡ Some x
set-same [] i x lt = absurd (omega arith)
set-same (y ∷ xs) zero x lt = refl
set-same (y ∷ xs) (suc i) x lt = set-same xs i x (omega arith)

pub set-other : {A : Type 0} (xs : List A) (f g : ℕ) (x : A) → g ≢ f → slice_get (slice_set xs f x) g ≡ slice_get xs g
set-other [] f g x ne = refl
set-other (y ∷ xs) zero zero x ne = absurd (ne refl)
set-other (y ∷ xs) zero (suc g) x ne = refl
set-other (y ∷ xs) (suc f) zero x ne = refl
set-other (y ∷ xs) (suc f) (suc g) x ne = set-other xs f g x (λ e. ne (ap suc e))

pub got : {A : Type 0} (xs : List A) (i : ℕ) → i < length xs → (x : A) × (slice_get xs i ≡ Some x)
got [] i lt = absurd (omega arith)
got (y ∷ xs) zero lt = (y, refl)
got (y ∷ xs) (suc i) lt = got xs i (omega arith)

pub or-got : {A : Type 0} (xs : List A) (i : ℕ) (x d : A) → slice_get xs i ≡ Some x → slice_index_or xs i d ≡ x
or-got [] i x d e = absurd cc
or-got (y ∷ xs) zero x d e = cc
or-got (y ∷ xs) (suc i) x d e = or-got xs i x d e

pub push-got : (xs : List ℕ) (v j x : ℕ) → slice_get (xs ++ v ∷ []) j ≡ Some x
    → (slice_get xs j ≡ Some x) ⊎ ((j ≡ length xs) × (x ≡ v))
push-got [] v zero x e = inr (refl, (cc))
push-got [] v (suc j) x e = absurd cc
push-got (y ∷ xs) v zero x e = inl e
push-got (y ∷ xs) v (suc j) x e = ⊎_elim (λ h. inl h) (λ h. inr (omega (arith, h.0), h.1)) (push-got xs v j x e)

pub front-got : (xs : List ℕ) (i x : ℕ) → slice_get (front xs) i ≡ Some x → slice_get xs i ≡ Some x
front-got [] i x e = absurd cc
front-got (y ∷ []) i x e = absurd cc
front-got (y ∷ z ∷ xs) zero x e = e
front-got (y ∷ z ∷ xs) (suc i) x e = front-got (z ∷ xs) i x e

pub front-length : (xs : List ℕ) → length (front xs) ≡ length xs - 1
front-length [] = refl
front-length (y ∷ []) = refl
front-length (y ∷ z ∷ xs) = let h = front-length (z ∷ xs) in omega (arith, h)

pub length-push : (xs : List ℕ) (v : ℕ) → length (xs ++ v ∷ []) ≡ length xs + 1
length-push [] v = refl
length-push (y ∷ xs) v = let h = length-push xs v in omega (arith, h)

-- ---- words and rows of the struct

pub word-kept : (fields : List Object) (f g a : ℕ) (o : Object) → g ≢ f → HasWord fields g a
    → HasWord (slice_set fields f o) g a
word-kept fields f g a o ne h = record { there = set-other fields f g o ne ∙ h.there; small = h.small }

pub word-put : (fields : List Object) (f old a : ℕ) → HasWord fields f old → a < 2 ^ 32
    → HasWord (slice_set fields f (object_of (unsigned W32 a))) f a
word-put fields f old a h small =
    record { there = set-same fields f _ (got_within fields f _ h.there); small = small }

-- the type in an object
abbrev type_in : Option Object → CType
type_in (Some o) = o.type
type_in None = word

pub row-pushed : (rows : List (List Object)) (a size v : ℕ) (xs : List ℕ) → HasRow rows a size xs → length xs < size
    → HasRow (slice_set rows a (with_entry (slice_index_or rows a []) (pos (length xs)) (object_of (unsigned W32 v))))
    a size (xs ++ v ∷ [])
row-pushed rows a size v xs h lt = record {
  row = slice_set h.row n o;
  there = set-same rows a _ (got_within rows a h.row h.there)
      ∙ ap (λ (r : List Object). Some (slice_set r n o)) (or-got rows a h.row [] h.there);
  sized = length-set h.row n o ∙ h.sized;
  typed = λ i p e. typed_at i p e (same_or_other i n);
  shown = λ i x e. shown_at i x (push-got xs v i x e);
}
  where
    n : ℕ
    n = length xs

    o : Object
    o = object_of (unsigned W32 v)

    within : length xs < length h.row
    within = omega (arith, lt, h.sized)

    typed_at : (i : ℕ) (p : Object) → slice_get (slice_set h.row n o) i ≡ Some p → (i ≡ n) ⊎ (i ≢ n) → p.type ≡ word
    typed_at i p e (inl same) =
        ap type_in (sym e ∙ ap (λ (i : ℕ). slice_get (slice_set h.row n o) i) same ∙ set-same h.row n o within)
    typed_at i p e (inr ne) = h.typed i p (sym (set-other h.row n i o ne) ∙ e)

    shown_at : (i x : ℕ) → (slice_get xs i ≡ Some x) ⊎ ((i ≡ length xs) × (x ≡ v))
        → slice_get (slice_set h.row n o) i ≡ Some (record { type = word; value = Some (pos x) })
    shown_at i x (inl e) =
        let lt = got_within xs i x e in
        set-other h.row n i o (λ same. absurd (omega (arith, same, lt))) ∙ h.shown i x e
    shown_at i x (inr e) =
        ap (λ (i : ℕ). slice_get (slice_set h.row n o) i) e.0 ∙ set-same h.row n o within
        ∙ ap (λ (x : ℕ). Some (object_of (unsigned W32 x))) (sym e.1)

pub row-other : (rows : List (List Object)) (a b size : ℕ) (xs : List ℕ) (r : List Object) → a ≢ b
    → HasRow rows a size xs → HasRow (slice_set rows b r) a size xs
row-other rows a b size xs r ne h = record {
  row = h.row;
  there = set-other rows b a r ne ∙ h.there;
  sized = h.sized;
  typed = h.typed;
  shown = h.shown;
}

pub row-front : (rows : List (List Object)) (a size : ℕ) (xs : List ℕ) → HasRow rows a size xs
    → HasRow rows a size (front xs)
row-front rows a size xs h = record {
  row = h.row;
  there = h.there;
  sized = h.sized;
  typed = h.typed;
  shown = λ i x e. h.shown i x (front-got xs i x e);
}

pub none-got : (i x : ℕ) → slice_get [] i ≡ Some x → ⊥
none-got zero x e = absurd cc
none-got (suc i) x e = absurd cc

pub row-empty : (rows : List (List Object)) (a size : ℕ) (xs : List ℕ) → HasRow rows a size xs → HasRow rows a size []
row-empty rows a size xs h = record {
  row = h.row;
  there = h.there;
  sized = h.sized;
  typed = h.typed;
  shown = λ i x e. absurd (none-got i x e);
}

-- ---- statements

module _ (int : Width) (most : bits int ≤ 32) (calls : Calls) (k : ℕ) (rest : Block) (s : Store) (l : Locals) where
  pub set-goes : (i a : ℕ) (e : CExpr) → a < 2 ^ 32 → meaning int s l e ≡ gives word (pos a)
      → outcome int calls k (Set word i e rest) s l ≡ outcome int calls k rest s (with_local l word i (pos a))
  unfolding outcome
  set-goes i a e small means =
      ap (λ (m : Meaning). with_value (with_meaning m (λ x. converted word x.value))
      (λ y. outcome int calls k rest s (with_local l word i y.value))) means
      ∙ ap (λ (m : Meaning). with_value m (λ y. outcome int calls k rest s (with_local l word i y.value)))
      (own-stays W32 a small)

  pub put-word : (f old a : ℕ) (e : CExpr) → HasWord s.fields f old → a < 2 ^ 32 → meaning int s l e ≡ gives word
      (pos a)
      → outcome int calls k (PutField f e rest) s l ≡ outcome int calls k rest (with_field s f (unsigned W32 a)) l
  put-word f old a e h small means = put-goes int calls k s l f a W32 _ e rest h.there means small

  pub if-goes : (b : Bool) (e : CExpr) (x y : Block) → Has int s l e (one_if b)
      → outcome int calls k (If e x y rest) s l
      ≡ and_on (cond b (outcome int calls k x s l) (outcome int calls k y s l)) (λ v m. outcome int calls k rest v m)
  unfolding outcome
  if-goes b e x y has =
      ap (λ (m : Meaning). with_value m (λ z. and_on
      (cond (is_true z.value) (outcome int calls k x s l) (outcome int calls k y s l))
      (λ v m. outcome int calls k rest v m))) has.1
      ∙ ap (λ (c : Bool). and_on (cond c (outcome int calls k x s l) (outcome int calls k y s l))
      (λ v m. outcome int calls k rest v m)) (truth-stays b)

  pub store_at-goes : (a i v size : ℕ) (ie e : CExpr) (xs : List ℕ) → HasRow s.rows a size xs → i < size → v < 2 ^ 32
      → meaning int s l ie ≡ gives word (pos i) → meaning int s l e ≡ gives word (pos v)
      → outcome int calls k (StoreAt a ie e rest) s l
      ≡ outcome int calls k rest (with_element s a (pos i) (unsigned W32 v)) l
  unfolding outcome
  store_at-goes a i v size ie e xs h lt small mi me =
      let o = got h.row i (omega (arith, lt, h.sized)) in
      ap (λ (m : Meaning). with_value m (λ n. with_value
      (with_meaning (meaning int s l e) (λ x. brought_to (element (slice_get s.rows a) n.value) x.value))
      (λ y. outcome int calls k rest (with_element s a n.value y) l))) mi
      ∙ ap (λ (m : Meaning). with_value
      (with_meaning m (λ x. brought_to (element (slice_get s.rows a) (pos i)) x.value))
      (λ y. outcome int calls k rest (with_element s a (pos i) y) l)) me
      ∙ ap (λ (o : Option Object). with_value (brought_to o (pos v))
      (λ y. outcome int calls k rest (with_element s a (pos i) y) l))
      (ap (λ (r : Option (List Object)). element r (pos i)) h.there ∙ o.1)
      ∙ ap (λ (t : CType). with_value (converted t (pos v))
      (λ y. outcome int calls k rest (with_element s a (pos i) y) l)) (h.typed i o.0 o.1)
      ∙ ap (λ (m : Meaning). with_value m (λ y. outcome int calls k rest (with_element s a (pos i) y) l))
      (own-stays W32 v small)

pub return-gives : (int : Width) (calls : Calls) (k : ℕ) (s : Store) (l : Locals) (a : ℕ) (e : CExpr)
    → meaning int s l e ≡ gives word (pos a) → outcome int calls k (Return e) s l ≡ Returns s (unsigned W32 a)
unfolding outcome
return-gives int calls k s l a e means = ap (λ (m : Meaning). with_value m (λ x. Returns s x)) means
