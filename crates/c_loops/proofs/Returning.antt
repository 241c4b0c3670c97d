-- What a function returns is among its results.
use Rattle.std.proofs.Common.{◌≡◌, ℕ, zero, suc, ◌^◌, ◌<◌, nat_eq, ℤ, pos, unsigned_abs, int_le, Bool, true}
use Rattle.std.proofs.Common.{false, cond}
use Rattle.std.proofs.Common.{not, ◌&&◌, ◌||◌, List, [], ◌∷◌, ◌++◌, Option, Some, None, slice_get, refl, sym}
use Rattle.std.proofs.Common.{ap, ◌∙◌}
use Rattle.std.proofs.Common.{subst, arith}
use Rattle.std.specs.List.{list_all, list_any}
use Rattle.std.proofs.lemmas.Nat.{pow_pos}
use Rattle.std.proofs.lemmas.Bool.Decides.{nat_tests}
use Rattle.c_subset.specs.declared.trees.Width.{Width}
use Rattle.c_subset.specs.declared.trees.Width.TheVariants.{W32}
use Rattle.c_subset.specs.declared.trees.CType.{CType}
use Rattle.c_subset.specs.declared.trees.Case.{Case}
use Rattle.c_subset.specs.Trees.{CExpr, Function, File}
use Rattle.c_subset.specs.Trees.{Block, End, Set, Store as PutField, StoreAt, Call, Select, If, While, Return}
use Rattle.c_subset.specs.Meaning.{CValue, Meaning, Gives, Wrong, with_meaning, gives, converted, promoted, is_true}
use Rattle.c_subset.specs.Meaning.{read_as, element, Store, Locals, meaning}
use Rattle.c_subset.specs.Running.{Outcome, Falls, Returns, Starves, GoesWrong, with_value, and_on, no_locals}
use Rattle.c_subset.specs.Running.{with_local, brought_to, with_field, with_element, Calls, with_values, called}
use Rattle.c_subset.specs.Running.{selected, turns, outcome, with_arguments, returned, run, call}
use Rattle.c_functions.specs.Plans.{word}
use Rattle.c_functions.proofs.LayoutTests.{own-stays}
use Rattle.c_loops.specs.Results.{Known, NotZero, Anything, Test, Equal, Unequal, Other, opposite}
use Rattle.c_loops.specs.Results.{constant_of, is_local, test_of, gives_each_back}
use Rattle.c_loops.specs.Loops.{hands_on, leads_back, rests, after_test, constant_result, result_of}
use Rattle.c_loops.specs.Loops.{results}
use Rattle.c_loops.proofs.Locals.{value_in, rest-below, converted-again, AreTyped, none-typed, put-typed, brought-from}
use Rattle.c_loops.proofs.Giving.{both-true, constant-is, local-is, allows, passed, MeansTest, not-not, test-means}
use Rattle.c_loops.proofs.Giving.{Among}
use Rattle.c_loops.proofs.Handing.{IsResult, ComesBack, comes-back}

-- ---- lists of results

pub among-left : (xs ys : List Known) (r : ℕ) → Among xs r → Among (xs ++ ys) r
among-left [] ys r h = absurd cc
among-left (v ∷ xs) ys r h = at (allows v r) h (λ h. among-left xs ys r h)
  where
    at : (b : Bool) → (b || list_any (λ v. allows v r) xs) ≡ true → (Among xs r → Among (xs ++ ys) r)
        → (b || list_any (λ v. allows v r) (xs ++ ys)) ≡ true
    at true h later = refl
    at false h later = later h

pub among-right : (xs ys : List Known) (r : ℕ) → Among ys r → Among (xs ++ ys) r
among-right [] ys r h = h
among-right (v ∷ xs) ys r h = at (allows v r) (among-right xs ys r h)
  where
    at : (b : Bool) → Among (xs ++ ys) r → (b || list_any (λ v. allows v r) (xs ++ ys)) ≡ true
    at true h = refl
    at false h = h

pub all-left : (f : Block → Bool) (xs ys : List Block) → list_all f (xs ++ ys) ≡ true → list_all f xs ≡ true
all-left f [] ys h = refl
all-left f (x ∷ xs) ys h =
    let h' = both-true (f x) (list_all f (xs ++ ys)) h in at (f x) h'.0 (all-left f xs ys h'.1)
  where
    at : (b : Bool) → b ≡ true → list_all f xs ≡ true → (b && list_all f xs) ≡ true
    at true e h = h
    at false e h = absurd cc

pub all-right : (f : Block → Bool) (xs ys : List Block) → list_all f (xs ++ ys) ≡ true → list_all f ys ≡ true
all-right f [] ys h = h
all-right f (x ∷ xs) ys h = all-right f xs ys (both-true (f x) (list_all f (xs ++ ys)) h).1

-- ---- words

-- a word in a local
pub word-is : (z : ℤ) → converted word z ≡ gives word z → (r : ℕ) × (z ≡ pos r) × (r < 2 ^ 32)
word-is z h =
    let q = rest-below z (2 ^ 32) (pow_pos 32) in
    (q.0, sym (ap value_in h) ∙ q.1, q.2)

low-is : (r : ℕ) → converted word (pos r) ≡ gives word (pos r) → r < 2 ^ 32
low-is r h =
    let w = word-is (pos r) h in
    let same : r ≡ w.0 = ap unsigned_abs w.1 in
    subst (λ (r : ℕ). r < 2 ^ 32) (sym same) w.2

-- one word is one number
same-word : (q r : ℕ) → gives word (pos q) ≡ gives word (pos r) → q ≡ r
same-word q r h = ap (λ (m : Meaning). unsigned_abs (value_in m)) h

same-tells : (q r : ℕ) → q ≡ r → nat_eq r q ≡ true
same-tells q r e = grind (arith, nat_tests)

or-false : (b : Bool) → b ≡ true → (b || false) ≡ true
or-false true e = refl
or-false false e = absurd cc

-- ---- what is known of local 4

abbrev pub Knows : Known → Locals → Type 0
Knows v l = (r : ℕ) → l word 4 ≡ Some (pos r) → allows v r ≡ true

allowed : (t : Test) (r : ℕ) → passed t r ≡ true → allows (after_test t) r ≡ true
allowed (Equal j) r h = grind (arith, nat_tests)
allowed (Unequal j) r h = at (nat_eq j 0) refl
  where
    at : (b : Bool) → nat_eq j 0 ≡ b → allows (cond b NotZero Anything) r ≡ true
    at true e = grind (arith, nat_tests)
    at false e = refl
allowed Other r h = refl

module _ (int : Width) (s : Store) (l : Locals) (e : CExpr) (x : CValue) (means : meaning int s l e ≡ Gives x)
    (typed : AreTyped l) where
  -- an expression tells one thing
  tells-one : (y : CValue) (b q : Bool) → meaning int s l e ≡ Gives y → is_true y.value ≡ b → is_true x.value ≡ q
      → b ≡ q
  tells-one y b q h tells is =
      sym tells ∙ ap (λ (m : Meaning). is_true (value_in m)) (sym h ∙ means) ∙ is

  pub knows-then : is_true x.value ≡ true → Knows (after_test (test_of e)) l
  knows-then is r there =
      by (test_of e) (test-means int s l r (low-is r (typed word 4 (pos r) there)) there e)
    where
      by : (t : Test) → MeansTest int s l r e t → allows (after_test t) r ≡ true
      by (Equal j) (y, h, tells) = allowed (Equal j) r (tells-one y (nat_eq r j) true h tells is)
      by (Unequal j) (y, h, tells) = allowed (Unequal j) r (tells-one y (not (nat_eq r j)) true h tells is)
      by Other h = refl

  pub knows-else : is_true x.value ≡ false → Knows (after_test (opposite (test_of e))) l
  knows-else is r there =
      by (test_of e) (test-means int s l r (low-is r (typed word 4 (pos r) there)) there e)
    where
      by : (t : Test) → MeansTest int s l r e t → allows (after_test (opposite t)) r ≡ true
      by (Equal j) (y, h, tells) = allowed (Unequal j) r (ap not (tells-one y (nat_eq r j) false h tells is))
      by (Unequal j) (y, h, tells) =
          allowed (Equal j) r
          (sym (not-not (nat_eq r j)) ∙ ap not (tells-one y (not (nat_eq r j)) false h tells is))
      by Other h = refl

  -- a value that is returned
  pub returns-known : (v : Known) → Knows v l
      → (r : ℕ) × (r < 2 ^ 32) × (converted word x.value ≡ gives word (pos r)) × (allows (result_of e v) r ≡ true)
  unfolding meaning
  returns-known v known = (q.0, q.2, conv, at (is_local 4 e) refl)
    where
      q : (r : ℕ) × (converted word x.value ≡ gives word (pos r)) × (r < 2 ^ 32)
      q = let q = rest-below x.value (2 ^ 32) (pow_pos 32) in (q.0, ap (gives word) q.1, q.2)

      conv : converted word x.value ≡ gives word (pos q.0)
      conv = q.1

      -- the value is that word
      same : (n : ℕ) → n < 2 ^ 32 → x.value ≡ pos n → q.0 ≡ n
      same n low is =
          same-word q.0 n (sym conv ∙ ap (λ (z : ℤ). converted word z) is ∙ own-stays W32 n low)

      in-local : (o : Option ℤ) → l word 4 ≡ o → read_as word o ≡ Gives x → allows v q.0 ≡ true
      in-local (Some z) there is =
          let w = word-is z (typed word 4 z there) in
          let value : x.value ≡ pos w.0 = sym (ap value_in is) ∙ w.1 in
          subst (λ (r : ℕ). allows v r ≡ true) (sym (same w.0 w.2 value))
          (known w.0 (there ∙ ap (λ (z : ℤ). Some z) w.1))
      in-local None there is = absurd cc

      by : (o : Option ℕ) → constant_of e ≡ o → allows (constant_result o) q.0 ≡ true
      by (Some k) c =
          let is = constant-is e k c in
          let value : pos k ≡ x.value = ap value_in (sym (own-stays W32 k is.1)
          ∙ ap (λ (e : CExpr). meaning int s l e) (sym is.0) ∙ means) in
          same-tells q.0 k (same k is.1 (sym value))
      by None c = refl

      at : (b : Bool) → is_local 4 e ≡ b → allows (cond b v (constant_result (constant_of e))) q.0 ≡ true
      at true is =
          in-local (l word 4) refl (ap (λ (e : CExpr). meaning int s l e) (sym (local-is 4 e is)) ∙ means)
      at false is = by (constant_of e) refl

-- ---- statements

-- they fall with values of their types, or return one of these as a word
abbrev pub IsFine : List Known → Outcome → Type 0
IsFine R (Falls s l) = AreTyped l
IsFine R (Returns s x) =
    (r : ℕ) × (r < 2 ^ 32) × (converted word x.value ≡ gives word (pos r)) × Among R r
IsFine R Starves = Unit {0}
IsFine R GoesWrong = Unit {0}

module _ (R : List Known) where
  value-fine : (m : Meaning) (f : CValue → Outcome) → ((x : CValue) → m ≡ Gives x → IsFine R (f x))
      → IsFine R (with_value m f)
  value-fine (Gives x) f h = h x refl
  value-fine Wrong f h = tt

  on-fine : (o : Outcome) (f : Store → Locals → Outcome) → IsFine R o
      → ((s : Store) (l : Locals) → AreTyped l → IsFine R (f s l)) → IsFine R (and_on o f)
  on-fine (Falls s l) f e h = h s l e
  on-fine (Returns s x) f e h = e
  on-fine Starves f e h = tt
  on-fine GoesWrong f e h = tt

  called-fine : (o : Outcome) (t : CType) (i : ℕ) (l : Locals) (f : Store → Locals → Outcome) → AreTyped l
      → ((s : Store) (l : Locals) → AreTyped l → IsFine R (f s l)) → IsFine R (called o t i l f)
  called-fine (Falls s m) t i l f typed h = tt
  called-fine (Returns s x) t i l f typed h =
      value-fine (converted t x.value) (λ y. f s (with_local l t i y.value))
      (λ y is. h s (with_local l t i y.value)
      (put-typed l t i y.value typed (converted-again t x.value y is)))
  called-fine Starves t i l f typed h = tt
  called-fine GoesWrong t i l f typed h = tt

  values-fine : (int : Width) (s : Store) (l : Locals) (es : List CExpr) (f : List CValue → Outcome)
      → ((xs : List CValue) → IsFine R (f xs)) → IsFine R (with_values int s l es f)
  unfolding with_values
  values-fine int s l [] f h = h []
  values-fine int s l (e ∷ es) f h =
      value-fine (meaning int s l e) (λ x. with_values int s l es (λ xs. f (x ∷ xs)))
      (λ x is. values-fine int s l es (λ xs. f (x ∷ xs)) (λ xs. h (x ∷ xs)))

  cond-fine : (q : Bool) (o p : Outcome) → (q ≡ true → IsFine R o) → (q ≡ false → IsFine R p)
      → IsFine R (cond q o p)
  cond-fine true o p h i = h refl
  cond-fine false o p h i = i refl

  selected-fine : (t : CType) (z : ℤ) (cases : List Case) (f : ℕ → Outcome) (o : Outcome)
      → ((q : ℕ) → IsFine R (f q)) → IsFine R o → IsFine R (selected t z cases f o)
  selected-fine t z [] f o h e = e
  selected-fine t z (c ∷ cases) f o h e =
      value-fine (converted t (pos c.label))
      (λ y. cond (int_le y.value z && int_le z y.value) (f c.function) (selected t z cases f o))
      (λ y is. cond-fine (int_le y.value z && int_le z y.value) (f c.function) (selected t z cases f o)
      (λ q. h c.function) (λ q. selected-fine t z cases f o h e))

  turns-fine : (k : ℕ) (test : Store → Locals → Meaning) (f : Store → Locals → Outcome)
      → ((s : Store) (l : Locals) → AreTyped l → IsFine R (f s l)) → (s : Store) (l : Locals) → AreTyped l
      → IsFine R (turns k test f s l)
  unfolding turns
  turns-fine zero test f h s l typed = tt
  turns-fine (suc k) test f h s l typed =
      value-fine (test s l) (λ x. cond (is_true x.value) (and_on (f s l) (turns k test f)) (Falls s l))
      (λ x is. cond-fine (is_true x.value) (and_on (f s l) (turns k test f)) (Falls s l)
      (λ q. on-fine (f s l) (turns k test f) (h s l typed) (λ v m typed. turns-fine k test f h v m typed))
      (λ q. typed))

module _ (int : Width) (c : Calls) (k p : ℕ) (R : List Known)
    (good : (xs : List CValue) (s after : Store) (x : CValue) → c p xs s ≡ Returns after x → IsResult R x) where
  -- what stands after each call that hands on gives each result back
  abbrev pub AllBack : Block → Type 0
  AllBack a = list_all (gives_each_back R) (rests p a) ≡ true

  back-fine : (l : Locals) (s : Store) (o : Outcome) → ComesBack R c p l s o → IsFine R o
  back-fine l s (Falls v m) h = absurd h
  back-fine l s (Returns after x) h =
      (h.0.r, h.0.low, ap (λ (x : CValue). converted word x.value) h.0.is ∙ own-stays W32 h.0.r h.0.low, h.0.among)
  back-fine l s Starves h = tt
  back-fine l s GoesWrong h = tt

  -- the one that stands after such a call
  pub one-back : (b : Bool) (rest : Block) (others : List Block) → b ≡ true
      → list_all (gives_each_back R) (cond b (rest ∷ []) others) ≡ true → gives_each_back R rest ≡ true
  one-back true rest others e h = (both-true (gives_each_back R rest) true h).0
  one-back false rest others e h = absurd cc

  -- those after another one
  pub others-back : (b : Bool) (rest : Block) (others : List Block) → b ≡ false
      → list_all (gives_each_back R) (cond b (rest ∷ []) others) ≡ true → list_all (gives_each_back R) others ≡ true
  others-back true rest others e h = absurd cc
  others-back false rest others e h = h

  -- those of a part that leads back
  pub part-all : (b : Bool) (xs ys : List Block) → b ≡ true
      → list_all (gives_each_back R) (cond b xs [] ++ ys) ≡ true → list_all (gives_each_back R) xs ≡ true
  part-all true xs ys e h = all-left (gives_each_back R) xs ys h
  part-all false xs ys e h = absurd cc

  -- and those after it
  pub rest-all : (b : Bool) (xs ys : List Block)
      → list_all (gives_each_back R) (cond b xs [] ++ ys) ≡ true → list_all (gives_each_back R) ys ≡ true
  rest-all b xs ys h = all-right (gives_each_back R) (cond b xs []) ys h

  call-fine : (t : CType) (i f : ℕ) (args : List CExpr) (rest : Block) (hand b h : Bool) → (hand && h) ≡ b
      → hands_on p t i f args ≡ h
      → ((r : ℕ) → Among (cond b [] (results hand p Anything rest)) r → Among R r)
      → (hand ≡ true → list_all (gives_each_back R) (cond h (rest ∷ []) (rests p rest)) ≡ true)
      → (s : Store) (l : Locals)
      → (((r : ℕ) → Among (results hand p Anything rest) r → Among R r) → (hand ≡ true → AllBack rest)
      → IsFine R (outcome int c k (Call t i f args rest) s l))
      → IsFine R (outcome int c k (Call t i f args rest) s l)
  call-fine t i f args rest true true true e he sub back s l plain =
      back-fine l s (outcome int c k (Call t i f args rest) s l)
      (comes-back int c k p R good t i f args rest he (one-back true rest (rests p rest) refl (back refl)) s l)
  call-fine t i f args rest true true false e he sub back s l plain = absurd cc
  call-fine t i f args rest false true h e he sub back s l plain = absurd cc
  call-fine t i f args rest true false true e he sub back s l plain = absurd cc
  call-fine t i f args rest true false false e he sub back s l plain = plain sub back
  call-fine t i f args rest false false h e he sub back s l plain = plain sub (λ no. absurd cc)

  pub results-fine : (a : Block) (hand : Bool) (v : Known)
      → ((r : ℕ) → Among (results hand p v a) r → Among R r) → (hand ≡ true → AllBack a)
      → (s : Store) (l : Locals) → AreTyped l → Knows v l → IsFine R (outcome int c k a s l)
  unfolding results rests outcome
  results-fine End hand v sub back s l typed known = typed
  results-fine (Set t i e rest) hand v sub back s l typed known =
      value-fine R (with_meaning (meaning int s l e) (λ x. converted t x.value))
      (λ y. outcome int c k rest s (with_local l t i y.value))
      (λ y is. let from = brought-from (meaning int s l e) t y is in
      results-fine rest hand Anything sub back s (with_local l t i y.value)
      (put-typed l t i y.value typed (converted-again t from.0 y from.1)) (λ r e. refl))
  results-fine (PutField f e rest) hand v sub back s l typed known =
      value-fine R (with_meaning (meaning int s l e) (λ x. brought_to (slice_get s.fields f) x.value))
      (λ y. outcome int c k rest (with_field s f y) l)
      (λ y is. results-fine rest hand Anything sub back (with_field s f y) l typed (λ r e. refl))
  results-fine (StoreAt a i e rest) hand v sub back s l typed known =
      value-fine R (meaning int s l i)
      (λ n. with_value (with_meaning (meaning int s l e) (λ x. brought_to (element (slice_get s.rows a) n.value) x.value))
      (λ y. outcome int c k rest (with_element s a n.value y) l))
      (λ n is. value-fine R
      (with_meaning (meaning int s l e) (λ x. brought_to (element (slice_get s.rows a) n.value) x.value))
      (λ y. outcome int c k rest (with_element s a n.value y) l)
      (λ y is. results-fine rest hand Anything sub back (with_element s a n.value y) l typed (λ r e. refl)))
  results-fine (Call t i f args rest) hand v sub back s l typed known =
      call-fine t i f args rest hand (hand && hands_on p t i f args) (hands_on p t i f args) refl refl sub back s l
      (λ sub back. values-fine R int s l args (λ xs. called (c f xs s) t i l (λ v m. outcome int c k rest v m))
      (λ xs. called-fine R (c f xs s) t i l (λ v m. outcome int c k rest v m) typed
      (λ s l typed. results-fine rest hand Anything sub back s l typed (λ r e. refl))))
  results-fine (Select t i e cases args rest) hand v sub back s l typed known =
      value-fine R (meaning int s l e)
      (λ n. with_value (converted (promoted int n.type) n.value) (λ q. with_values int s l args (λ xs.
      selected q.type q.value cases (λ f. called (c f xs s) t i l (λ v m. outcome int c k rest v m))
      (outcome int c k rest s l))))
      (λ n is. value-fine R (converted (promoted int n.type) n.value)
      (λ q. with_values int s l args (λ xs.
      selected q.type q.value cases (λ f. called (c f xs s) t i l (λ v m. outcome int c k rest v m))
      (outcome int c k rest s l)))
      (λ q is. values-fine R int s l args
      (λ xs. selected q.type q.value cases (λ f. called (c f xs s) t i l (λ v m. outcome int c k rest v m))
      (outcome int c k rest s l))
      (λ xs. selected-fine R q.type q.value cases
      (λ f. called (c f xs s) t i l (λ v m. outcome int c k rest v m)) (outcome int c k rest s l)
      (λ f. called-fine R (c f xs s) t i l (λ v m. outcome int c k rest v m) typed
      (λ s l typed. results-fine rest hand Anything sub back s l typed (λ r e. refl)))
      (results-fine rest hand Anything sub back s l typed (λ r e. refl)))))
  results-fine (If e a b rest) hand v sub back s l typed known =
      let inner = leads_back p (rests p a) a b in
      let as_a = results (hand && inner) p (after_test (test_of e)) a in
      let as_b = results false p (after_test (opposite (test_of e))) b in
      let as_rest = results hand p Anything rest in
      value-fine R (meaning int s l e)
      (λ x. and_on (cond (is_true x.value) (outcome int c k a s l) (outcome int c k b s l))
      (λ v m. outcome int c k rest v m))
      (λ x is. on-fine R (cond (is_true x.value) (outcome int c k a s l) (outcome int c k b s l))
      (λ v m. outcome int c k rest v m)
      (cond-fine R (is_true x.value) (outcome int c k a s l) (outcome int c k b s l)
      (λ q. results-fine a (hand && inner) (after_test (test_of e))
      (λ r h. sub r (among-left (as_a ++ as_b) as_rest r (among-left as_a as_b r h)))
      (λ h. let h' = both-true hand inner h in part-all inner (rests p a) (rests p rest) h'.1 (back h'.0)) s l typed
      (knows-then int s l e x is typed q))
      (λ q. results-fine b false (after_test (opposite (test_of e)))
      (λ r h. sub r (among-left (as_a ++ as_b) as_rest r (among-right as_a as_b r h))) (λ h. absurd cc) s l typed
      (knows-else int s l e x is typed q)))
      (λ s l typed. results-fine rest hand Anything
      (λ r h. sub r (among-right (as_a ++ as_b) as_rest r h))
      (λ h. rest-all inner (rests p a) (rests p rest) (back h)) s l typed (λ r e. refl)))
  results-fine (While e a rest) hand v sub back s l typed known =
      let as_a = results false p Anything a in
      let as_rest = results hand p Anything rest in
      on-fine R (turns k (λ v m. meaning int v m e) (λ v m. outcome int c k a v m) s l)
      (λ v m. outcome int c k rest v m)
      (turns-fine R k (λ v m. meaning int v m e) (λ v m. outcome int c k a v m)
      (λ s l typed. results-fine a false Anything (λ r h. sub r (among-left as_a as_rest r h)) (λ h. absurd cc) s l
      typed (λ r e. refl)) s l typed)
      (λ s l typed. results-fine rest hand Anything (λ r h. sub r (among-right as_a as_rest r h)) back s l typed
      (λ r e. refl))
  results-fine (Return e) hand v sub back s l typed known =
      value-fine R (meaning int s l e) (λ x. Returns s x)
      (λ x is. let q = returns-known int s l e x is typed v known in
      (q.0, q.1, q.2, sub q.0 (or-false (allows (result_of e v) q.0) q.3)))

-- ---- calls

-- it returns one of these, if anything
abbrev IsGiven : List Known → Outcome → Type 0
IsGiven R (Falls s l) = Unit {0}
IsGiven R (Returns s x) = IsResult R x
IsGiven R Starves = Unit {0}
IsGiven R GoesWrong = Unit {0}

value-given : (R : List Known) (m : Meaning) (f : CValue → Outcome) → ((x : CValue) → m ≡ Gives x → IsGiven R (f x))
    → IsGiven R (with_value m f)
value-given R (Gives x) f h = h x refl
value-given R Wrong f h = tt

arguments-given : (R : List Known) (ts : List CType) (xs : List CValue) (k : ℕ) (l : Locals) (f : Locals → Outcome)
    → AreTyped l → ((l : Locals) → AreTyped l → IsGiven R (f l)) → IsGiven R (with_arguments ts xs k l f)
unfolding with_arguments
arguments-given R [] [] k l f typed h = h l typed
arguments-given R [] (x ∷ xs) k l f typed h = tt
arguments-given R (t ∷ ts) [] k l f typed h = tt
arguments-given R (t ∷ ts) (x ∷ xs) k l f typed h =
    value-given R (converted t x.value) (λ y. with_arguments ts xs (suc k) (with_local l t k y.value) f)
    (λ y is. arguments-given R ts xs (suc k) (with_local l t k y.value) f
    (put-typed l t k y.value typed (converted-again t x.value y is)) h)

returned-given : (R : List Known) (o : Outcome) → IsFine R o → IsGiven R (returned word o)
returned-given R (Falls s l) h = tt
returned-given R (Returns s x) h =
    subst (λ (m : Meaning). IsGiven R (with_value m (λ y. Returns s y))) (sym h.2)
    (record { r = h.0; low = h.1; is = refl; among = h.3 })
returned-given R Starves h = tt
returned-given R GoesWrong h = tt

module _ (file : File) (int : Width) (p : ℕ) (g : Function) (there : slice_get file.functions p ≡ Some g)
    (is_word : g.result ≡ word)
    (back : list_all (gives_each_back (results true p Anything g.body)) (rests p g.body) ≡ true) where
  -- what the function returns
  pub result-is : (n : ℕ) (xs : List CValue) (s after : Store) (x : CValue)
      → call file int n p xs s ≡ Returns after x → IsResult (results true p Anything g.body) x
  unfolding call
  result-is zero xs s after x e = absurd cc
  result-is (suc n) xs s after x e =
      let R = results true p Anything g.body in
      let given : IsGiven R (run int (call file int n) n (Some g) xs s) =
      arguments-given R g.parameters xs 0 no_locals
      (λ l. returned g.result (outcome int (call file int n) n g.body s l)) none-typed
      (λ l typed. subst (λ (t : CType). IsGiven R (returned t (outcome int (call file int n) n g.body s l)))
      (sym is_word)
      (returned-given R (outcome int (call file int n) n g.body s l)
      (results-fine int (call file int n) n p R (result-is n) g.body true Anything (λ r h. h) (λ h. back) s l typed
      (λ r e. refl)))) in
      subst (λ (o : Outcome). IsGiven R o)
      (ap (λ (o : Option Function). run int (call file int n) n o xs s) (sym there) ∙ e) given
