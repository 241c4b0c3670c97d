-- The functions of the code are those of the file.
use Rattle.std.proofs.Common.{◌≡◌, ◌+◌, ◌<◌, ℕ, zero, suc, nat_lt, Bool, true, false, cond, List, [], ◌∷◌, ◌++◌, length, map, refl, sym, ap, ◌∙◌}
use Rattle.std.proofs.Common.{arith, subst, slice_get, get_or, Some, below_more}
use Rattle.std.proofs.lemmas.Bool.Decides.{nat_tests}
use Rattle.std.proofs.lemmas.List.{length-append}
use Rattle.std.proofs.lemmas.Option.{slice_get_within, slice_get-get_or}
use Rattle.std.specs.List.{range_with_len}
use Rattle.flow_base.specs.declared.bounds.Bounds.{Bounds}
use Rattle.code_language.specs.Code.{Code}
use Rattle.flow_base.specs.Lists.{items_of}
use Rattle.c_subset.specs.declared.trees.CType.{CType}
use Rattle.c_subset.specs.Trees.{Block, Function, File}
use Rattle.c_subset.specs.Lines.{IsFunction, lines_in}
use Rattle.c_trees.specs.Reading.{statements_of}
use Rattle.c_trees.proofs.ReadLemmas.{read-whole}
use Rattle.c_subset.specs.declared.trees.Function as declared
use Rattle.c_functions.specs.Statements as plan
use Rattle.c_functions.specs.Writer.{plans_of}
use Rattle.c_functions.specs.Plans.{Shape, Tests}
use Rattle.c_functions.specs.Files.{shape_of, functions_c, procedure_c}
use Rattle.c_functions.specs.Starts.{file_of}
use Rattle.c_functions.proofs.FilesFunctions.{range-length}
use Rattle.c_loops.specs.Loops.{looped, loops_from}
use Rattle.c_bare.specs.Bare.{AreFunctions, bared, bared_from}
use Rattle.c_writer.specs.Functions.{IsAt, IsShapeOf}
use Rattle.c_passes.specs.Passed.{function_of, functions_in, written_file, looped_below}
use Rattle.c_passes.proofs.HeadLemmas.{loops_count, bare_count, map_count}

-- ---- how many there are

-- those of procedures stand first, then eight others, then those that are called from outside
pub first_count : (k : Code) (T : Tests) (b : Bounds) (room : ℕ) (bodies : ℕ → plan.Block)
    → length (functions_c (shape_of k T b room) bodies) ≡ length k.procedures.procs + 8
unfolding functions_c
first_count k T b room bodies =
    length-append
    (map (λ q. procedure_c (shape_of k T b room) (bodies q)) (range_with_len 0 (length k.procedures.procs))) _
    ∙ ap (λ (n : ℕ). n + 8)
    (range-length (λ q. procedure_c (shape_of k T b room) (bodies q)) 0 (length k.procedures.procs))

-- there are eleven after those of procedures
file_count : (k : Code) (T : Tests) (b : Bounds) (room : ℕ) (bodies : ℕ → plan.Block)
    → length (file_of k T b room bodies).functions ≡ length k.procedures.procs + 11
file_count k T b room bodies =
    let all : length (file_of k T b room bodies).functions ≡ length (functions_c (shape_of k T b room) bodies) + 3 =
    length-append (functions_c (shape_of k T b room) bodies) _ in
    omega (arith, all, first_count k T b room bodies)

pub functions_count : (K : Shape) (k : Code) → IsShapeOf K k → K.procs + 11 ≡ length (written_file K k).functions
functions_count K k is =
    ap (λ (H : Shape). H.procs + 11) is ∙ sym (file_count k K.tests K.bounds K.outputs (plans_of k))

-- ---- one function

-- there is one function at a place
pub one_function : (functions : List Function) (n : ℕ) (f : declared.Function) (g : Function)
    → IsAt functions n f → slice_get functions n ≡ Some g → IsFunction f g
one_function functions n f g at there = subst (IsFunction f) (some_is (sym at.there ∙ there)) at.is where
  some_is : Some at.function ≡ Some g → at.function ≡ g
  some_is e = cc

-- ---- one after the other

-- the first so many functions are made
pub record AreSoFar (fs : List declared.Function) (gs : List Function) (n : ℕ) : Type 0 where
  pub count : length fs ≡ n
  pub each : (i : ℕ) → i < n → (f : declared.Function) → slice_get fs i ≡ Some f → (g : Function)
      → slice_get gs i ≡ Some g → IsFunction f g

pub none_so_far : (fs : List declared.Function) (gs : List Function) → fs ≡ [] → AreSoFar fs gs 0
none_so_far fs gs none = record {
  count = ap length none;
  each = λ i lt. absurd (omega (arith, lt));
}

-- what stands at the end, and before it
at_end : {A : Type 0} (xs : List A) (x y : A) (i : ℕ) → i ≡ length xs → slice_get (xs ++ x ∷ []) i ≡ Some y → x ≡ y
at_end [] x y zero e there = cc
at_end [] x y (suc i) e there = absurd (omega (arith, e))
at_end (z ∷ xs) x y zero e there = absurd (omega (arith, e))
at_end (z ∷ xs) x y (suc i) e there = at_end xs x y i (omega (arith, e)) there

before_end : {A : Type 0} (xs : List A) (x : A) (i : ℕ) → i < length xs → slice_get (xs ++ x ∷ []) i ≡ slice_get xs i
before_end [] x i lt = absurd (omega (arith, lt))
before_end (z ∷ xs) x zero lt = refl
before_end (z ∷ xs) x (suc i) lt = before_end xs x i (omega (arith, lt))

pub one_more : (fs new : List declared.Function) (gs : List Function) (n : ℕ) (made : declared.Function)
    → AreSoFar fs gs n → ((g : Function) → slice_get gs n ≡ Some g → IsFunction made g) → new ≡ fs ++ made ∷ []
    → AreSoFar new gs (n + 1)
one_more fs new gs n made so_far is new_is = record {
  count = ap length new_is ∙ length-append fs (made ∷ []) ∙ ap (λ (m : ℕ). m + 1) so_far.count;
  each =
      below_more (λ (i : ℕ). (f : declared.Function) → slice_get new i ≡ Some f → (g : Function)
      → slice_get gs i ≡ Some g → IsFunction f g) n
      (λ i lt f there g at. so_far.each i lt f
      (sym (before_end fs made i (omega (arith, lt, so_far.count)))
      ∙ ap (λ (fs : List declared.Function). slice_get fs i) (sym new_is) ∙ there) g at)
      (λ f there g at. subst (λ (h : declared.Function). IsFunction h g)
      (at_end fs made f n (omega (arith, so_far.count))
      (ap (λ (fs : List declared.Function). slice_get fs n) (sym new_is) ∙ there)) (is g at));
}

pub all_so_far : (fs : List declared.Function) (gs : List Function) (n : ℕ) → n ≡ length gs → AreSoFar fs gs n
    → AreFunctions fs gs
all_so_far fs gs n all so_far = record {
  count = so_far.count ∙ all;
  each =
      λ i f g there at. so_far.each i (omega (arith, within fs i f there, so_far.count)) f there g at;
} where
  within : (fs : List declared.Function) (i : ℕ) (f : declared.Function) → slice_get fs i ≡ Some f → i < length fs
  within [] zero f e = absurd cc
  within [] (suc i) f e = absurd cc
  within (x ∷ fs) zero f e = omega arith
  within (x ∷ fs) (suc i) f e = omega (arith, within fs i f e)

-- ---- as statements

-- functions of the code as statements are those of the file
same_function : (f : declared.Function) (g : Function) → IsFunction f g → function_of f ≡ g
same_function f g is =
    by f.result g.result is.result (items_of f.parameters) g.parameters is.parameters
    (statements_of (lines_in (items_of f.lines))) g.body (ap statements_of is.lines ∙ read-whole g.body)
  where
    made : CType → List CType → Block → Function
    made t ts a = record { result = t; parameters = ts; body = a }

    by : (t u : CType) → t ≡ u → (ts us : List CType) → ts ≡ us → (a b : Block) → a ≡ b → made t ts a ≡ made u us b
    by t u e ts us es a b ab =
        ap (λ (x : CType). made x ts a) e ∙ ap (λ (x : List CType). made u x a) es ∙ ap (λ (x : Block). made u us x) ab

pub functions_are : (fs : List declared.Function) (gs : List Function) → AreFunctions fs gs → functions_in fs ≡ gs
functions_are [] [] are = refl
functions_are [] (g ∷ gs) are = absurd (ends are.count) where
  ends : 0 ≡ suc (length gs) → ⊥
  ends e = absurd (omega (arith, e))
functions_are (f ∷ fs) [] are = absurd (ends are.count) where
  ends : suc (length fs) ≡ 0 → ⊥
  ends e = absurd (omega (arith, e))
functions_are (f ∷ fs) (g ∷ gs) are =
    both (function_of f) g (same_function f g (are.each 0 f g refl refl)) (functions_in fs) gs
    (functions_are fs gs (record {
      count = less are.count;
      each = λ i x y there at. are.each (suc i) x y there at;
    }))
  where
    both : (x y : Function) → x ≡ y → (xs ys : List Function) → xs ≡ ys → x ∷ xs ≡ y ∷ ys
    both x y e xs ys es = cc

    less : suc (length fs) ≡ suc (length gs) → length fs ≡ length gs
    less e = omega (arith, e)

-- of each of them there is the function of the code
pub function_is : (fs : List declared.Function) (gs : List Function) → AreFunctions fs gs → (i : ℕ)
    → (f : declared.Function) → slice_get fs i ≡ Some f → (g : Function) → slice_get (functions_in fs) i ≡ Some g
    → IsFunction f g
function_is fs gs are i f there g at =
    are.each i f g there (ap (λ (xs : List Function). slice_get xs i) (sym (functions_are fs gs are)) ∙ at)

-- there are as many as in the file of the code
pub passed_count : (K : Shape) (k : Code) → IsShapeOf K k → (fs : List declared.Function) (made : File)
    → AreFunctions fs made.functions → length made.functions ≡ length (written_file K k).functions
    → K.procs + 11 ≡ length (functions_in fs)
passed_count K k is fs made are same =
    ap (λ (H : Shape). H.procs + 11) is
    ∙ sym (ap length (functions_are fs made.functions are) ∙ same
    ∙ file_count k K.tests K.bounds K.outputs (plans_of k))

-- ---- functions that are made of others, one after the other

-- the functions that were taken are made, each of them what turn makes of one with its number
pub record AreTurnedSoFar (turn : ℕ → Function → Function) (taken fs : List declared.Function) : Type 0 where
  pub count : length fs ≡ length taken
  pub each : (i : ℕ) (t f : declared.Function) → slice_get taken i ≡ Some t → slice_get fs i ≡ Some f
      → (g : Function) → IsFunction t g → IsFunction f (turn i g)

pub none_turned : (turn : ℕ → Function → Function) (fs : List declared.Function) → fs ≡ []
    → AreTurnedSoFar turn [] fs
none_turned turn fs none = record {
  count = ap length none;
  each = λ i t f there. absurd (no_item i t there);
} where
  no_item : (i : ℕ) (t : declared.Function) → slice_get [] i ≡ Some t → ⊥
  no_item zero t e = cc
  no_item (suc i) t e = cc

pub one_more_turned : (turn : ℕ → Function → Function) (taken fs new : List declared.Function) (n : ℕ)
    (t f : declared.Function) → AreTurnedSoFar turn taken fs → n ≡ length fs
    → ((g : Function) → IsFunction t g → IsFunction f (turn n g)) → new ≡ fs ++ f ∷ []
    → AreTurnedSoFar turn (taken ++ t ∷ []) new
one_more_turned turn taken fs new n t f so_far is makes new_is = record {
  count =
      ap length new_is ∙ length-append fs (f ∷ []) ∙ ap (λ (m : ℕ). m + 1) so_far.count
      ∙ sym (length-append taken (t ∷ []));
  each =
      λ i u h there at. below_more (λ (i : ℕ). (u h : declared.Function) → slice_get (taken ++ t ∷ []) i ≡ Some u
      → slice_get new i ≡ Some h → (g : Function) → IsFunction u g → IsFunction h (turn i g)) (length taken)
      (λ i lt u h there at. so_far.each i u h (sym (before_end taken t i lt) ∙ there)
      (sym (before_end fs f i (omega (arith, lt, so_far.count)))
      ∙ ap (λ (xs : List declared.Function). slice_get xs i) (sym new_is) ∙ at))
      (λ u h there at g is_u. subst (λ (x : declared.Function). IsFunction x (turn (length taken) g))
      (at_end fs f h (length taken) (sym so_far.count)
      (ap (λ (xs : List declared.Function). slice_get xs (length taken)) (sym new_is) ∙ at))
      (subst (λ (m : ℕ). IsFunction f (turn m g)) (is ∙ so_far.count)
      (makes g (subst (λ (x : declared.Function). IsFunction x g)
      (sym (at_end taken t u (length taken) refl there)) is_u)))) i
      (omega (arith, slice_get_within (taken ++ t ∷ []) i u there, length-append taken (t ∷ []))) u h there at;
}

-- a function that was taken, of which one is made
record IsTaken (taken : List declared.Function) (i : ℕ) : Type 0 where
  function : declared.Function
  there : slice_get taken i ≡ Some function

taken_at : (turn : ℕ → Function → Function) (taken fs : List declared.Function) → AreTurnedSoFar turn taken fs
    → (i : ℕ) (f : declared.Function) → slice_get fs i ≡ Some f → IsTaken taken i
taken_at turn taken fs so_far i f there =
    let lt : i < length fs = slice_get_within fs i f there in record {
      function = get_or taken i f;
      there = slice_get-get_or taken i f (omega (arith, lt, so_far.count));
    }

-- ---- each by itself

-- a function with a number of those that are made one by one
record IsMappedAt (turn : Function → Function) (gs : List Function) (i : ℕ) (g : Function) : Type 0 where
  function : Function
  there : slice_get gs i ≡ Some function
  is : turn function ≡ g

mapped_at : (turn : Function → Function) (gs : List Function) (i : ℕ) (g : Function)
    → slice_get (map turn gs) i ≡ Some g → IsMappedAt turn gs i g
mapped_at turn [] zero g there = absurd cc
mapped_at turn [] (suc i) g there = absurd cc
mapped_at turn (x ∷ gs) zero g there = record { function = x; there = refl; is = some_is there } where
  some_is : Some (turn x) ≡ Some g → turn x ≡ g
  some_is e = cc
mapped_at turn (x ∷ gs) (suc i) g there =
    let rest = mapped_at turn gs i g there in
    record { function = rest.function; there = rest.there; is = rest.is }

-- when all were taken, they are those of the file of which each is made by itself
pub all_mapped : (turn : Function → Function) (taken fs : List declared.Function)
    → AreTurnedSoFar (λ i g. turn g) taken fs → (gs : List Function) → AreFunctions taken gs
    → AreFunctions fs (map turn gs)
all_mapped turn taken fs so_far gs are = record {
  count = so_far.count ∙ are.count ∙ sym (map_count turn gs);
  each =
      λ i f g there at. let has : IsMappedAt turn gs i g = mapped_at turn gs i g at in
      let t : IsTaken taken i = taken_at (λ i g. turn g) taken fs so_far i f there in
      subst (IsFunction f) has.is
      (so_far.each i t.function f t.there there has.function (are.each i t.function has.function t.there has.there));
}

-- ---- bare functions

-- a function with a number in the file where those with a flag are bare
record IsBaredAt (flags : List Bool) (gs : List Function) (i n : ℕ) (g : Function) : Type 0 where
  function : Function
  there : slice_get gs i ≡ Some function
  is : bared flags n function ≡ g

bared_at : (flags : List Bool) (gs : List Function) (p i n : ℕ) (g : Function) → n ≡ p + i
    → slice_get (bared_from flags p gs) i ≡ Some g → IsBaredAt flags gs i n g
bared_at flags [] p zero n g e there = absurd cc
bared_at flags [] p (suc i) n g e there = absurd cc
bared_at flags (x ∷ gs) p zero n g e there = record {
  function = x;
  there = refl;
  is = ap (λ (m : ℕ). bared flags m x) (first e) ∙ some_is there;
} where
  first : n ≡ p + 0 → n ≡ p
  first e = omega (arith, e)

  some_is : Some (bared flags p x) ≡ Some g → bared flags p x ≡ g
  some_is e = cc
bared_at flags (x ∷ gs) p (suc i) n g e there =
    let rest = bared_at flags gs (suc p) i n g (omega (arith, e)) there in
    record { function = rest.function; there = rest.there; is = rest.is }

-- when all were taken, they are those of that file
pub all_bare : (flags : List Bool) (taken fs : List declared.Function) → AreTurnedSoFar (bared flags) taken fs
    → (gs : List Function) → AreFunctions taken gs → AreFunctions fs (bared_from flags 0 gs)
all_bare flags taken fs so_far gs are = record {
  count = so_far.count ∙ are.count ∙ sym (bare_count flags gs 0);
  each =
      λ i f g there at. let has : IsBaredAt flags gs i i g = bared_at flags gs 0 i i g (omega arith) at in
      let t : IsTaken taken i = taken_at (bared flags) taken fs so_far i f there in
      subst (IsFunction f) has.is
      (so_far.each i t.function f t.there there has.function (are.each i t.function has.function t.there has.there));
}

-- ---- loops

-- a function with a number in the file where the first so many are loops where they may be
record IsLoopedAt (n : ℕ) (gs : List Function) (i m : ℕ) (g : Function) : Type 0 where
  function : Function
  there : slice_get gs i ≡ Some function
  is : looped_below n m function ≡ g

looped_at : (n left : ℕ) (gs : List Function) (p i m : ℕ) (g : Function) → n ≡ p + left → m ≡ p + i
    → slice_get (loops_from p left gs) i ≡ Some g → IsLoopedAt n gs i m g
looped_at n zero gs p i m g all e there = record {
  function = g;
  there = there;
  is = ap (λ (b : Bool). cond b (looped m g) g) (past (nat_lt m n) refl);
} where
  past : (b : Bool) → nat_lt m n ≡ b → b ≡ false
  past true less = absurd (grind (arith, nat_tests))
  past false less = refl
looped_at n (suc left) [] p zero m g all e there = absurd cc
looped_at n (suc left) [] p (suc i) m g all e there = absurd cc
looped_at n (suc left) (x ∷ gs) p zero m g all e there = record {
  function = x;
  there = refl;
  is =
      ap (λ (b : Bool). cond b (looped m x) x) (below (nat_lt m n) refl)
      ∙ ap (λ (q : ℕ). looped q x) (first e) ∙ some_is there;
} where
  first : m ≡ p + 0 → m ≡ p
  first e = omega (arith, e)

  some_is : Some (looped p x) ≡ Some g → looped p x ≡ g
  some_is e = cc

  below : (b : Bool) → nat_lt m n ≡ b → b ≡ true
  below true less = refl
  below false less = absurd (grind (arith, nat_tests))
looped_at n (suc left) (x ∷ gs) p (suc i) m g all e there =
    let rest = looped_at n left gs (suc p) i m g (omega (arith, all)) (omega (arith, e)) there in
    record { function = rest.function; there = rest.there; is = rest.is }

-- when all were taken, they are those of that file
pub all_looped : (n : ℕ) (taken fs : List declared.Function) → AreTurnedSoFar (looped_below n) taken fs
    → (gs : List Function) → AreFunctions taken gs → AreFunctions fs (loops_from 0 n gs)
all_looped n taken fs so_far gs are = record {
  count = so_far.count ∙ are.count ∙ sym (loops_count gs 0 n);
  each =
      λ i f g there at. let has : IsLoopedAt n gs i i g = looped_at n n gs 0 i i g (omega arith) (omega arith) at in
      let t : IsTaken taken i = taken_at (looped_below n) taken fs so_far i f there in
      subst (IsFunction f) has.is
      (so_far.each i t.function f t.there there has.function (are.each i t.function has.function t.there has.there));
}
