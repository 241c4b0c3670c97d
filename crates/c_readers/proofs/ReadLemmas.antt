-- Functions that only read the struct leave it as it was.
use Rattle.std.proofs.Common.{◌≡◌, ℕ, zero, suc, ℤ, pos, Bool, true, false, cond, List, [], ◌∷◌, ◌++◌, Option, Some}
use Rattle.std.proofs.Common.{None, map, int_le, ◌&&◌, ◌||◌, slice_get, refl, sym, subst, arith}
use Rattle.std.specs.List.{All, list_any}
use Rattle.std.proofs.lemmas.List.Elements.{All-cons, All-head, All-tail}
use Rattle.c_subset.specs.declared.trees.Case.{Case}
use Rattle.c_subset.specs.declared.trees.Width.{Width}
use Rattle.c_subset.specs.declared.trees.CType.{CType}
use Rattle.c_subset.specs.Trees.{CExpr, Function, File}
use Rattle.c_subset.specs.Trees.{Block, End, Set, Store as PutField, StoreAt, Call, Select, If, While, Return}
use Rattle.c_subset.specs.Lines.{Line, Close, lines_of, else_lines}
use Rattle.c_subset.specs.Meaning.{CValue, Meaning, Gives, Wrong, with_meaning, converted, promoted, is_true, Store}
use Rattle.c_subset.specs.Meaning.{Locals, meaning}
use Rattle.c_subset.specs.Running.{Outcome, Falls, Returns, Starves, GoesWrong, with_value, and_on, and_with}
use Rattle.c_subset.specs.Running.{with_local, Calls, with_values, called, selected, turns, outcome, with_arguments}
use Rattle.c_subset.specs.Running.{no_locals, returned, run, call}
use Rattle.c_readers.specs.Readers.{line_stores, line_callees, callees, stores, OnlyRead}

-- ---- lines that only read

-- the lines store nothing, and call only functions with a property
abbrev Reads : (ℕ → Type 0) → List Line → Type 0
Reads R [] = Unit {0}
Reads R (x ∷ xs) = (line_stores x ≡ false) × All R (line_callees x) × Reads R xs

-- both parts of a list
pub parts-all : {X : Type 0} (P : X → Type 0) (xs ys : List X) → All P (xs ++ ys) → All P xs × All P ys
parts-all P [] ys h = (λ k d lt. absurd (omega (arith, lt)), h)
parts-all P (x ∷ xs) ys h =
    let rest = parts-all P xs ys (All-tail P x (xs ++ ys) h) in
    (All-cons P x xs (All-head P x (xs ++ ys) h) rest.0, rest.1)

none-false : (a b : Bool) → (a || b) ≡ false → (a ≡ false) × (b ≡ false)
none-false true b h = absurd (cc h)
none-false false b h = (refl, h)

reads : (R : ℕ → Type 0) (xs : List Line) → list_any line_stores xs ≡ false → All R (callees xs) → Reads R xs
reads R [] none all = tt
reads R (x ∷ xs) none all =
    let first = none-false (line_stores x) (list_any line_stores xs) none in
    let parts = parts-all R (line_callees x) (callees xs) all in
    (first.0, parts.0, reads R xs first.1 parts.1)

module _ (R : ℕ → Type 0) where
  parts : (xs ys : List Line) → Reads R (xs ++ ys) → Reads R xs × Reads R ys
  parts [] ys h = (tt, h)
  parts (x ∷ xs) ys h = let rest = parts xs ys h.2 in ((h.0, h.1, rest.0), rest.1)

  else-reads : (xs : List Line) → Reads R (else_lines xs) → Reads R xs
  else-reads [] h = tt
  else-reads (x ∷ xs) h = h.2

-- ---- outcomes

-- the struct is as it was
abbrev Keeps : Store → Outcome → Type 0
Keeps s (Falls v l) = v ≡ s
Keeps s (Returns v x) = v ≡ s
Keeps s Starves = Unit {0}
Keeps s GoesWrong = Unit {0}

value-keeps : (s : Store) (m : Meaning) (f : CValue → Outcome) → ((x : CValue) → Keeps s (f x))
    → Keeps s (with_value m f)
value-keeps s (Gives x) f h = h x
value-keeps s Wrong f h = tt

cond-keeps : (s : Store) (b : Bool) (o p : Outcome) → Keeps s o → Keeps s p → Keeps s (cond b o p)
cond-keeps s true o p h i = h
cond-keeps s false o p h i = i

on-keeps : (s : Store) (o : Outcome) (f : Store → Locals → Outcome) → Keeps s o
    → ((l : Locals) → Keeps s (f s l)) → Keeps s (and_on o f)
on-keeps s (Falls v l) f h i = subst (λ (w : Store). Keeps s (f w l)) (sym h) (i l)
on-keeps s (Returns v x) f h i = h
on-keeps s Starves f h i = tt
on-keeps s GoesWrong f h i = tt

with-keeps : (s : Store) (o : Outcome) (f : Store → CValue → Outcome) → Keeps s o
    → ((x : CValue) → Keeps s (f s x)) → Keeps s (and_with o f)
with-keeps s (Falls v l) f h i = tt
with-keeps s (Returns v x) f h i = subst (λ (w : Store). Keeps s (f w x)) (sym h) (i x)
with-keeps s Starves f h i = tt
with-keeps s GoesWrong f h i = tt

called-keeps : (s : Store) (o : Outcome) (t : CType) (i : ℕ) (l : Locals) (f : Store → Locals → Outcome)
    → Keeps s o → ((l : Locals) → Keeps s (f s l)) → Keeps s (called o t i l f)
called-keeps s o t i l f h k =
    with-keeps s o (λ v x. with_value (converted t x.value) (λ y. f v (with_local l t i y.value))) h
    (λ x. value-keeps s (converted t x.value) (λ y. f s (with_local l t i y.value))
    (λ y. k (with_local l t i y.value)))

values-keep : (int : Width) (s : Store) (l : Locals) (es : List CExpr) (f : List CValue → Outcome)
    → ((xs : List CValue) → Keeps s (f xs)) → Keeps s (with_values int s l es f)
unfolding with_values
values-keep int s l [] f h = h []
values-keep int s l (e ∷ es) f h =
    value-keeps s (meaning int s l e) (λ x. with_values int s l es (λ xs. f (x ∷ xs)))
    (λ x. values-keep int s l es (λ xs. f (x ∷ xs)) (λ xs. h (x ∷ xs)))

selected-keeps : (R : ℕ → Type 0) (s : Store) (t : CType) (z : ℤ) (cases : List Case) (f : ℕ → Outcome) (o : Outcome)
    → All R (map (λ (c : Case). c.function) cases) → ((q : ℕ) → R q → Keeps s (f q)) → Keeps s o
    → Keeps s (selected t z cases f o)
selected-keeps R s t z [] f o all h e = e
selected-keeps R s t z (c ∷ cases) f o all h e =
    let rest = map (λ (c : Case). c.function) cases in
    value-keeps s (converted t (pos c.label))
    (λ y. cond (int_le y.value z && int_le z y.value) (f c.function) (selected t z cases f o))
    (λ y. cond-keeps s (int_le y.value z && int_le z y.value) (f c.function) (selected t z cases f o)
    (h c.function (All-head R c.function rest all))
    (selected-keeps R s t z cases f o (All-tail R c.function rest all) h e))

turns-keep : (k : ℕ) (test : Store → Locals → Meaning) (turn : Store → Locals → Outcome)
    → ((s : Store) (l : Locals) → Keeps s (turn s l)) → (s : Store) (l : Locals) → Keeps s (turns k test turn s l)
unfolding turns
turns-keep zero test turn h s l = tt
turns-keep (suc k) test turn h s l =
    value-keeps s (test s l) (λ x. cond (is_true x.value) (and_on (turn s l) (turns k test turn)) (Falls s l))
    (λ x. cond-keeps s (is_true x.value) (and_on (turn s l) (turns k test turn)) (Falls s l)
    (on-keeps s (turn s l) (turns k test turn) (h s l) (λ m. turns-keep k test turn h s m)) refl)

-- ---- statements and functions

module _ (R : ℕ → Type 0) (int : Width) (c : Calls)
    (kept : (f : ℕ) (xs : List CValue) (s : Store) → R f → Keeps s (c f xs s)) (k : ℕ) where
  outcome-keeps : (a : Block) → Reads R (lines_of a) → (s : Store) (l : Locals) → Keeps s (outcome int c k a s l)
  unfolding outcome lines_of
  outcome-keeps End h s l = refl
  outcome-keeps (Set t i e rest) h s l =
      value-keeps s (with_meaning (meaning int s l e) (λ x. converted t x.value)) _
      (λ y. outcome-keeps rest h.2 s (with_local l t i y.value))
  outcome-keeps (PutField f e rest) h s l = absurd (cc (h.0))
  outcome-keeps (StoreAt a i e rest) h s l = absurd (cc (h.0))
  outcome-keeps (Call t i f args rest) h s l =
      values-keep int s l args (λ xs. called (c f xs s) t i l (λ v m. outcome int c k rest v m))
      (λ xs. called-keeps s (c f xs s) t i l (λ v m. outcome int c k rest v m)
      (kept f xs s (All-head R f [] h.1)) (λ m. outcome-keeps rest h.2 s m))
  outcome-keeps (Select t i e cases args rest) h s l =
      value-keeps s (meaning int s l e) _ (λ n. value-keeps s (converted (promoted int n.type) n.value) _
      (λ p. values-keep int s l args
      (λ xs. selected p.type p.value cases (λ f. called (c f xs s) t i l (λ v m. outcome int c k rest v m))
      (outcome int c k rest s l))
      (λ xs. selected-keeps R s p.type p.value cases
      (λ f. called (c f xs s) t i l (λ v m. outcome int c k rest v m)) (outcome int c k rest s l) h.1
      (λ f has. called-keeps s (c f xs s) t i l (λ v m. outcome int c k rest v m)
      (kept f xs s has) (λ m. outcome-keeps rest h.2 s m))
      (outcome-keeps rest h.2 s l))))
  outcome-keeps (If e a b rest) h s l =
      let last = parts R (lines_of a ++ else_lines (lines_of b)) (Close ∷ lines_of rest) h.2 in
      let both = parts R (lines_of a) (else_lines (lines_of b)) last.0 in
      value-keeps s (meaning int s l e) _ (λ x.
      on-keeps s (cond (is_true x.value) (outcome int c k a s l) (outcome int c k b s l))
      (λ v m. outcome int c k rest v m)
      (cond-keeps s (is_true x.value) (outcome int c k a s l) (outcome int c k b s l)
      (outcome-keeps a both.0 s l) (outcome-keeps b (else-reads R (lines_of b) both.1) s l))
      (λ m. outcome-keeps rest last.1.2 s m))
  outcome-keeps (While e a rest) h s l =
      let first = parts R (lines_of a) (Close ∷ lines_of rest) h.2 in
      on-keeps s (turns k (λ v m. meaning int v m e) (λ v m. outcome int c k a v m) s l)
      (λ v m. outcome int c k rest v m)
      (turns-keep k (λ v m. meaning int v m e) (λ v m. outcome int c k a v m)
      (λ v m. outcome-keeps a first.0 v m) s l) (λ m. outcome-keeps rest first.1.2 s m)
  outcome-keeps (Return e) h s l = value-keeps s (meaning int s l e) _ (λ x. refl)

arguments-keep : (s : Store) (ts : List CType) (xs : List CValue) (k : ℕ) (l : Locals) (f : Locals → Outcome)
    → ((l : Locals) → Keeps s (f l)) → Keeps s (with_arguments ts xs k l f)
unfolding with_arguments
arguments-keep s [] [] k l f h = h l
arguments-keep s [] (x ∷ xs) k l f h = tt
arguments-keep s (t ∷ ts) [] k l f h = tt
arguments-keep s (t ∷ ts) (x ∷ xs) k l f h =
    value-keeps s (converted t x.value) (λ y. with_arguments ts xs (suc k) (with_local l t k y.value) f)
    (λ y. arguments-keep s ts xs (suc k) (with_local l t k y.value) f h)

module _ (file : File) (reads_only : ℕ → Bool) (only : OnlyRead file.functions reads_only) (int : Width) where
  abbrev R : ℕ → Type 0
  R f = reads_only f ≡ true

  run-keeps : (c : Calls) (k f : ℕ) (o : Option Function) → slice_get file.functions f ≡ o → R f
      → ((f : ℕ) (xs : List CValue) (s : Store) → R f → Keeps s (c f xs s)) → (xs : List CValue) (s : Store)
      → Keeps s (run int c k o xs s)
  run-keeps c k f None is has kept xs s = tt
  run-keeps c k f (Some g) is has kept xs s =
      arguments-keep s g.parameters xs 0 no_locals (λ l. returned g.result (outcome int c k g.body s l))
      (λ l. with-keeps s (outcome int c k g.body s l) _
      (outcome-keeps R int c kept k g.body
      (reads R (lines_of g.body) (only.stores_nothing f g is has) (only.calls f g is has)) s l)
      (λ x. value-keeps s (converted g.result x.value) (λ y. Returns s y) (λ y. refl)))

  call-keeps : (k f : ℕ) (xs : List CValue) (s : Store) → R f → Keeps s (call file int k f xs s)
  unfolding call
  call-keeps zero f xs s has = tt
  call-keeps (suc k) f xs s has =
      run-keeps (call file int k) k f (slice_get file.functions f) refl has
      (λ f xs s has. call-keeps k f xs s has) xs s

-- a call of such a function that returned
pub call-left : (file : File) (reads_only : ℕ → Bool) (int : Width) (k f : ℕ) (xs : List CValue) (s after : Store)
    (x : CValue) → OnlyRead file.functions reads_only → reads_only f ≡ true
    → call file int k f xs s ≡ Returns after x → after ≡ s
call-left file reads_only int k f xs s after x only has is =
    subst (Keeps s) is (call-keeps file reads_only only int k f xs s has)
