-- A call of a function keeps the types of the struct's fields and elements, and how many there are.
use Rattle.std.proofs.Common.{◌≡◌, ℕ, zero, suc, ℤ, Bool, true, false, cond, List, [], ◌∷◌, length, map, Option, Some, None}
use Rattle.std.proofs.Common.{slice_get, slice_set, slice_index_or, pos, negsuc, refl, sym, ap, ◌∙◌, subst}
use Rattle.std.proofs.Common.{int_le, ◌&&◌}
use Rattle.std.proofs.lemmas.List.{length-map}
use Rattle.c_subset.specs.declared.trees.Case.{Case}
use Rattle.c_subset.specs.declared.trees.CType.{CType}
use Rattle.c_subset.specs.declared.trees.CType.TheVariants.{Signed, Unsigned, Truth}
use Rattle.c_subset.specs.declared.trees.Width.{Width}
use Rattle.c_subset.specs.Trees.{File, Function, CExpr}
use Rattle.c_subset.specs.Trees.{Block, End, Set, Store as PutField, StoreAt, Call, Select, If, While, Return}
use Rattle.c_subset.specs.Meaning.{bits, CValue, Meaning, Gives, Wrong, with_meaning, gives, fits_signed, converted, promoted}
use Rattle.c_subset.specs.Meaning.{is_true, Object, Store, Locals, entry, element, meaning}
use Rattle.c_subset.specs.Running.{Outcome, Falls, Returns, Starves, GoesWrong, with_value, and_on, and_with, object_of}
use Rattle.c_subset.specs.Running.{with_local, brought_to, with_field, with_entry, with_element, Calls, with_values, called}
use Rattle.c_subset.specs.Running.{selected, turns, outcome, with_arguments, run, call, no_locals}
use Rattle.c_functions.specs.Plans.{Shape}
use Rattle.c_functions.specs.Files.{HasRow}
use Rattle.c_functions.specs.Starts.{HasShape}
use Rattle.c_functions.proofs.PlansWords.{none-got}
use Rattle.c_functions.proofs.PlansAssignments.{mapped}

-- the types of objects
abbrev pub types_of : List Object → List CType
types_of xs = map (λ (o : Object). o.type) xs

-- a struct with the same fields and arrays, whatever they hold
pub record SameTypes (s t : Store) : Type 0 where
  pub fields : types_of t.fields ≡ types_of s.fields
  pub rows : map types_of t.rows ≡ map types_of s.rows

pub same-itself : (s : Store) → SameTypes s s
same-itself s = record { fields = refl; rows = refl }

pub same-on : (s t u : Store) → SameTypes s t → SameTypes t u → SameTypes s u
same-on s t u a b = record { fields = b.fields ∙ a.fields; rows = b.rows ∙ a.rows }

-- what is left has the same types
abbrev pub Keeps : Store → Outcome → Type 0
Keeps s (Falls t l) = SameTypes s t
Keeps s (Returns t x) = SameTypes s t
Keeps s Starves = Unit {0}
Keeps s GoesWrong = Unit {0}

keeps-on : (s t : Store) (o : Outcome) → SameTypes s t → Keeps t o → Keeps s o
keeps-on s t (Falls u l) a b = same-on s t u a b
keeps-on s t (Returns u x) a b = same-on s t u a b
keeps-on s t Starves a b = tt
keeps-on s t GoesWrong a b = tt

-- ---- values and objects

value-keeps : (s : Store) (m : Meaning) (f : CValue → Outcome) → ((x : CValue) → m ≡ Gives x → Keeps s (f x))
    → Keeps s (with_value m f)
value-keeps s (Gives x) f h = h x refl
value-keeps s Wrong f h = tt

given-by : (m : Meaning) (f : CValue → Meaning) (y : CValue) → with_meaning m f ≡ Gives y
    → (x : CValue) × (f x ≡ Gives y)
given-by (Gives x) f y e = (x, e)
given-by Wrong f y e = absurd cc

converted-type : (t : CType) (z : ℤ) (y : CValue) → converted t z ≡ Gives y → y.type ≡ t
converted-type (Signed w) z y e = by (fits_signed (bits w) z) e
  where
    by : (b : Bool) → cond b (gives (Signed w) z) Wrong ≡ Gives y → y.type ≡ Signed w
    by true e = cc
    by false e = absurd cc
converted-type (Unsigned w) z y e = cc
converted-type Truth z y e = cc

-- an object is there, of the type of what is brought to it
brought-type : (o : Option Object) (z : ℤ) (y : CValue) → brought_to o z ≡ Gives y
    → (p : Object) × (o ≡ Some p) × (y.type ≡ p.type)
brought-type (Some p) z y e = (p, refl, converted-type p.type z y e)
brought-type None z y e = absurd cc

pub types-set : (xs : List Object) (i : ℕ) (o p : Object) → slice_get xs i ≡ Some p → o.type ≡ p.type
    → types_of (slice_set xs i o) ≡ types_of xs
types-set [] i o p there e = refl
types-set (x ∷ xs) zero o p there e =
    let same : x ≡ p = cc in ap (λ (t : CType). t ∷ types_of xs) (e ∙ ap (λ (q : Object). q.type) (sym same))
types-set (x ∷ xs) (suc i) o p there e = ap (λ (l : List CType). x.type ∷ l) (types-set xs i o p there e)

rows-set : (rows : List (List Object)) (a : ℕ) (row : List Object)
    → types_of row ≡ types_of (slice_index_or rows a []) → map types_of (slice_set rows a row) ≡ map types_of rows
rows-set [] a row e = refl
rows-set (r ∷ rows) zero row e = ap (λ (l : List CType). l ∷ map types_of rows) e
rows-set (r ∷ rows) (suc a) row e = ap (λ (l : List (List CType)). types_of r ∷ l) (rows-set rows a row e)

-- the element of an array is that of the row with its number
element-row : (rows : List (List Object)) (a : ℕ) (i : ℤ) (p : Object) → element (slice_get rows a) i ≡ Some p
    → entry (slice_index_or rows a []) i ≡ Some p
element-row [] a i p e = absurd cc
element-row (r ∷ rows) zero i p e = e
element-row (r ∷ rows) (suc a) i p e = element-row rows a i p e

entry-set : (row : List Object) (i : ℤ) (o p : Object) → entry row i ≡ Some p → o.type ≡ p.type
    → types_of (with_entry row i o) ≡ types_of row
entry-set row (pos i) o p there e = types-set row i o p there e
entry-set row (negsuc i) o p there e = refl

field-same : (s : Store) (f : ℕ) (z : ℤ) (y : CValue) → brought_to (slice_get s.fields f) z ≡ Gives y
    → SameTypes s (with_field s f y)
field-same s f z y e =
    let b = brought-type (slice_get s.fields f) z y e in
    record { fields = types-set s.fields f (object_of y) b.0 b.1 b.2; rows = refl }

element-same : (s : Store) (a : ℕ) (i z : ℤ) (y : CValue) → brought_to (element (slice_get s.rows a) i) z ≡ Gives y
    → SameTypes s (with_element s a i y)
element-same s a i z y e =
    let b = brought-type (element (slice_get s.rows a) i) z y e in
    record {
      fields = refl;
      rows = rows-set s.rows a _
          (entry-set (slice_index_or s.rows a []) i (object_of y) b.0 (element-row s.rows a i b.0 b.1) b.2);
    }

-- ---- statements

on-keeps : (s : Store) (o : Outcome) (f : Store → Locals → Outcome) → Keeps s o
    → ((t : Store) (l : Locals) → Keeps t (f t l)) → Keeps s (and_on o f)
on-keeps s (Falls t l) f a h = keeps-on s t (f t l) a (h t l)
on-keeps s (Returns t x) f a h = a
on-keeps s Starves f a h = tt
on-keeps s GoesWrong f a h = tt

with-keeps : (s : Store) (o : Outcome) (f : Store → CValue → Outcome) → Keeps s o
    → ((t : Store) (x : CValue) → Keeps t (f t x)) → Keeps s (and_with o f)
with-keeps s (Falls t l) f a h = tt
with-keeps s (Returns t x) f a h = keeps-on s t (f t x) a (h t x)
with-keeps s Starves f a h = tt
with-keeps s GoesWrong f a h = tt

called-keeps : (s : Store) (o : Outcome) (t : CType) (i : ℕ) (l : Locals) (go : Store → Locals → Outcome) → Keeps s o
    → ((u : Store) (m : Locals) → Keeps u (go u m)) → Keeps s (called o t i l go)
called-keeps s o t i l go a h =
    with-keeps s o _ a (λ u x. value-keeps u (converted t x.value) _ (λ y e. h u (with_local l t i y.value)))

values-keep : (int : Width) (s : Store) (l : Locals) (es : List CExpr) (f : List CValue → Outcome)
    → ((xs : List CValue) → Keeps s (f xs)) → Keeps s (with_values int s l es f)
unfolding with_values
values-keep int s l [] f h = h []
values-keep int s l (e ∷ es) f h =
    value-keeps s (meaning int s l e) _ (λ x is. values-keep int s l es (λ xs. f (x ∷ xs)) (λ xs. h (x ∷ xs)))

selected-keeps : (s : Store) (t : CType) (z : ℤ) (cases : List Case) (go : ℕ → Outcome) (other : Outcome)
    → ((f : ℕ) → Keeps s (go f)) → Keeps s other → Keeps s (selected t z cases go other)
selected-keeps s t z [] go other h a = a
selected-keeps s t z (c ∷ cases) go other h a =
    value-keeps s (converted t (pos c.label)) _
    (λ y e. by (int_le y.value z && int_le z y.value) (selected-keeps s t z cases go other h a))
  where
    by : (b : Bool) → Keeps s (selected t z cases go other)
        → Keeps s (cond b (go c.function) (selected t z cases go other))
    by true rest = h c.function
    by false rest = rest

either : (s : Store) (c : Bool) (o p : Outcome) → Keeps s o → Keeps s p → Keeps s (cond c o p)
either s true o p a b = a
either s false o p a b = b

turns-keep : (k : ℕ) (test : Store → Locals → Meaning) (turn : Store → Locals → Outcome)
    → ((s : Store) (l : Locals) → Keeps s (turn s l)) → (s : Store) (l : Locals) → Keeps s (turns k test turn s l)
unfolding turns
turns-keep zero test turn h s l = tt
turns-keep (suc k) test turn h s l =
    value-keeps s (test s l) _
    (λ x e. by (is_true x.value)
    (on-keeps s (turn s l) (turns k test turn) (h s l) (λ t m. turns-keep k test turn h t m)))
  where
    by : (b : Bool) → Keeps s (and_on (turn s l) (turns k test turn))
        → Keeps s (cond b (and_on (turn s l) (turns k test turn)) (Falls s l))
    by true more = more
    by false more = same-itself s

-- what calls leave has the same types
abbrev pub CallsKeep : Calls → Type 0
CallsKeep calls = (f : ℕ) (xs : List CValue) (s : Store) → Keeps s (calls f xs s)

outcome-keeps : (int : Width) (calls : Calls) (k : ℕ) → CallsKeep calls → (b : Block) (s : Store) (l : Locals)
    → Keeps s (outcome int calls k b s l)
unfolding outcome
outcome-keeps int calls k keep End s l = same-itself s
outcome-keeps int calls k keep (Set t i e rest) s l =
    value-keeps s (with_meaning (meaning int s l e) (λ x. converted t x.value)) _
    (λ y is. outcome-keeps int calls k keep rest s (with_local l t i y.value))
outcome-keeps int calls k keep (PutField f e rest) s l =
    value-keeps s (with_meaning (meaning int s l e) (λ x. brought_to (slice_get s.fields f) x.value)) _
    (λ y is. let x = given-by (meaning int s l e) (λ x. brought_to (slice_get s.fields f) x.value) y is in
    keeps-on s (with_field s f y) _ (field-same s f x.0.value y x.1)
    (outcome-keeps int calls k keep rest (with_field s f y) l))
outcome-keeps int calls k keep (StoreAt a i e rest) s l =
    value-keeps s (meaning int s l i) _
    (λ n is. value-keeps s
    (with_meaning (meaning int s l e) (λ x. brought_to (element (slice_get s.rows a) n.value) x.value)) _
    (λ y is. let x = given-by (meaning int s l e)
    (λ x. brought_to (element (slice_get s.rows a) n.value) x.value) y is in
    keeps-on s (with_element s a n.value y) _ (element-same s a n.value x.0.value y x.1)
    (outcome-keeps int calls k keep rest (with_element s a n.value y) l)))
outcome-keeps int calls k keep (Call t i f args rest) s l =
    values-keep int s l args _
    (λ xs. called-keeps s (calls f xs s) t i l _ (keep f xs s) (λ u m. outcome-keeps int calls k keep rest u m))
outcome-keeps int calls k keep (Select t i e cases args rest) s l =
    value-keeps s (meaning int s l e) _
    (λ n is. value-keeps s (converted (promoted int n.type) n.value) _
    (λ p is. values-keep int s l args _
    (λ xs. selected-keeps s p.type p.value cases _ _
    (λ f. called-keeps s (calls f xs s) t i l _ (keep f xs s) (λ u m. outcome-keeps int calls k keep rest u m))
    (outcome-keeps int calls k keep rest s l))))
outcome-keeps int calls k keep (If e a b rest) s l =
    value-keeps s (meaning int s l e) _
    (λ x is. on-keeps s _ _
    (either s (is_true x.value) (outcome int calls k a s l) (outcome int calls k b s l)
    (outcome-keeps int calls k keep a s l) (outcome-keeps int calls k keep b s l))
    (λ u m. outcome-keeps int calls k keep rest u m))
outcome-keeps int calls k keep (While e a rest) s l =
    on-keeps s _ _
    (turns-keep k (λ v m. meaning int v m e) (λ v m. outcome int calls k a v m)
    (λ v m. outcome-keeps int calls k keep a v m) s l)
    (λ u m. outcome-keeps int calls k keep rest u m)
outcome-keeps int calls k keep (Return e) s l = value-keeps s (meaning int s l e) _ (λ x is. same-itself s)

-- ---- functions

arguments-keep : (ts : List CType) (xs : List CValue) (k : ℕ) (l : Locals) (s : Store) (f : Locals → Outcome)
    → ((l : Locals) → Keeps s (f l)) → Keeps s (with_arguments ts xs k l f)
unfolding with_arguments
arguments-keep [] [] k l s f h = h l
arguments-keep [] (x ∷ xs) k l s f h = tt
arguments-keep (t ∷ ts) [] k l s f h = tt
arguments-keep (t ∷ ts) (x ∷ xs) k l s f h =
    value-keeps s (converted t x.value) _ (λ y e. arguments-keep ts xs (suc k) (with_local l t k y.value) s f h)

run-keeps : (int : Width) (calls : Calls) (k : ℕ) → CallsKeep calls → (f : Option Function) (xs : List CValue)
    (s : Store) → Keeps s (run int calls k f xs s)
run-keeps int calls k keep None xs s = tt
run-keeps int calls k keep (Some f) xs s =
    arguments-keep f.parameters xs 0 no_locals s _
    (λ l. with-keeps s (outcome int calls k f.body s l) _ (outcome-keeps int calls k keep f.body s l)
    (λ t x. value-keeps t (converted f.result x.value) _ (λ y e. same-itself t)))

pub calls-keep : (file : File) (int : Width) (fuel : ℕ) → CallsKeep (call file int fuel)
unfolding call
calls-keep file int zero f xs s = tt
calls-keep file int (suc fuel) f xs s =
    run-keeps int (call file int fuel) fuel (calls-keep file int fuel) (slice_get file.functions f) xs s

-- ---- the struct of a file

mapped-back : {A B : Type 0} (f : A → B) (xs : List A) (i : ℕ) (y : B) → slice_get (map f xs) i ≡ Some y
    → (x : A) × (slice_get xs i ≡ Some x) × (f x ≡ y)
mapped-back f [] i y e = absurd cc
mapped-back f (x ∷ xs) zero y e = (x, refl, cc)
mapped-back f (x ∷ xs) (suc i) y e = mapped-back f xs i y e

row-same : (rows rows' : List (List Object)) (a size : ℕ) → map types_of rows' ≡ map types_of rows
    → HasRow rows a size [] → HasRow rows' a size []
row-same rows rows' a size e h =
    let r = mapped-back types_of rows' a (types_of h.row)
    (ap (λ (l : List (List CType)). slice_get l a) e ∙ mapped types_of rows a h.row h.there) in
    record {
      row = r.0;
      there = r.1;
      sized = sym (length-map r.0 (λ (o : Object). o.type)) ∙ ap length r.2
          ∙ length-map h.row (λ (o : Object). o.type) ∙ h.sized;
      typed = λ i o is.
          let p = mapped-back (λ (o : Object). o.type) h.row i o.type
          (ap (λ (l : List CType). slice_get l i) (sym r.2) ∙ mapped (λ (o : Object). o.type) r.0 i o is) in
          sym p.2 ∙ h.typed i p.0 p.1;
      shown = λ i x is. absurd (none-got i x is);
    }

pub shape-same : (K : Shape) (s t : Store) → HasShape K s → SameTypes s t → HasShape K t
shape-same K s t h same = record {
  fields = same.fields ∙ h.fields;
  out = row-same s.rows t.rows _ _ same.rows h.out;
  note = row-same s.rows t.rows _ _ same.rows h.note;
}

-- a call that returns leaves a struct of the file's type
pub shape-kept : (K : Shape) (file : File) (int : Width) (fuel f : ℕ) (args : List CValue) (s after : Store) (x : CValue)
    → call file int fuel f args s ≡ Returns after x → HasShape K s → HasShape K after
shape-kept K file int fuel f args s after x e h =
    shape-same K s after h (subst (λ (o : Outcome). Keeps s o) e (calls-keep file int fuel f args s))
