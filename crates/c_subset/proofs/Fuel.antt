-- More fuel changes nothing but where there was too little.
use Rattle.std.proofs.Common.{◌≡◌, ◌≢◌, ℕ, zero, suc, ◌≤◌, ℤ, pos, Bool, true, false, cond, List, [], ◌∷◌, Option, Some}
use Rattle.std.proofs.Common.{None, ◌⊎◌}
use Rattle.std.proofs.Common.{int_le, ◌&&◌, slice_get, refl, sym, ap, subst, arith, inl, inr}
use Rattle.c_subset.specs.Trees.{Width, CType, CExpr, Case, Function, File}
use Rattle.c_subset.specs.Trees.{Block, End, Set, Store as PutField, StoreAt, Call, Select, If, While, Return}
use Rattle.c_subset.specs.Meaning.{CValue, Meaning, Gives, Wrong, with_meaning, converted, promoted, is_true, Store}
use Rattle.c_subset.specs.Meaning.{Locals}
use Rattle.c_subset.specs.Meaning.{meaning}
use Rattle.c_subset.specs.Running.{Outcome, Falls, Returns, Starves, GoesWrong, with_value, and_on, and_with}
use Rattle.c_subset.specs.Running.{with_local}
use Rattle.c_subset.specs.Running.{Calls, with_values, called, selected, turns, outcome, with_arguments, returned, run}
use Rattle.c_subset.specs.Running.{call}

-- the second outcome is the first, unless that was without fuel
abbrev pub Extends : Outcome → Outcome → Type 0
Extends o o' = (o ≡ Starves) ⊎ (o' ≡ o)

value-extends : (m : Meaning) (f g : CValue → Outcome) → ((x : CValue) → Extends (f x) (g x))
    → Extends (with_value m f) (with_value m g)
value-extends (Gives x) f g h = h x
value-extends Wrong f g h = inr refl

cond-extends : (b : Bool) (o p o' p' : Outcome) → Extends o o' → Extends p p' → Extends (cond b o p) (cond b o' p')
cond-extends true o p o' p' h i = h
cond-extends false o p o' p' h i = i

on-extends : (o o' : Outcome) (f g : Store → Locals → Outcome) → Extends o o'
    → ((s : Store) (l : Locals) → Extends (f s l) (g s l)) → Extends (and_on o f) (and_on o' g)
on-extends o o' f g (inl e) h = inl (ap (λ (o : Outcome). and_on o f) e)
on-extends o o' f g (inr e) h = subst (λ (q : Outcome). Extends (and_on o f) (and_on q g)) (sym e) (at o)
  where
    at : (o : Outcome) → Extends (and_on o f) (and_on o g)
    at (Falls s l) = h s l
    at (Returns s x) = inr refl
    at Starves = inr refl
    at GoesWrong = inr refl

with-extends : (o o' : Outcome) (f g : Store → CValue → Outcome) → Extends o o'
    → ((s : Store) (x : CValue) → Extends (f s x) (g s x)) → Extends (and_with o f) (and_with o' g)
with-extends o o' f g (inl e) h = inl (ap (λ (o : Outcome). and_with o f) e)
with-extends o o' f g (inr e) h = subst (λ (q : Outcome). Extends (and_with o f) (and_with q g)) (sym e) (at o)
  where
    at : (o : Outcome) → Extends (and_with o f) (and_with o g)
    at (Falls s l) = inr refl
    at (Returns s x) = h s x
    at Starves = inr refl
    at GoesWrong = inr refl

called-extends : (o o' : Outcome) (t : CType) (i : ℕ) (l : Locals) (f g : Store → Locals → Outcome) → Extends o o'
    → ((s : Store) (l : Locals) → Extends (f s l) (g s l)) → Extends (called o t i l f) (called o' t i l g)
called-extends o o' t i l f g e h =
    with-extends o o' (λ s x. with_value (converted t x.value) (λ y. f s (with_local l t i y.value)))
    (λ s x. with_value (converted t x.value) (λ y. g s (with_local l t i y.value))) e
    (λ s x. value-extends (converted t x.value) (λ y. f s (with_local l t i y.value))
    (λ y. g s (with_local l t i y.value)) (λ y. h s (with_local l t i y.value)))

values-extends : (int : Width) (s : Store) (l : Locals) (es : List CExpr) (f g : List CValue → Outcome)
    → ((xs : List CValue) → Extends (f xs) (g xs)) → Extends (with_values int s l es f) (with_values int s l es g)
unfolding with_values
values-extends int s l [] f g h = h []
values-extends int s l (e ∷ es) f g h =
    value-extends (meaning int s l e) (λ x. with_values int s l es (λ xs. f (x ∷ xs)))
    (λ x. with_values int s l es (λ xs. g (x ∷ xs)))
    (λ x. values-extends int s l es (λ xs. f (x ∷ xs)) (λ xs. g (x ∷ xs)) (λ xs. h (x ∷ xs)))

selected-extends : (t : CType) (z : ℤ) (cases : List Case) (f g : ℕ → Outcome) (o o' : Outcome)
    → ((q : ℕ) → Extends (f q) (g q)) → Extends o o' → Extends (selected t z cases f o) (selected t z cases g o')
selected-extends t z [] f g o o' h e = e
selected-extends t z (c ∷ cases) f g o o' h e =
    value-extends (converted t (pos c.label))
    (λ y. cond (int_le y.value z && int_le z y.value) (f c.function) (selected t z cases f o))
    (λ y. cond (int_le y.value z && int_le z y.value) (g c.function) (selected t z cases g o'))
    (λ y. cond-extends (int_le y.value z && int_le z y.value) (f c.function) (selected t z cases f o) (g c.function)
    (selected t z cases g o') (h c.function) (selected-extends t z cases f g o o' h e))

turns-extend : (k j : ℕ) → k ≤ j → (test : Store → Locals → Meaning) (f g : Store → Locals → Outcome)
    → ((s : Store) (l : Locals) → Extends (f s l) (g s l)) → (s : Store) (l : Locals)
    → Extends (turns k test f s l) (turns j test g s l)
unfolding turns
turns-extend zero j le test f g h s l = inl refl
turns-extend (suc k) zero le test f g h s l = absurd (omega arith)
turns-extend (suc k) (suc j) le test f g h s l =
    value-extends (test s l) (λ x. cond (is_true x.value) (and_on (f s l) (turns k test f)) (Falls s l))
    (λ x. cond (is_true x.value) (and_on (g s l) (turns j test g)) (Falls s l))
    (λ x. cond-extends (is_true x.value) (and_on (f s l) (turns k test f)) (Falls s l)
    (and_on (g s l) (turns j test g)) (Falls s l)
    (on-extends (f s l) (g s l) (turns k test f) (turns j test g) (h s l)
    (λ v m. turns-extend k j (omega arith) test f g h v m)) (inr refl))

module _ (int : Width) (c d : Calls) (more : (f : ℕ) (xs : List CValue) (s : Store) → Extends (c f xs s) (d f xs s))
    (k j : ℕ) (le : k ≤ j) where
  outcome-extends : (a : Block) (s : Store) (l : Locals) → Extends (outcome int c k a s l) (outcome int d j a s l)
  unfolding outcome
  outcome-extends End s l = inr refl
  outcome-extends (Set t i e rest) s l =
      value-extends (with_meaning (meaning int s l e) (λ x. converted t x.value)) _ _
      (λ y. outcome-extends rest s (with_local l t i y.value))
  outcome-extends (PutField f e rest) s l = value-extends _ _ _ (λ y. outcome-extends rest _ l)
  outcome-extends (StoreAt a i e rest) s l =
      value-extends (meaning int s l i) _ _ (λ n. value-extends _ _ _ (λ y. outcome-extends rest _ l))
  outcome-extends (Call t i f args rest) s l =
      values-extends int s l args (λ xs. called (c f xs s) t i l (λ v m. outcome int c k rest v m))
      (λ xs. called (d f xs s) t i l (λ v m. outcome int d j rest v m))
      (λ xs. called-extends (c f xs s) (d f xs s) t i l (λ v m. outcome int c k rest v m)
      (λ v m. outcome int d j rest v m) (more f xs s) (λ v m. outcome-extends rest v m))
  outcome-extends (Select t i e cases args rest) s l =
      value-extends (meaning int s l e) _ _ (λ n. value-extends (converted (promoted int n.type) n.value) _ _
      (λ p. values-extends int s l args
      (λ xs. selected p.type p.value cases (λ f. called (c f xs s) t i l (λ v m. outcome int c k rest v m))
      (outcome int c k rest s l))
      (λ xs. selected p.type p.value cases (λ f. called (d f xs s) t i l (λ v m. outcome int d j rest v m))
      (outcome int d j rest s l))
      (λ xs. selected-extends p.type p.value cases
      (λ f. called (c f xs s) t i l (λ v m. outcome int c k rest v m))
      (λ f. called (d f xs s) t i l (λ v m. outcome int d j rest v m)) (outcome int c k rest s l)
      (outcome int d j rest s l)
      (λ f. called-extends (c f xs s) (d f xs s) t i l (λ v m. outcome int c k rest v m)
      (λ v m. outcome int d j rest v m) (more f xs s) (λ v m. outcome-extends rest v m))
      (outcome-extends rest s l))))
  outcome-extends (If e a b rest) s l =
      value-extends (meaning int s l e) _ _ (λ x.
      on-extends (cond (is_true x.value) (outcome int c k a s l) (outcome int c k b s l))
      (cond (is_true x.value) (outcome int d j a s l) (outcome int d j b s l))
      (λ v m. outcome int c k rest v m) (λ v m. outcome int d j rest v m)
      (cond-extends (is_true x.value) (outcome int c k a s l) (outcome int c k b s l) (outcome int d j a s l)
      (outcome int d j b s l) (outcome-extends a s l) (outcome-extends b s l)) (λ v m. outcome-extends rest v m))
  outcome-extends (While e a rest) s l =
      on-extends (turns k (λ v m. meaning int v m e) (λ v m. outcome int c k a v m) s l)
      (turns j (λ v m. meaning int v m e) (λ v m. outcome int d j a v m) s l)
      (λ v m. outcome int c k rest v m) (λ v m. outcome int d j rest v m)
      (turns-extend k j le (λ v m. meaning int v m e) (λ v m. outcome int c k a v m) (λ v m. outcome int d j a v m)
      (λ v m. outcome-extends a v m) s l) (λ v m. outcome-extends rest v m)
  outcome-extends (Return e) s l = inr refl

arguments-extend : (ts : List CType) (xs : List CValue) (k : ℕ) (l : Locals) (f g : Locals → Outcome)
    → ((l : Locals) → Extends (f l) (g l)) → Extends (with_arguments ts xs k l f) (with_arguments ts xs k l g)
unfolding with_arguments
arguments-extend [] [] k l f g h = h l
arguments-extend [] (x ∷ xs) k l f g h = inr refl
arguments-extend (t ∷ ts) [] k l f g h = inr refl
arguments-extend (t ∷ ts) (x ∷ xs) k l f g h =
    value-extends (converted t x.value) (λ y. with_arguments ts xs (suc k) (with_local l t k y.value) f)
    (λ y. with_arguments ts xs (suc k) (with_local l t k y.value) g)
    (λ y. arguments-extend ts xs (suc k) (with_local l t k y.value) f g h)

run-extends : (int : Width) (c d : Calls) (k j : ℕ) (o : Option Function) (xs : List CValue) (s : Store)
    → ((f : ℕ) (xs : List CValue) (s : Store) → Extends (c f xs s) (d f xs s)) → k ≤ j
    → Extends (run int c k o xs s) (run int d j o xs s)
run-extends int c d k j None xs s more le = inr refl
run-extends int c d k j (Some f) xs s more le =
    arguments-extend f.parameters xs 0 _ (λ l. returned f.result (outcome int c k f.body s l))
    (λ l. returned f.result (outcome int d j f.body s l))
    (λ l. with-extends (outcome int c k f.body s l) (outcome int d j f.body s l) _ _
    (outcome-extends int c d more k j le f.body s l) (λ v x. inr refl))

call-extends : (file : File) (int : Width) (k j : ℕ) → k ≤ j → (f : ℕ) (xs : List CValue) (s : Store)
    → Extends (call file int k f xs s) (call file int j f xs s)
unfolding call
call-extends file int zero j le f xs s = inl refl
call-extends file int (suc k) zero le f xs s = absurd (omega arith)
call-extends file int (suc k) (suc j) le f xs s =
    run-extends int (call file int k) (call file int j) k j (slice_get file.functions f) xs s
    (λ f xs s. call-extends file int k j (omega arith) f xs s) (omega arith)

-- a call that had enough fuel
pub enough-fuel : (file : File) (int : Width) (k j f : ℕ) (xs : List CValue) (s : Store) → k ≤ j
    → call file int k f xs s ≢ Starves → call file int j f xs s ≡ call file int k f xs s
enough-fuel file int k j f xs s le enough = at (call-extends file int k j le f xs s)
  where
    at : Extends (call file int k f xs s) (call file int j f xs s) → call file int j f xs s ≡ call file int k f xs s
    at (inl e) = absurd (enough e)
    at (inr e) = e
