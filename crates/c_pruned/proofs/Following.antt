-- Statements after others, and statements that always return.
use Rattle.std.proofs.Common.{◌≡◌, ℕ, ℤ, pos, int_le, ◌&&◌, ◌||◌, Bool, true, false, cond, List, [], ◌∷◌, slice_get}
use Rattle.std.proofs.Common.{refl}
use Rattle.c_subset.specs.declared.trees.Width.{Width}
use Rattle.c_subset.specs.declared.trees.CType.{CType}
use Rattle.c_subset.specs.declared.trees.Case.{Case}
use Rattle.c_subset.specs.Trees.{CExpr}
use Rattle.c_subset.specs.Trees.{Block, End, Set, Store as PutField, StoreAt, Call, Select, If, While, Return}
use Rattle.c_subset.specs.Meaning.{CValue, Meaning, Gives, Wrong, with_meaning, converted, promoted, is_true, Store}
use Rattle.c_subset.specs.Meaning.{element, Locals, meaning}
use Rattle.c_subset.specs.Running.{Outcome, Falls, Returns, Starves, GoesWrong, with_value, and_on}
use Rattle.c_subset.specs.Running.{with_local, brought_to, with_field, with_element, Calls, with_values, called, turns}
use Rattle.c_subset.specs.Running.{selected, outcome}
use Rattle.c_pruned.specs.Ends.{always_returns, followed_by, then_on}
use Rattle.c_pruned.proofs.Kept.{Kept, kept-itself}

-- ---- what goes on, and others after it

abbrev Next : Type 0
Next = Store → Locals → Outcome

value-follows : (m : Meaning) (f g : CValue → Outcome) (r : Next) → ((x : CValue) → Kept (and_on (f x) r) (g x))
    → Kept (and_on (with_value m f) r) (with_value m g)
value-follows (Gives x) f g r h = h x
value-follows Wrong f g r h = tt

on-follows : (o : Outcome) (f g r : Next) → ((s : Store) (l : Locals) → Kept (and_on (f s l) r) (g s l))
    → Kept (and_on (and_on o f) r) (and_on o g)
on-follows (Falls s l) f g r h = h s l
on-follows (Returns s x) f g r h = refl
on-follows Starves f g r h = tt
on-follows GoesWrong f g r h = tt

cond-follows : (b : Bool) (o p o' p' : Outcome) (r : Next) → Kept (and_on o r) o' → Kept (and_on p r) p'
    → Kept (and_on (cond b o p) r) (cond b o' p')
cond-follows true o p o' p' r h i = h
cond-follows false o p o' p' r h i = i

called-follows : (o : Outcome) (t : CType) (i : ℕ) (l : Locals) (f g r : Next)
    → ((s : Store) (l : Locals) → Kept (and_on (f s l) r) (g s l))
    → Kept (and_on (called o t i l f) r) (called o t i l g)
called-follows (Falls s n) t i l f g r h = tt
called-follows (Returns s x) t i l f g r h =
    value-follows (converted t x.value) (λ y. f s (with_local l t i y.value)) (λ y. g s (with_local l t i y.value)) r
    (λ y. h s (with_local l t i y.value))
called-follows Starves t i l f g r h = tt
called-follows GoesWrong t i l f g r h = tt

values-follow : (int : Width) (s : Store) (l : Locals) (es : List CExpr) (f g : List CValue → Outcome) (r : Next)
    → ((xs : List CValue) → Kept (and_on (f xs) r) (g xs))
    → Kept (and_on (with_values int s l es f) r) (with_values int s l es g)
unfolding with_values
values-follow int s l [] f g r h = h []
values-follow int s l (e ∷ es) f g r h =
    value-follows (meaning int s l e) (λ x. with_values int s l es (λ xs. f (x ∷ xs)))
    (λ x. with_values int s l es (λ xs. g (x ∷ xs))) r
    (λ x. values-follow int s l es (λ xs. f (x ∷ xs)) (λ xs. g (x ∷ xs)) r (λ xs. h (x ∷ xs)))

selected-follows : (t : CType) (z : ℤ) (cases : List Case) (f g : ℕ → Outcome) (o p : Outcome) (r : Next)
    → ((q : ℕ) → Kept (and_on (f q) r) (g q)) → Kept (and_on o r) p
    → Kept (and_on (selected t z cases f o) r) (selected t z cases g p)
selected-follows t z [] f g o p r h e = e
selected-follows t z (c ∷ cases) f g o p r h e =
    value-follows (converted t (pos c.label))
    (λ y. cond (int_le y.value z && int_le z y.value) (f c.function) (selected t z cases f o))
    (λ y. cond (int_le y.value z && int_le z y.value) (g c.function) (selected t z cases g p)) r
    (λ y. cond-follows (int_le y.value z && int_le z y.value) (f c.function) (selected t z cases f o) (g c.function)
    (selected t z cases g p) r (h c.function) (selected-follows t z cases f g o p r h e))

-- ---- endings that aren't falling through

abbrev pub NeverFalls : Outcome → Type 0
NeverFalls (Falls s l) = ⊥
NeverFalls (Returns s x) = Unit {0}
NeverFalls Starves = Unit {0}
NeverFalls GoesWrong = Unit {0}

-- what stands after it isn't reached
pub never-on : (o : Outcome) (r : Next) → NeverFalls o → Kept (and_on o r) o
never-on (Falls s l) r h = absurd h
never-on (Returns s x) r h = refl
never-on Starves r h = tt
never-on GoesWrong r h = tt

-- so it makes no difference
pub unreached : (o : Outcome) (f g : Next) → NeverFalls o → Kept (and_on o f) (and_on o g)
unreached (Falls s l) f g h = absurd h
unreached (Returns s x) f g h = refl
unreached Starves f g h = tt
unreached GoesWrong f g h = tt

value-never : (m : Meaning) (f : CValue → Outcome) → ((x : CValue) → NeverFalls (f x)) → NeverFalls (with_value m f)
value-never (Gives x) f h = h x
value-never Wrong f h = tt

on-never : (o : Outcome) (f : Next) → ((s : Store) (l : Locals) → NeverFalls (f s l)) → NeverFalls (and_on o f)
on-never (Falls s l) f h = h s l
on-never (Returns s x) f h = tt
on-never Starves f h = tt
on-never GoesWrong f h = tt

first-never : (o : Outcome) (f : Next) → NeverFalls o → NeverFalls (and_on o f)
first-never (Falls s l) f h = absurd h
first-never (Returns s x) f h = tt
first-never Starves f h = tt
first-never GoesWrong f h = tt

cond-never : (b : Bool) (o p : Outcome) → NeverFalls o → NeverFalls p → NeverFalls (cond b o p)
cond-never true o p h i = h
cond-never false o p h i = i

called-never : (o : Outcome) (t : CType) (i : ℕ) (l : Locals) (f : Next)
    → ((s : Store) (l : Locals) → NeverFalls (f s l)) → NeverFalls (called o t i l f)
called-never (Falls s n) t i l f h = tt
called-never (Returns s x) t i l f h =
    value-never (converted t x.value) (λ y. f s (with_local l t i y.value)) (λ y. h s (with_local l t i y.value))
called-never Starves t i l f h = tt
called-never GoesWrong t i l f h = tt

values-never : (int : Width) (s : Store) (l : Locals) (es : List CExpr) (f : List CValue → Outcome)
    → ((xs : List CValue) → NeverFalls (f xs)) → NeverFalls (with_values int s l es f)
unfolding with_values
values-never int s l [] f h = h []
values-never int s l (e ∷ es) f h =
    value-never (meaning int s l e) (λ x. with_values int s l es (λ xs. f (x ∷ xs)))
    (λ x. values-never int s l es (λ xs. f (x ∷ xs)) (λ xs. h (x ∷ xs)))

selected-never : (t : CType) (z : ℤ) (cases : List Case) (f : ℕ → Outcome) (o : Outcome)
    → ((q : ℕ) → NeverFalls (f q)) → NeverFalls o → NeverFalls (selected t z cases f o)
selected-never t z [] f o h e = e
selected-never t z (c ∷ cases) f o h e =
    value-never (converted t (pos c.label))
    (λ y. cond (int_le y.value z && int_le z y.value) (f c.function) (selected t z cases f o))
    (λ y. cond-never (int_le y.value z && int_le z y.value) (f c.function) (selected t z cases f o) (h c.function)
    (selected-never t z cases f o h e))

-- ---- statements

module _ (int : Width) (d : Calls) (k : ℕ) where
  abbrev ends : Block → Next
  ends a s l = outcome int d k a s l

  pub never-falls : (a : Block) → always_returns a ≡ true → (s : Store) (l : Locals)
      → NeverFalls (outcome int d k a s l)
  unfolding outcome always_returns
  never-falls End h s l = absurd cc
  never-falls (Set t i e rest) h s l =
      value-never (with_meaning (meaning int s l e) (λ x. converted t x.value))
      (λ y. ends rest s (with_local l t i y.value)) (λ y. never-falls rest h s (with_local l t i y.value))
  never-falls (PutField f e rest) h s l =
      value-never (with_meaning (meaning int s l e) (λ x. brought_to (slice_get s.fields f) x.value))
      (λ y. ends rest (with_field s f y) l) (λ y. never-falls rest h (with_field s f y) l)
  never-falls (StoreAt a i e rest) h s l =
      value-never (meaning int s l i)
      (λ n. with_value (with_meaning (meaning int s l e)
      (λ x. brought_to (element (slice_get s.rows a) n.value) x.value))
      (λ y. ends rest (with_element s a n.value y) l))
      (λ n. value-never (with_meaning (meaning int s l e)
      (λ x. brought_to (element (slice_get s.rows a) n.value) x.value))
      (λ y. ends rest (with_element s a n.value y) l) (λ y. never-falls rest h (with_element s a n.value y) l))
  never-falls (Call t i f args rest) h s l =
      values-never int s l args (λ xs. called (d f xs s) t i l (λ v m. ends rest v m))
      (λ xs. called-never (d f xs s) t i l (λ v m. ends rest v m) (λ v m. never-falls rest h v m))
  never-falls (Select t i e cases args rest) h s l =
      value-never (meaning int s l e)
      (λ n. with_value (converted (promoted int n.type) n.value) (λ p. with_values int s l args (λ xs.
      selected p.type p.value cases (λ f. called (d f xs s) t i l (λ v m. ends rest v m)) (ends rest s l))))
      (λ n. value-never (converted (promoted int n.type) n.value)
      (λ p. with_values int s l args (λ xs.
      selected p.type p.value cases (λ f. called (d f xs s) t i l (λ v m. ends rest v m)) (ends rest s l)))
      (λ p. values-never int s l args
      (λ xs. selected p.type p.value cases (λ f. called (d f xs s) t i l (λ v m. ends rest v m)) (ends rest s l))
      (λ xs. selected-never p.type p.value cases (λ f. called (d f xs s) t i l (λ v m. ends rest v m)) (ends rest s l)
      (λ f. called-never (d f xs s) t i l (λ v m. ends rest v m) (λ v m. never-falls rest h v m))
      (never-falls rest h s l))))
  never-falls (If e a b rest) h s l =
      value-never (meaning int s l e)
      (λ x. and_on (cond (is_true x.value) (ends a s l) (ends b s l)) (λ v m. ends rest v m))
      (λ x. at (is_true x.value) (always_returns a) (always_returns b) (always_returns rest) h
      (λ h. never-falls a h s l) (λ h. never-falls b h s l) (λ h v m. never-falls rest h v m))
    where
      at : (x p q r : Bool) → ((p && q) || r) ≡ true → (p ≡ true → NeverFalls (ends a s l))
          → (q ≡ true → NeverFalls (ends b s l)) → (r ≡ true → (v : Store) (m : Locals) → NeverFalls (ends rest v m))
          → NeverFalls (and_on (cond x (ends a s l) (ends b s l)) (λ v m. ends rest v m))
      at x p q true h f g r = on-never (cond x (ends a s l) (ends b s l)) (λ v m. ends rest v m) (r refl)
      at x true true false h f g r =
          first-never (cond x (ends a s l) (ends b s l)) (λ v m. ends rest v m)
          (cond-never x (ends a s l) (ends b s l) (f refl) (g refl))
      at x true false false h f g r = absurd cc
      at x false q false h f g r = absurd cc
  never-falls (While e a rest) h s l =
      on-never (turns k (λ v m. meaning int v m e) (λ v m. ends a v m) s l) (λ v m. ends rest v m)
      (λ v m. never-falls rest h v m)
  never-falls (Return e) h s l = value-never (meaning int s l e) (λ x. Returns s x) (λ x. tt)

  pub follows : (a rest : Block) (s : Store) (l : Locals)
      → Kept (and_on (outcome int d k a s l) (λ v m. outcome int d k rest v m))
      (outcome int d k (followed_by a rest) s l)
  unfolding outcome followed_by
  follows End rest s l = kept-itself (ends rest s l)
  follows (Set t i e a) rest s l =
      value-follows (with_meaning (meaning int s l e) (λ x. converted t x.value))
      (λ y. ends a s (with_local l t i y.value)) (λ y. ends (followed_by a rest) s (with_local l t i y.value))
      (λ v m. ends rest v m) (λ y. follows a rest s (with_local l t i y.value))
  follows (PutField f e a) rest s l =
      value-follows (with_meaning (meaning int s l e) (λ x. brought_to (slice_get s.fields f) x.value))
      (λ y. ends a (with_field s f y) l) (λ y. ends (followed_by a rest) (with_field s f y) l)
      (λ v m. ends rest v m) (λ y. follows a rest (with_field s f y) l)
  follows (StoreAt r i e a) rest s l =
      value-follows (meaning int s l i)
      (λ n. with_value (with_meaning (meaning int s l e)
      (λ x. brought_to (element (slice_get s.rows r) n.value) x.value))
      (λ y. ends a (with_element s r n.value y) l))
      (λ n. with_value (with_meaning (meaning int s l e)
      (λ x. brought_to (element (slice_get s.rows r) n.value) x.value))
      (λ y. ends (followed_by a rest) (with_element s r n.value y) l)) (λ v m. ends rest v m)
      (λ n. value-follows (with_meaning (meaning int s l e)
      (λ x. brought_to (element (slice_get s.rows r) n.value) x.value))
      (λ y. ends a (with_element s r n.value y) l)
      (λ y. ends (followed_by a rest) (with_element s r n.value y) l) (λ v m. ends rest v m)
      (λ y. follows a rest (with_element s r n.value y) l))
  follows (Call t i f args a) rest s l =
      values-follow int s l args (λ xs. called (d f xs s) t i l (λ v m. ends a v m))
      (λ xs. called (d f xs s) t i l (λ v m. ends (followed_by a rest) v m)) (λ v m. ends rest v m)
      (λ xs. called-follows (d f xs s) t i l (λ v m. ends a v m) (λ v m. ends (followed_by a rest) v m)
      (λ v m. ends rest v m) (λ v m. follows a rest v m))
  follows (Select t i e cases args a) rest s l =
      value-follows (meaning int s l e)
      (λ n. with_value (converted (promoted int n.type) n.value) (λ p. with_values int s l args (λ xs.
      selected p.type p.value cases (λ f. called (d f xs s) t i l (λ v m. ends a v m)) (ends a s l))))
      (λ n. with_value (converted (promoted int n.type) n.value) (λ p. with_values int s l args (λ xs.
      selected p.type p.value cases (λ f. called (d f xs s) t i l (λ v m. ends (followed_by a rest) v m))
      (ends (followed_by a rest) s l)))) (λ v m. ends rest v m)
      (λ n. value-follows (converted (promoted int n.type) n.value)
      (λ p. with_values int s l args (λ xs.
      selected p.type p.value cases (λ f. called (d f xs s) t i l (λ v m. ends a v m)) (ends a s l)))
      (λ p. with_values int s l args (λ xs.
      selected p.type p.value cases (λ f. called (d f xs s) t i l (λ v m. ends (followed_by a rest) v m))
      (ends (followed_by a rest) s l))) (λ v m. ends rest v m)
      (λ p. values-follow int s l args
      (λ xs. selected p.type p.value cases (λ f. called (d f xs s) t i l (λ v m. ends a v m)) (ends a s l))
      (λ xs. selected p.type p.value cases (λ f. called (d f xs s) t i l (λ v m. ends (followed_by a rest) v m))
      (ends (followed_by a rest) s l)) (λ v m. ends rest v m)
      (λ xs. selected-follows p.type p.value cases (λ f. called (d f xs s) t i l (λ v m. ends a v m))
      (λ f. called (d f xs s) t i l (λ v m. ends (followed_by a rest) v m)) (ends a s l)
      (ends (followed_by a rest) s l) (λ v m. ends rest v m)
      (λ f. called-follows (d f xs s) t i l (λ v m. ends a v m) (λ v m. ends (followed_by a rest) v m)
      (λ v m. ends rest v m) (λ v m. follows a rest v m))
      (follows a rest s l))))
  follows (If e x y a) rest s l =
      value-follows (meaning int s l e)
      (λ n. and_on (cond (is_true n.value) (ends x s l) (ends y s l)) (λ v m. ends a v m))
      (λ n. and_on (cond (is_true n.value) (ends x s l) (ends y s l)) (λ v m. ends (followed_by a rest) v m))
      (λ v m. ends rest v m)
      (λ n. on-follows (cond (is_true n.value) (ends x s l) (ends y s l)) (λ v m. ends a v m)
      (λ v m. ends (followed_by a rest) v m) (λ v m. ends rest v m) (λ v m. follows a rest v m))
  follows (While e x a) rest s l =
      on-follows (turns k (λ v m. meaning int v m e) (λ v m. ends x v m) s l) (λ v m. ends a v m)
      (λ v m. ends (followed_by a rest) v m) (λ v m. ends rest v m) (λ v m. follows a rest v m)
  follows (Return e) rest s l =
      value-follows (meaning int s l e) (λ x. Returns s x) (λ x. Returns s x) (λ v m. ends rest v m) (λ x. refl)

  -- statements, and others after them where that can be reached
  pub goes-on : (a rest : Block) (s : Store) (l : Locals)
      → Kept (and_on (outcome int d k a s l) (λ v m. outcome int d k rest v m)) (outcome int d k (then_on a rest) s l)
  goes-on a rest s l = at (always_returns a) refl
    where
      at : (b : Bool) → always_returns a ≡ b → Kept (and_on (outcome int d k a s l) (λ v m. outcome int d k rest v m))
          (outcome int d k (cond b a (followed_by a rest)) s l)
      at true h = never-on (ends a s l) (λ v m. ends rest v m) (never-falls a h s l)
      at false h = follows a rest s l
