-- Statements before others: they do what they do, and then the others follow.
use Rattle.std.proofs.Common.{◌≡◌, ℕ, ℤ, pos, int_le, ◌&&◌, Bool, true, false, cond, List, [], ◌∷◌, slice_get, refl}
use Rattle.c_subset.specs.declared.trees.Width.{Width}
use Rattle.c_subset.specs.declared.trees.CType.{CType}
use Rattle.c_subset.specs.declared.trees.Case.{Case}
use Rattle.c_subset.specs.Trees.{CExpr}
use Rattle.c_subset.specs.Trees.{Block, End, Set, Store as PutField, StoreAt, Call, Select, If, While, Return}
use Rattle.c_subset.specs.Meaning.{CValue, Meaning, Gives, Wrong, with_meaning, converted, promoted, is_true, Store}
use Rattle.c_subset.specs.Meaning.{element, Locals, meaning}
use Rattle.c_subset.specs.Running.{Outcome, Falls, Returns, Starves, GoesWrong, with_value, and_on}
use Rattle.c_subset.specs.Running.{with_local, brought_to, with_field, with_element, Calls, with_values, called}
use Rattle.c_subset.specs.Running.{turns, selected, outcome}
use Rattle.c_decided.specs.Decided.{before}

module _ (int : Width) (c : Calls) (k : ℕ) (b : Block) where
  abbrev then_b : Store → Locals → Outcome
  then_b s l = outcome int c k b s l

  value-on : (m : Meaning) (f g : CValue → Outcome) → ((x : CValue) → f x ≡ and_on (g x) then_b)
      → with_value m f ≡ and_on (with_value m g) then_b
  value-on (Gives x) f g h = h x
  value-on Wrong f g h = refl

  values-on : (s : Store) (l : Locals) (es : List CExpr) (f g : List CValue → Outcome)
      → ((xs : List CValue) → f xs ≡ and_on (g xs) then_b)
      → with_values int s l es f ≡ and_on (with_values int s l es g) then_b
  unfolding with_values
  values-on s l [] f g h = h []
  values-on s l (e ∷ es) f g h =
      value-on (meaning int s l e) (λ x. with_values int s l es (λ xs. f (x ∷ xs)))
      (λ x. with_values int s l es (λ xs. g (x ∷ xs)))
      (λ x. values-on s l es (λ xs. f (x ∷ xs)) (λ xs. g (x ∷ xs)) (λ xs. h (x ∷ xs)))

  called-on : (o : Outcome) (t : CType) (i : ℕ) (l : Locals) (f g : Store → Locals → Outcome)
      → ((s : Store) (l : Locals) → f s l ≡ and_on (g s l) then_b)
      → called o t i l f ≡ and_on (called o t i l g) then_b
  called-on (Falls s m) t i l f g h = refl
  called-on (Returns s x) t i l f g h =
      value-on (converted t x.value) (λ y. f s (with_local l t i y.value)) (λ y. g s (with_local l t i y.value))
      (λ y. h s (with_local l t i y.value))
  called-on Starves t i l f g h = refl
  called-on GoesWrong t i l f g h = refl

  after-on : (o : Outcome) (f g : Store → Locals → Outcome) → ((s : Store) (l : Locals) → f s l ≡ and_on (g s l) then_b)
      → and_on o f ≡ and_on (and_on o g) then_b
  after-on (Falls s l) f g h = h s l
  after-on (Returns s x) f g h = refl
  after-on Starves f g h = refl
  after-on GoesWrong f g h = refl

  cond-on : (b : Bool) (o q o' q' : Outcome) → o ≡ and_on o' then_b → q ≡ and_on q' then_b
      → cond b o q ≡ and_on (cond b o' q') then_b
  cond-on true o q o' q' h i = h
  cond-on false o q o' q' h i = i

  selected-on : (t : CType) (z : ℤ) (cases : List Case) (f g : ℕ → Outcome) (o q : Outcome)
      → ((n : ℕ) → f n ≡ and_on (g n) then_b) → o ≡ and_on q then_b
      → selected t z cases f o ≡ and_on (selected t z cases g q) then_b
  selected-on t z [] f g o q h e = e
  selected-on t z (x ∷ cases) f g o q h e =
      value-on (converted t (pos x.label))
      (λ y. cond (int_le y.value z && int_le z y.value) (f x.function) (selected t z cases f o))
      (λ y. cond (int_le y.value z && int_le z y.value) (g x.function) (selected t z cases g q))
      (λ y. cond-on (int_le y.value z && int_le z y.value) (f x.function) (selected t z cases f o) (g x.function)
      (selected t z cases g q) (h x.function) (selected-on t z cases f g o q h e))

module _ (int : Width) (c : Calls) (k : ℕ) where
  pub before-on : (a b : Block) (s : Store) (l : Locals)
      → outcome int c k (before a b) s l ≡ and_on (outcome int c k a s l) (λ s l. outcome int c k b s l)
  unfolding outcome before
  before-on End b s l = refl
  before-on (Set t i e a) b s l =
      value-on int c k b (with_meaning (meaning int s l e) (λ x. converted t x.value))
      (λ y. outcome int c k (before a b) s (with_local l t i y.value))
      (λ y. outcome int c k a s (with_local l t i y.value))
      (λ y. before-on a b s (with_local l t i y.value))
  before-on (PutField f e a) b s l =
      value-on int c k b (with_meaning (meaning int s l e) (λ x. brought_to (slice_get s.fields f) x.value))
      (λ y. outcome int c k (before a b) (with_field s f y) l)
      (λ y. outcome int c k a (with_field s f y) l) (λ y. before-on a b (with_field s f y) l)
  before-on (StoreAt r i e a) b s l =
      value-on int c k b (meaning int s l i)
      (λ n. with_value (with_meaning (meaning int s l e) (λ x. brought_to (element (slice_get s.rows r) n.value) x.value))
      (λ y. outcome int c k (before a b) (with_element s r n.value y) l))
      (λ n. with_value (with_meaning (meaning int s l e) (λ x. brought_to (element (slice_get s.rows r) n.value) x.value))
      (λ y. outcome int c k a (with_element s r n.value y) l))
      (λ n. value-on int c k b
      (with_meaning (meaning int s l e) (λ x. brought_to (element (slice_get s.rows r) n.value) x.value))
      (λ y. outcome int c k (before a b) (with_element s r n.value y) l)
      (λ y. outcome int c k a (with_element s r n.value y) l)
      (λ y. before-on a b (with_element s r n.value y) l))
  before-on (Call t i f args a) b s l =
      values-on int c k b s l args (λ xs. called (c f xs s) t i l (λ v m. outcome int c k (before a b) v m))
      (λ xs. called (c f xs s) t i l (λ v m. outcome int c k a v m))
      (λ xs. called-on int c k b (c f xs s) t i l (λ v m. outcome int c k (before a b) v m)
      (λ v m. outcome int c k a v m) (λ v m. before-on a b v m))
  before-on (Select t i e cases args a) b s l =
      value-on int c k b (meaning int s l e)
      (λ n. with_value (converted (promoted int n.type) n.value) (λ q. with_values int s l args (λ xs.
      selected q.type q.value cases (λ f. called (c f xs s) t i l (λ v m. outcome int c k (before a b) v m))
      (outcome int c k (before a b) s l))))
      (λ n. with_value (converted (promoted int n.type) n.value) (λ q. with_values int s l args (λ xs.
      selected q.type q.value cases (λ f. called (c f xs s) t i l (λ v m. outcome int c k a v m))
      (outcome int c k a s l))))
      (λ n. value-on int c k b (converted (promoted int n.type) n.value)
      (λ q. with_values int s l args (λ xs.
      selected q.type q.value cases (λ f. called (c f xs s) t i l (λ v m. outcome int c k (before a b) v m))
      (outcome int c k (before a b) s l)))
      (λ q. with_values int s l args (λ xs.
      selected q.type q.value cases (λ f. called (c f xs s) t i l (λ v m. outcome int c k a v m))
      (outcome int c k a s l)))
      (λ q. values-on int c k b s l args
      (λ xs. selected q.type q.value cases (λ f. called (c f xs s) t i l (λ v m. outcome int c k (before a b) v m))
      (outcome int c k (before a b) s l))
      (λ xs. selected q.type q.value cases (λ f. called (c f xs s) t i l (λ v m. outcome int c k a v m))
      (outcome int c k a s l))
      (λ xs. selected-on int c k b q.type q.value cases
      (λ f. called (c f xs s) t i l (λ v m. outcome int c k (before a b) v m))
      (λ f. called (c f xs s) t i l (λ v m. outcome int c k a v m)) (outcome int c k (before a b) s l)
      (outcome int c k a s l)
      (λ f. called-on int c k b (c f xs s) t i l (λ v m. outcome int c k (before a b) v m)
      (λ v m. outcome int c k a v m) (λ v m. before-on a b v m))
      (before-on a b s l))))
  before-on (If e a1 a2 a) b s l =
      value-on int c k b (meaning int s l e)
      (λ x. and_on (cond (is_true x.value) (outcome int c k a1 s l) (outcome int c k a2 s l))
      (λ v m. outcome int c k (before a b) v m))
      (λ x. and_on (cond (is_true x.value) (outcome int c k a1 s l) (outcome int c k a2 s l))
      (λ v m. outcome int c k a v m))
      (λ x. after-on int c k b (cond (is_true x.value) (outcome int c k a1 s l) (outcome int c k a2 s l))
      (λ v m. outcome int c k (before a b) v m) (λ v m. outcome int c k a v m) (λ v m. before-on a b v m))
  before-on (While e a1 a) b s l =
      after-on int c k b (turns k (λ v m. meaning int v m e) (λ v m. outcome int c k a1 v m) s l)
      (λ v m. outcome int c k (before a b) v m) (λ v m. outcome int c k a v m) (λ v m. before-on a b v m)
  before-on (Return e) b s l = value-on int c k b (meaning int s l e) (λ x. Returns s x) (λ x. Returns s x) (λ x. refl)
