-- Statements that go on where they return.
use Rattle.std.proofs.Common.{◌≡◌, ℕ, zero, suc, ◌+◌, ℤ, pos, int_le, ◌&&◌, ◌||◌, Bool, true, false, cond, List, [], ◌∷◌}
use Rattle.std.proofs.Common.{slice_get, refl, sym, ap, ◌∙◌, subst}
use Rattle.c_subset.specs.declared.trees.Width.{Width}
use Rattle.c_subset.specs.declared.trees.CType.{CType}
use Rattle.c_subset.specs.declared.trees.Case.{Case}
use Rattle.c_subset.specs.Trees.{CExpr}
use Rattle.c_subset.specs.Trees.{Block, End, Set, Store as PutField, StoreAt, Call, Select, If, While, Return}
use Rattle.c_subset.specs.Meaning.{CValue, Meaning, Gives, Wrong, with_meaning, converted, promoted, is_true, Store}
use Rattle.c_subset.specs.Meaning.{element, Locals, meaning}
use Rattle.c_subset.specs.Running.{Outcome, Falls, Returns, Starves, GoesWrong, with_value, and_on}
use Rattle.c_subset.specs.Running.{with_local, brought_to, with_field, with_element, Calls, with_values, called}
use Rattle.c_subset.specs.Running.{turns, selected, outcome}
use Rattle.c_placing.specs.Placing.{placed_expr, placed_exprs, placed, AgreeBelow}
use Rattle.c_placing.proofs.Staying.{put-above, Stays, placed-stays, cond-stays, turns-stay}
use Rattle.c_inlined.specs.Continued.{before, never_returns, neither_returns, one_returns, can_go_on, continued}

pub both : (a b : Bool) → (a && b) ≡ true → (a ≡ true) × (b ≡ true)
both true b e = (refl, e)
both false b e = absurd cc

-- ---- statements before others

-- they go on where the first ones fall through
on-after : (o : Outcome) (f h g : Store → Locals → Outcome) → ((s : Store) (l : Locals) → f s l ≡ and_on (h s l) g)
    → and_on o f ≡ and_on (and_on o h) g
on-after (Falls s l) f h g e = e s l
on-after (Returns s x) f h g e = refl
on-after Starves f h g e = refl
on-after GoesWrong f h g e = refl

return-on : (m : Meaning) (s : Store) (g : Store → Locals → Outcome)
    → with_value m (λ x. Returns s x) ≡ and_on (with_value m (λ x. Returns s x)) g
return-on (Gives x) s g = refl
return-on Wrong s g = refl

module _ (g : Store → Locals → Outcome) where
  value-on : (m : Meaning) (f h : CValue → Outcome) → ((x : CValue) → f x ≡ and_on (h x) g)
      → with_value m f ≡ and_on (with_value m h) g
  value-on (Gives x) f h e = e x
  value-on Wrong f h e = refl

  values-on : (int : Width) (s : Store) (l : Locals) (es : List CExpr) (f h : List CValue → Outcome)
      → ((xs : List CValue) → f xs ≡ and_on (h xs) g) → with_values int s l es f ≡ and_on (with_values int s l es h) g
  unfolding with_values
  values-on int s l [] f h e = e []
  values-on int s l (z ∷ es) f h e =
      value-on (meaning int s l z) (λ x. with_values int s l es (λ xs. f (x ∷ xs)))
      (λ x. with_values int s l es (λ xs. h (x ∷ xs)))
      (λ x. values-on int s l es (λ xs. f (x ∷ xs)) (λ xs. h (x ∷ xs)) (λ xs. e (x ∷ xs)))

  called-on : (o : Outcome) (t : CType) (i : ℕ) (l : Locals) (f h : Store → Locals → Outcome)
      → ((s : Store) (l : Locals) → f s l ≡ and_on (h s l) g) → called o t i l f ≡ and_on (called o t i l h) g
  called-on (Falls s m) t i l f h e = refl
  called-on (Returns s x) t i l f h e =
      value-on (converted t x.value) (λ y. f s (with_local l t i y.value)) (λ y. h s (with_local l t i y.value))
      (λ y. e s (with_local l t i y.value))
  called-on Starves t i l f h e = refl
  called-on GoesWrong t i l f h e = refl

  cond-on : (b : Bool) (o p o' p' : Outcome) → o ≡ and_on o' g → p ≡ and_on p' g → cond b o p ≡ and_on (cond b o' p') g
  cond-on true o p o' p' h i = h
  cond-on false o p o' p' h i = i

  selected-on : (t : CType) (z : ℤ) (cases : List Case) (f h : ℕ → Outcome) (o p : Outcome)
      → ((q : ℕ) → f q ≡ and_on (h q) g) → o ≡ and_on p g → selected t z cases f o ≡ and_on (selected t z cases h p) g
  selected-on t z [] f h o p e i = i
  selected-on t z (x ∷ cases) f h o p e i =
      value-on (converted t (pos x.label))
      (λ y. cond (int_le y.value z && int_le z y.value) (f x.function) (selected t z cases f o))
      (λ y. cond (int_le y.value z && int_le z y.value) (h x.function) (selected t z cases h p))
      (λ y. cond-on (int_le y.value z && int_le z y.value) (f x.function) (selected t z cases f o) (h x.function)
      (selected t z cases h p) (e x.function) (selected-on t z cases f h o p e i))

module _ (int : Width) (c : Calls) (k : ℕ) (rest : Block) where
  abbrev go : Store → Locals → Outcome
  go v m = outcome int c k rest v m

  pub before-on : (a : Block) (s : Store) (l : Locals)
      → outcome int c k (before a rest) s l ≡ and_on (outcome int c k a s l) (λ v m. outcome int c k rest v m)
  unfolding outcome before
  before-on End s l = refl
  before-on (Set t i e a) s l =
      value-on go (with_meaning (meaning int s l e) (λ x. converted t x.value))
      (λ y. outcome int c k (before a rest) s (with_local l t i y.value))
      (λ y. outcome int c k a s (with_local l t i y.value)) (λ y. before-on a s (with_local l t i y.value))
  before-on (PutField f e a) s l =
      value-on go (with_meaning (meaning int s l e) (λ x. brought_to (slice_get s.fields f) x.value))
      (λ y. outcome int c k (before a rest) (with_field s f y) l) (λ y. outcome int c k a (with_field s f y) l)
      (λ y. before-on a (with_field s f y) l)
  before-on (StoreAt r i e a) s l =
      value-on go (meaning int s l i)
      (λ n. with_value (with_meaning (meaning int s l e) (λ x. brought_to (element (slice_get s.rows r) n.value) x.value))
      (λ y. outcome int c k (before a rest) (with_element s r n.value y) l))
      (λ n. with_value (with_meaning (meaning int s l e) (λ x. brought_to (element (slice_get s.rows r) n.value) x.value))
      (λ y. outcome int c k a (with_element s r n.value y) l))
      (λ n. value-on go
      (with_meaning (meaning int s l e) (λ x. brought_to (element (slice_get s.rows r) n.value) x.value))
      (λ y. outcome int c k (before a rest) (with_element s r n.value y) l)
      (λ y. outcome int c k a (with_element s r n.value y) l) (λ y. before-on a (with_element s r n.value y) l))
  before-on (Call t i f args a) s l =
      values-on go int s l args (λ xs. called (c f xs s) t i l (λ v m. outcome int c k (before a rest) v m))
      (λ xs. called (c f xs s) t i l (λ v m. outcome int c k a v m))
      (λ xs. called-on go (c f xs s) t i l (λ v m. outcome int c k (before a rest) v m)
      (λ v m. outcome int c k a v m) (λ v m. before-on a v m))
  before-on (Select t i e cases args a) s l =
      value-on go (meaning int s l e)
      (λ n. with_value (converted (promoted int n.type) n.value) (λ p. with_values int s l args (λ xs.
      selected p.type p.value cases (λ f. called (c f xs s) t i l (λ v m. outcome int c k (before a rest) v m))
      (outcome int c k (before a rest) s l))))
      (λ n. with_value (converted (promoted int n.type) n.value) (λ p. with_values int s l args (λ xs.
      selected p.type p.value cases (λ f. called (c f xs s) t i l (λ v m. outcome int c k a v m))
      (outcome int c k a s l))))
      (λ n. value-on go (converted (promoted int n.type) n.value)
      (λ p. with_values int s l args (λ xs.
      selected p.type p.value cases (λ f. called (c f xs s) t i l (λ v m. outcome int c k (before a rest) v m))
      (outcome int c k (before a rest) s l)))
      (λ p. with_values int s l args (λ xs.
      selected p.type p.value cases (λ f. called (c f xs s) t i l (λ v m. outcome int c k a v m))
      (outcome int c k a s l)))
      (λ p. values-on go int s l args
      (λ xs. selected p.type p.value cases
      (λ f. called (c f xs s) t i l (λ v m. outcome int c k (before a rest) v m))
      (outcome int c k (before a rest) s l))
      (λ xs. selected p.type p.value cases (λ f. called (c f xs s) t i l (λ v m. outcome int c k a v m))
      (outcome int c k a s l))
      (λ xs. selected-on go p.type p.value cases
      (λ f. called (c f xs s) t i l (λ v m. outcome int c k (before a rest) v m))
      (λ f. called (c f xs s) t i l (λ v m. outcome int c k a v m)) (outcome int c k (before a rest) s l)
      (outcome int c k a s l)
      (λ f. called-on go (c f xs s) t i l (λ v m. outcome int c k (before a rest) v m)
      (λ v m. outcome int c k a v m) (λ v m. before-on a v m)) (before-on a s l))))
  before-on (If e a b d) s l =
      value-on go (meaning int s l e)
      (λ x. and_on (cond (is_true x.value) (outcome int c k a s l) (outcome int c k b s l))
      (λ v m. outcome int c k (before d rest) v m))
      (λ x. and_on (cond (is_true x.value) (outcome int c k a s l) (outcome int c k b s l))
      (λ v m. outcome int c k d v m))
      (λ x. on-after (cond (is_true x.value) (outcome int c k a s l) (outcome int c k b s l))
      (λ v m. outcome int c k (before d rest) v m) (λ v m. outcome int c k d v m) go (λ v m. before-on d v m))
  before-on (While e a d) s l =
      on-after (turns k (λ v m. meaning int v m e) (λ v m. outcome int c k a v m) s l)
      (λ v m. outcome int c k (before d rest) v m) (λ v m. outcome int c k d v m) go (λ v m. before-on d v m)
  before-on (Return e) s l = return-on (meaning int s l e) s go

-- ---- statements that don't return

-- it is no return
abbrev IsNone : Outcome → Type 0
IsNone (Falls s l) = Unit {0}
IsNone (Returns s x) = ⊥
IsNone Starves = Unit {0}
IsNone GoesWrong = Unit {0}

value-none : (m : Meaning) (f : CValue → Outcome) → ((x : CValue) → IsNone (f x)) → IsNone (with_value m f)
value-none (Gives x) f h = h x
value-none Wrong f h = tt

values-none : (int : Width) (s : Store) (l : Locals) (es : List CExpr) (f : List CValue → Outcome)
    → ((xs : List CValue) → IsNone (f xs)) → IsNone (with_values int s l es f)
unfolding with_values
values-none int s l [] f h = h []
values-none int s l (e ∷ es) f h =
    value-none (meaning int s l e) (λ x. with_values int s l es (λ xs. f (x ∷ xs)))
    (λ x. values-none int s l es (λ xs. f (x ∷ xs)) (λ xs. h (x ∷ xs)))

called-none : (o : Outcome) (t : CType) (i : ℕ) (l : Locals) (f : Store → Locals → Outcome)
    → ((s : Store) (l : Locals) → IsNone (f s l)) → IsNone (called o t i l f)
called-none (Falls s m) t i l f h = tt
called-none (Returns s x) t i l f h =
    value-none (converted t x.value) (λ y. f s (with_local l t i y.value)) (λ y. h s (with_local l t i y.value))
called-none Starves t i l f h = tt
called-none GoesWrong t i l f h = tt

on-none : (o : Outcome) (f : Store → Locals → Outcome) → IsNone o → ((s : Store) (l : Locals) → IsNone (f s l))
    → IsNone (and_on o f)
on-none (Falls s l) f h i = i s l
on-none (Returns s x) f h i = h
on-none Starves f h i = tt
on-none GoesWrong f h i = tt

cond-none : (b : Bool) (o q : Outcome) → IsNone o → IsNone q → IsNone (cond b o q)
cond-none true o q h i = h
cond-none false o q h i = i

selected-none : (t : CType) (z : ℤ) (cases : List Case) (f : ℕ → Outcome) (o : Outcome)
    → ((n : ℕ) → IsNone (f n)) → IsNone o → IsNone (selected t z cases f o)
selected-none t z [] f o h e = e
selected-none t z (x ∷ cases) f o h e =
    value-none (converted t (pos x.label))
    (λ y. cond (int_le y.value z && int_le z y.value) (f x.function) (selected t z cases f o))
    (λ y. cond-none (int_le y.value z && int_le z y.value) (f x.function) (selected t z cases f o) (h x.function)
    (selected-none t z cases f o h e))

turns-none : (k : ℕ) (test : Store → Locals → Meaning) (turn : Store → Locals → Outcome)
    → ((s : Store) (l : Locals) → IsNone (turn s l)) → (s : Store) (l : Locals) → IsNone (turns k test turn s l)
unfolding turns
turns-none zero test turn h s l = tt
turns-none (suc k) test turn h s l =
    value-none (test s l) (λ x. cond (is_true x.value) (and_on (turn s l) (turns k test turn)) (Falls s l))
    (λ x. cond-none (is_true x.value) (and_on (turn s l) (turns k test turn)) (Falls s l)
    (on-none (turn s l) (turns k test turn) (h s l) (λ s l. turns-none k test turn h s l)) tt)

module _ (int : Width) (c : Calls) (k : ℕ) where
  none-returned : (a : Block) → never_returns a ≡ true → (s : Store) (l : Locals) → IsNone (outcome int c k a s l)
  unfolding outcome never_returns
  none-returned End h s l = tt
  none-returned (Set t i e a) h s l =
      value-none (with_meaning (meaning int s l e) (λ x. converted t x.value))
      (λ y. outcome int c k a s (with_local l t i y.value)) (λ y. none-returned a h s (with_local l t i y.value))
  none-returned (PutField f e a) h s l =
      value-none (with_meaning (meaning int s l e) (λ x. brought_to (slice_get s.fields f) x.value))
      (λ y. outcome int c k a (with_field s f y) l) (λ y. none-returned a h (with_field s f y) l)
  none-returned (StoreAt r i e a) h s l =
      value-none (meaning int s l i)
      (λ n. with_value (with_meaning (meaning int s l e) (λ x. brought_to (element (slice_get s.rows r) n.value) x.value))
      (λ y. outcome int c k a (with_element s r n.value y) l))
      (λ n. value-none (with_meaning (meaning int s l e) (λ x. brought_to (element (slice_get s.rows r) n.value) x.value))
      (λ y. outcome int c k a (with_element s r n.value y) l)
      (λ y. none-returned a h (with_element s r n.value y) l))
  none-returned (Call t i f args a) h s l =
      values-none int s l args (λ xs. called (c f xs s) t i l (λ v m. outcome int c k a v m))
      (λ xs. called-none (c f xs s) t i l (λ v m. outcome int c k a v m) (λ v m. none-returned a h v m))
  none-returned (Select t i e cases args a) h s l =
      value-none (meaning int s l e)
      (λ n. with_value (converted (promoted int n.type) n.value) (λ q. with_values int s l args (λ xs.
      selected q.type q.value cases (λ f. called (c f xs s) t i l (λ v m. outcome int c k a v m))
      (outcome int c k a s l))))
      (λ n. value-none (converted (promoted int n.type) n.value)
      (λ q. with_values int s l args (λ xs.
      selected q.type q.value cases (λ f. called (c f xs s) t i l (λ v m. outcome int c k a v m))
      (outcome int c k a s l)))
      (λ q. values-none int s l args
      (λ xs. selected q.type q.value cases (λ f. called (c f xs s) t i l (λ v m. outcome int c k a v m))
      (outcome int c k a s l))
      (λ xs. selected-none q.type q.value cases (λ f. called (c f xs s) t i l (λ v m. outcome int c k a v m))
      (outcome int c k a s l)
      (λ f. called-none (c f xs s) t i l (λ v m. outcome int c k a v m) (λ v m. none-returned a h v m))
      (none-returned a h s l))))
  none-returned (If e a b d) h s l =
      let p = both (never_returns a) (never_returns b && never_returns d) h in
      let q = both (never_returns b) (never_returns d) p.1 in
      value-none (meaning int s l e)
      (λ x. and_on (cond (is_true x.value) (outcome int c k a s l) (outcome int c k b s l))
      (λ v m. outcome int c k d v m))
      (λ x. on-none (cond (is_true x.value) (outcome int c k a s l) (outcome int c k b s l))
      (λ v m. outcome int c k d v m)
      (cond-none (is_true x.value) (outcome int c k a s l) (outcome int c k b s l) (none-returned a p.0 s l)
      (none-returned b q.0 s l)) (λ v m. none-returned d q.1 v m))
  none-returned (While e a d) h s l =
      let p = both (never_returns a) (never_returns d) h in
      on-none (turns k (λ v m. meaning int v m e) (λ v m. outcome int c k a v m) s l) (λ v m. outcome int c k d v m)
      (turns-none k (λ v m. meaning int v m e) (λ v m. outcome int c k a v m) (λ v m. none-returned a p.0 v m) s l)
      (λ v m. none-returned d p.1 v m)
  none-returned (Return e) h s l = absurd cc

-- ---- statements that go on

-- the parts of an `if` that goes on
pub parts : (x y z w : Bool) → ((x || (y && (z && w))) ≡ true) → x ≡ false → (z ≡ true) × (w ≡ true)
parts true y z w e f = absurd cc
parts false true true true e f = (refl, refl)
parts false true true false e f = absurd cc
parts false true false w e f = absurd cc
parts false false z w e f = absurd cc

module _ (n : ℕ) (next : CExpr → Block) (int : Width) (c : Calls) (k : ℕ) (first : Locals) where
  -- an ending is that of the statements for an expression that was returned, from the struct after it and locals in which
  -- it has that value; or that of those after them
  abbrev pub Goes : Block → Outcome → Outcome → Type 0
  Goes after (Falls v m) o = o ≡ outcome int c k after v m
  Goes after (Returns v x) o = (e : CExpr) × (m : Locals) × AgreeBelow n first m × (meaning int v m e ≡ Gives x)
      × (o ≡ outcome int c k (next e) v m)
  Goes after Starves o = Unit {0}
  Goes after GoesWrong o = Unit {0}

  value-goes : (after : Block) (m : Meaning) (f g : CValue → Outcome) → ((x : CValue) → Goes after (f x) (g x))
      → Goes after (with_value m f) (with_value m g)
  value-goes after (Gives x) f g h = h x
  value-goes after Wrong f g h = tt

  values-go : (after : Block) (s : Store) (l : Locals) (es : List CExpr) (f g : List CValue → Outcome)
      → ((xs : List CValue) → Goes after (f xs) (g xs))
      → Goes after (with_values int s l es f) (with_values int s l es g)
  unfolding with_values
  values-go after s l [] f g h = h []
  values-go after s l (z ∷ es) f g h =
      value-goes after (meaning int s l z) (λ x. with_values int s l es (λ xs. f (x ∷ xs)))
      (λ x. with_values int s l es (λ xs. g (x ∷ xs)))
      (λ x. values-go after s l es (λ xs. f (x ∷ xs)) (λ xs. g (x ∷ xs)) (λ xs. h (x ∷ xs)))

  called-goes : (after : Block) (o : Outcome) (t : CType) (i : ℕ) (l : Locals) (f g : Store → Locals → Outcome)
      → AgreeBelow n first l → ((s : Store) (l : Locals) → AgreeBelow n first l → Goes after (f s l) (g s l))
      → Goes after (called o t (n + i) l f) (called o t (n + i) l g)
  called-goes after (Falls s m) t i l f g same h = tt
  called-goes after (Returns s x) t i l f g same h =
      value-goes after (converted t x.value) (λ y. f s (with_local l t (n + i) y.value))
      (λ y. g s (with_local l t (n + i) y.value))
      (λ y. h s (with_local l t (n + i) y.value) (put-above n first l t i y.value same))
  called-goes after Starves t i l f g same h = tt
  called-goes after GoesWrong t i l f g same h = tt

  cond-goes : (after : Block) (b : Bool) (o p o' p' : Outcome) → Goes after o o' → Goes after p p'
      → Goes after (cond b o p) (cond b o' p')
  cond-goes after true o p o' p' h i = h
  cond-goes after false o p o' p' h i = i

  selected-goes : (after : Block) (t : CType) (z : ℤ) (cases : List Case) (f g : ℕ → Outcome) (o p : Outcome)
      → ((q : ℕ) → Goes after (f q) (g q)) → Goes after o p
      → Goes after (selected t z cases f o) (selected t z cases g p)
  selected-goes after t z [] f g o p h e = e
  selected-goes after t z (x ∷ cases) f g o p h e =
      value-goes after (converted t (pos x.label))
      (λ y. cond (int_le y.value z && int_le z y.value) (f x.function) (selected t z cases f o))
      (λ y. cond (int_le y.value z && int_le z y.value) (g x.function) (selected t z cases g p))
      (λ y. cond-goes after (int_le y.value z && int_le z y.value) (f x.function) (selected t z cases f o)
      (g x.function) (selected t z cases g p) (h x.function) (selected-goes after t z cases f g o p h e))

  -- after statements that don't return
  kept : (after : Block) (o : Outcome) (f g : Store → Locals → Outcome) → IsNone o → Stays n first o
      → ((s : Store) (l : Locals) → AgreeBelow n first l → Goes after (f s l) (g s l))
      → Goes after (and_on o f) (and_on o g)
  kept after (Falls s l) f g none same h = h s l same
  kept after (Returns s y) f g none same h = absurd none
  kept after Starves f g none same h = tt
  kept after GoesWrong f g none same h = tt

  -- after statements that went on with what comes after
  falls-on : (o : Outcome) → and_on o (λ v m. Falls v m) ≡ o
  falls-on (Falls s l) = refl
  falls-on (Returns s y) = refl
  falls-on Starves = refl
  falls-on GoesWrong = refl

  parted : (mid after : Block) (o o' : Outcome) (f : Store → Locals → Outcome) → Goes mid o o' → Stays n first o
      → ((s : Store) (l : Locals) → AgreeBelow n first l → Goes after (f s l) (outcome int c k mid s l))
      → Goes after (and_on o f) o'
  parted mid after (Falls s l) o' f h same i =
      subst (λ (p : Outcome). Goes after (f s l) p) (sym h) (i s l same)
  parted mid after (Returns s y) o' f h same i = h
  parted mid after Starves o' f h same i = tt
  parted mid after GoesWrong o' f h same i = tt

  ends-there : (after : Block) (o o' : Outcome) → Goes after o o' → Goes after o (and_on o' (λ v m. Falls v m))
  ends-there after o o' h = subst (λ (p : Outcome). Goes after o p) (sym (falls-on o')) h

  return-goes : (after : Block) (m : Meaning) (s : Store) (l : Locals) (z : CExpr) → AgreeBelow n first l
      → meaning int s l z ≡ m → Goes after (with_value m (λ x. Returns s x)) (outcome int c k (next z) s l)
  return-goes after (Gives y) s l z same is = (z, l, same, is, refl)
  return-goes after Wrong s l z same is = tt

  -- an `if` goes on where its parts and what comes after it do
  if-goes : (e : CExpr) (a b rest after : Block) (s : Store) (l : Locals) (x : Bool)
      → neither_returns (placed n a) (placed n b) ≡ x
      → (neither_returns (placed n a) (placed n b) || (one_returns (placed n a) (placed n b)
      && (can_go_on (placed n a) && can_go_on (placed n b)))) ≡ true → AgreeBelow n first l
      → (can_go_on (placed n a) ≡ true → Goes (continued next (placed n rest) after) (outcome int c k (placed n a) s l)
      (outcome int c k (continued next (placed n a) (continued next (placed n rest) after)) s l))
      → (can_go_on (placed n b) ≡ true → Goes (continued next (placed n rest) after) (outcome int c k (placed n b) s l)
      (outcome int c k (continued next (placed n b) (continued next (placed n rest) after)) s l))
      → ((v : Store) (m : Locals) → AgreeBelow n first m → Goes after (outcome int c k (placed n rest) v m)
      (outcome int c k (continued next (placed n rest) after) v m))
      → Goes after (with_value (meaning int s l e) (λ y. and_on
      (cond (is_true y.value) (outcome int c k (placed n a) s l) (outcome int c k (placed n b) s l))
      (λ v m. outcome int c k (placed n rest) v m)))
      (outcome int c k (cond x (If e (placed n a) (placed n b) (continued next (placed n rest) after))
      (If e (continued next (placed n a) (continued next (placed n rest) after))
      (continued next (placed n b) (continued next (placed n rest) after)) End)) s l)
  unfolding outcome
  if-goes e a b rest after s l true is can same ha hb hr =
      let no = both (never_returns (placed n a)) (never_returns (placed n b)) is in
      value-goes after (meaning int s l e)
      (λ y. and_on (cond (is_true y.value) (outcome int c k (placed n a) s l) (outcome int c k (placed n b) s l))
      (λ v m. outcome int c k (placed n rest) v m))
      (λ y. and_on (cond (is_true y.value) (outcome int c k (placed n a) s l) (outcome int c k (placed n b) s l))
      (λ v m. outcome int c k (continued next (placed n rest) after) v m))
      (λ y. kept after
      (cond (is_true y.value) (outcome int c k (placed n a) s l) (outcome int c k (placed n b) s l))
      (λ v m. outcome int c k (placed n rest) v m)
      (λ v m. outcome int c k (continued next (placed n rest) after) v m)
      (cond-none (is_true y.value) (outcome int c k (placed n a) s l) (outcome int c k (placed n b) s l)
      (none-returned int c k (placed n a) no.0 s l) (none-returned int c k (placed n b) no.1 s l))
      (cond-stays n first (is_true y.value) (outcome int c k (placed n a) s l) (outcome int c k (placed n b) s l)
      (placed-stays n int c k first a s l same) (placed-stays n int c k first b s l same)) hr)
  if-goes e a b rest after s l false is can same ha hb hr =
      let can_parts = parts (neither_returns (placed n a) (placed n b)) (one_returns (placed n a) (placed n b))
      (can_go_on (placed n a)) (can_go_on (placed n b)) can is in
      let mid = continued next (placed n rest) after in
      value-goes after (meaning int s l e)
      (λ y. and_on (cond (is_true y.value) (outcome int c k (placed n a) s l) (outcome int c k (placed n b) s l))
      (λ v m. outcome int c k (placed n rest) v m))
      (λ y. and_on (cond (is_true y.value) (outcome int c k (continued next (placed n a) mid) s l)
      (outcome int c k (continued next (placed n b) mid) s l)) (λ v m. Falls v m))
      (λ y. ends-there after
      (and_on (cond (is_true y.value) (outcome int c k (placed n a) s l) (outcome int c k (placed n b) s l))
      (λ v m. outcome int c k (placed n rest) v m))
      (cond (is_true y.value) (outcome int c k (continued next (placed n a) mid) s l)
      (outcome int c k (continued next (placed n b) mid) s l))
      (parted mid after
      (cond (is_true y.value) (outcome int c k (placed n a) s l) (outcome int c k (placed n b) s l))
      (cond (is_true y.value) (outcome int c k (continued next (placed n a) mid) s l)
      (outcome int c k (continued next (placed n b) mid) s l)) (λ v m. outcome int c k (placed n rest) v m)
      (cond-goes mid (is_true y.value) (outcome int c k (placed n a) s l) (outcome int c k (placed n b) s l)
      (outcome int c k (continued next (placed n a) mid) s l)
      (outcome int c k (continued next (placed n b) mid) s l) (ha can_parts.0) (hb can_parts.1))
      (cond-stays n first (is_true y.value) (outcome int c k (placed n a) s l) (outcome int c k (placed n b) s l)
      (placed-stays n int c k first a s l same) (placed-stays n int c k first b s l same)) hr))

  pub goes-on : (a after : Block) → can_go_on (placed n a) ≡ true → (s : Store) (l : Locals) → AgreeBelow n first l
      → Goes after (outcome int c k (placed n a) s l) (outcome int c k (continued next (placed n a) after) s l)
  unfolding outcome placed can_go_on continued
  goes-on End after can s l same = refl
  goes-on (Set t i e a) after can s l same =
      value-goes after (with_meaning (meaning int s l (placed_expr n e)) (λ x. converted t x.value))
      (λ y. outcome int c k (placed n a) s (with_local l t (n + i) y.value))
      (λ y. outcome int c k (continued next (placed n a) after) s (with_local l t (n + i) y.value))
      (λ y. goes-on a after can s (with_local l t (n + i) y.value) (put-above n first l t i y.value same))
  goes-on (PutField f e a) after can s l same =
      value-goes after
      (with_meaning (meaning int s l (placed_expr n e)) (λ x. brought_to (slice_get s.fields f) x.value))
      (λ y. outcome int c k (placed n a) (with_field s f y) l)
      (λ y. outcome int c k (continued next (placed n a) after) (with_field s f y) l)
      (λ y. goes-on a after can (with_field s f y) l same)
  goes-on (StoreAt r i e a) after can s l same =
      value-goes after (meaning int s l (placed_expr n i))
      (λ q. with_value (with_meaning (meaning int s l (placed_expr n e))
      (λ x. brought_to (element (slice_get s.rows r) q.value) x.value))
      (λ y. outcome int c k (placed n a) (with_element s r q.value y) l))
      (λ q. with_value (with_meaning (meaning int s l (placed_expr n e))
      (λ x. brought_to (element (slice_get s.rows r) q.value) x.value))
      (λ y. outcome int c k (continued next (placed n a) after) (with_element s r q.value y) l))
      (λ q. value-goes after
      (with_meaning (meaning int s l (placed_expr n e))
      (λ x. brought_to (element (slice_get s.rows r) q.value) x.value))
      (λ y. outcome int c k (placed n a) (with_element s r q.value y) l)
      (λ y. outcome int c k (continued next (placed n a) after) (with_element s r q.value y) l)
      (λ y. goes-on a after can (with_element s r q.value y) l same))
  goes-on (Call t i f args a) after can s l same =
      values-go after s l (placed_exprs n args)
      (λ xs. called (c f xs s) t (n + i) l (λ v m. outcome int c k (placed n a) v m))
      (λ xs. called (c f xs s) t (n + i) l (λ v m. outcome int c k (continued next (placed n a) after) v m))
      (λ xs. called-goes after (c f xs s) t i l (λ v m. outcome int c k (placed n a) v m)
      (λ v m. outcome int c k (continued next (placed n a) after) v m) same
      (λ v m same. goes-on a after can v m same))
  goes-on (Select t i e cases args a) after can s l same =
      value-goes after (meaning int s l (placed_expr n e))
      (λ q. with_value (converted (promoted int q.type) q.value) (λ p. with_values int s l (placed_exprs n args) (λ xs.
      selected p.type p.value cases (λ f. called (c f xs s) t (n + i) l (λ v m. outcome int c k (placed n a) v m))
      (outcome int c k (placed n a) s l))))
      (λ q. with_value (converted (promoted int q.type) q.value) (λ p. with_values int s l (placed_exprs n args) (λ xs.
      selected p.type p.value cases
      (λ f. called (c f xs s) t (n + i) l (λ v m. outcome int c k (continued next (placed n a) after) v m))
      (outcome int c k (continued next (placed n a) after) s l))))
      (λ q. value-goes after (converted (promoted int q.type) q.value)
      (λ p. with_values int s l (placed_exprs n args) (λ xs.
      selected p.type p.value cases (λ f. called (c f xs s) t (n + i) l (λ v m. outcome int c k (placed n a) v m))
      (outcome int c k (placed n a) s l)))
      (λ p. with_values int s l (placed_exprs n args) (λ xs.
      selected p.type p.value cases
      (λ f. called (c f xs s) t (n + i) l (λ v m. outcome int c k (continued next (placed n a) after) v m))
      (outcome int c k (continued next (placed n a) after) s l)))
      (λ p. values-go after s l (placed_exprs n args)
      (λ xs. selected p.type p.value cases
      (λ f. called (c f xs s) t (n + i) l (λ v m. outcome int c k (placed n a) v m))
      (outcome int c k (placed n a) s l))
      (λ xs. selected p.type p.value cases
      (λ f. called (c f xs s) t (n + i) l (λ v m. outcome int c k (continued next (placed n a) after) v m))
      (outcome int c k (continued next (placed n a) after) s l))
      (λ xs. selected-goes after p.type p.value cases
      (λ f. called (c f xs s) t (n + i) l (λ v m. outcome int c k (placed n a) v m))
      (λ f. called (c f xs s) t (n + i) l (λ v m. outcome int c k (continued next (placed n a) after) v m))
      (outcome int c k (placed n a) s l) (outcome int c k (continued next (placed n a) after) s l)
      (λ f. called-goes after (c f xs s) t i l (λ v m. outcome int c k (placed n a) v m)
      (λ v m. outcome int c k (continued next (placed n a) after) v m) same
      (λ v m same. goes-on a after can v m same)) (goes-on a after can s l same))))
  goes-on (If e a b rest) after can s l same =
      let p = both (neither_returns (placed n a) (placed n b) || (one_returns (placed n a) (placed n b)
      && (can_go_on (placed n a) && can_go_on (placed n b)))) (can_go_on (placed n rest)) can in
      if-goes (placed_expr n e) a b rest after s l (neither_returns (placed n a) (placed n b)) refl p.0 same
      (λ h. goes-on a (continued next (placed n rest) after) h s l same)
      (λ h. goes-on b (continued next (placed n rest) after) h s l same)
      (λ v m same. goes-on rest after p.1 v m same)
  goes-on (While e a rest) after can s l same =
      let p = both (never_returns (placed n a)) (can_go_on (placed n rest)) can in
      kept after (turns k (λ v m. meaning int v m (placed_expr n e)) (λ v m. outcome int c k (placed n a) v m) s l)
      (λ v m. outcome int c k (placed n rest) v m)
      (λ v m. outcome int c k (continued next (placed n rest) after) v m)
      (turns-none k (λ v m. meaning int v m (placed_expr n e)) (λ v m. outcome int c k (placed n a) v m)
      (λ v m. none-returned int c k (placed n a) p.0 v m) s l)
      (turns-stay n first k (λ v m. meaning int v m (placed_expr n e)) (λ v m. outcome int c k (placed n a) v m)
      (λ v m same. placed-stays n int c k first a v m same) s l same)
      (λ v m same. goes-on rest after p.1 v m same)
  goes-on (Return e) after can s l same =
      return-goes after (meaning int s l (placed_expr n e)) s l (placed_expr n e) same refl
