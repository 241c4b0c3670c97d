-- Placed statements do what the statements do.
use Rattle.std.proofs.Common.{◌≡◌, ◌==◌, ℕ, zero, suc, ◌+◌, ◌<◌, ◌≤◌, ℤ, pos, int_le, ◌&&◌, not, Bool, true, false, cond}
use Rattle.std.proofs.Common.{List, [], ◌∷◌, Option, Some, None, slice_get, refl, sym, ap, ◌∙◌, subst, arith, inl, inr}
use Rattle.c_subset.specs.declared.trees.Width.{Width}
use Rattle.c_subset.specs.declared.trees.CType.{CType}
use Rattle.c_subset.specs.declared.trees.Case.{Case}
use Rattle.c_subset.specs.Trees.{CExpr, Const, Field, Element, Local, Cast, Minus, Bang, Calc, Divide, Bits, Compare}
use Rattle.c_subset.specs.Trees.{Both, Either, Choose}
use Rattle.c_subset.specs.Trees.{Block, End, Set, Store as PutField, StoreAt, Call, Select, If, While, Return}
use Rattle.c_subset.specs.Meaning.{CValue, Meaning, Gives, Wrong, with_meaning, converted, promoted, is_true, Store}
use Rattle.c_subset.specs.Meaning.{element, Locals, meaning, read, read_as, negated, truth, calculated, divided}
use Rattle.c_subset.specs.Meaning.{combined, compared}
use Rattle.c_subset.specs.Running.{Outcome, Falls, Returns, Starves, GoesWrong, with_value, and_on}
use Rattle.c_subset.specs.Running.{with_local, brought_to, with_field, with_element, Calls, with_values, called}
use Rattle.c_subset.specs.Running.{same_type, turns, selected, outcome}
use Rattle.c_placing.specs.Placing.{placed_expr, placed_exprs, placed, HasPlaced, AgreeBelow, ReturnAlike}
use Rattle.c_placing.specs.Placing.{PlacedDoTheSame}
use Rattle.c_placing.proofs.Clearer.{Clearer, with-clearer, cond-clearer}

-- ---- expressions

module _ (n : ℕ) (int : Width) (s : Store) (l m : Locals) (has : HasPlaced n l m) where
  two : (a b : CExpr) (f : CValue → CValue → Meaning) → Clearer (meaning int s l a) (meaning int s m (placed_expr n a))
      → Clearer (meaning int s l b) (meaning int s m (placed_expr n b))
      → Clearer (with_meaning (meaning int s l a) (λ x. with_meaning (meaning int s l b) (f x)))
      (with_meaning (meaning int s m (placed_expr n a)) (λ x. with_meaning (meaning int s m (placed_expr n b)) (f x)))
  two a b f ha hb =
      with-clearer (meaning int s l a) (meaning int s m (placed_expr n a))
      (λ x. with_meaning (meaning int s l b) (f x)) (λ x. with_meaning (meaning int s m (placed_expr n b)) (f x)) ha
      (λ x. with-clearer (meaning int s l b) (meaning int s m (placed_expr n b)) (f x) (f x) hb (λ y. inr refl))

  truth-of : (b : CExpr) → Clearer (meaning int s l b) (meaning int s m (placed_expr n b))
      → Clearer (with_meaning (meaning int s l b) (λ y. truth int (is_true y.value)))
      (with_meaning (meaning int s m (placed_expr n b)) (λ y. truth int (is_true y.value)))
  truth-of b h =
      with-clearer (meaning int s l b) (meaning int s m (placed_expr n b)) (λ y. truth int (is_true y.value))
      (λ y. truth int (is_true y.value)) h (λ y. inr refl)

  pub placed-means : (e : CExpr) → Clearer (meaning int s l e) (meaning int s m (placed_expr n e))
  unfolding meaning placed_expr
  placed-means (Const t z) = inr refl
  placed-means (Field f) = inr refl
  placed-means (Element a e) =
      with-clearer (meaning int s l e) (meaning int s m (placed_expr n e))
      (λ i. read (element (slice_get s.rows a) i.value)) (λ i. read (element (slice_get s.rows a) i.value))
      (placed-means e) (λ i. inr refl)
  placed-means (Local t k) = at (l t k) refl
    where
      at : (o : Option ℤ) → l t k ≡ o → Clearer (read_as t (l t k)) (read_as t (m t (n + k)))
      at (Some z) e = inr (ap (read_as t) (has t k z e ∙ sym e))
      at None e = inl (ap (read_as t) e)
  placed-means (Cast t e) =
      with-clearer (meaning int s l e) (meaning int s m (placed_expr n e)) (λ x. converted t x.value)
      (λ x. converted t x.value) (placed-means e) (λ x. inr refl)
  placed-means (Minus e) =
      with-clearer (meaning int s l e) (meaning int s m (placed_expr n e)) (negated int) (negated int)
      (placed-means e) (λ x. inr refl)
  placed-means (Bang e) =
      with-clearer (meaning int s l e) (meaning int s m (placed_expr n e)) (λ x. truth int (not (is_true x.value)))
      (λ x. truth int (not (is_true x.value))) (placed-means e) (λ x. inr refl)
  placed-means (Calc op a b) = two a b (calculated int op) (placed-means a) (placed-means b)
  placed-means (Divide op a b) = two a b (divided int op) (placed-means a) (placed-means b)
  placed-means (Bits op a b) = two a b (combined int op) (placed-means a) (placed-means b)
  placed-means (Compare op a b) = two a b (compared int op) (placed-means a) (placed-means b)
  placed-means (Both a b) =
      with-clearer (meaning int s l a) (meaning int s m (placed_expr n a))
      (λ x. cond (is_true x.value) (with_meaning (meaning int s l b) (λ y. truth int (is_true y.value)))
      (truth int false))
      (λ x. cond (is_true x.value) (with_meaning (meaning int s m (placed_expr n b)) (λ y. truth int (is_true y.value)))
      (truth int false)) (placed-means a)
      (λ x. cond-clearer (is_true x.value) (with_meaning (meaning int s l b) (λ y. truth int (is_true y.value)))
      (truth int false) (with_meaning (meaning int s m (placed_expr n b)) (λ y. truth int (is_true y.value)))
      (truth int false) (truth-of b (placed-means b)) (inr refl))
  placed-means (Either a b) =
      with-clearer (meaning int s l a) (meaning int s m (placed_expr n a))
      (λ x. cond (is_true x.value) (truth int true)
      (with_meaning (meaning int s l b) (λ y. truth int (is_true y.value))))
      (λ x. cond (is_true x.value) (truth int true)
      (with_meaning (meaning int s m (placed_expr n b)) (λ y. truth int (is_true y.value)))) (placed-means a)
      (λ x. cond-clearer (is_true x.value) (truth int true)
      (with_meaning (meaning int s l b) (λ y. truth int (is_true y.value))) (truth int true)
      (with_meaning (meaning int s m (placed_expr n b)) (λ y. truth int (is_true y.value))) (inr refl)
      (truth-of b (placed-means b)))
  placed-means (Choose t c a b) =
      with-clearer (meaning int s l c) (meaning int s m (placed_expr n c))
      (λ x. with_meaning (cond (is_true x.value) (meaning int s l a) (meaning int s l b)) chosen)
      (λ x. with_meaning (cond (is_true x.value) (meaning int s m (placed_expr n a)) (meaning int s m (placed_expr n b)))
      chosen) (placed-means c)
      (λ x. with-clearer (cond (is_true x.value) (meaning int s l a) (meaning int s l b))
      (cond (is_true x.value) (meaning int s m (placed_expr n a)) (meaning int s m (placed_expr n b))) chosen chosen
      (cond-clearer (is_true x.value) (meaning int s l a) (meaning int s l b) (meaning int s m (placed_expr n a))
      (meaning int s m (placed_expr n b)) (placed-means a) (placed-means b)) (λ y. inr refl))
    where
      chosen : CValue → Meaning
      chosen y = with_meaning (converted t y.value) (λ z. converted (promoted int t) z.value)

-- ---- locals

same-after : (n i j : ℕ) → ((n + i) == (n + j)) ≡ (i == j)
same-after n i j = grind arith

pub put-placed : (n : ℕ) (l m : Locals) (t : CType) (j : ℕ) (z : ℤ) → HasPlaced n l m
    → HasPlaced n (with_local l t j z) (with_local m t (n + j) z)
put-placed n l m t j z has u i w e =
    subst (λ (b : Bool). cond (b && same_type u t) (Some z) (m u (n + i)) ≡ Some w) (sym (same-after n i j))
    (at ((i == j) && same_type u t) e)
  where
    at : (b : Bool) → cond b (Some z) (l u i) ≡ Some w → cond b (Some z) (m u (n + i)) ≡ Some w
    at true e = e
    at false e = has u i w e

-- ---- statements

-- the second ending is the first one, with locals that have the first ones, unless that doesn't end
abbrev pub Places : ℕ → Outcome → Outcome → Type 0
Places n (Falls s l) o = (m : Locals) × (o ≡ Falls s m) × HasPlaced n l m
Places n (Returns s x) o = o ≡ Returns s x
Places n Starves o = Unit {0}
Places n GoesWrong o = Unit {0}

module _ (n : ℕ) where
  value-places : (a b : Meaning) (f g : CValue → Outcome) → Clearer a b
      → ((x : CValue) → Places n (f x) (g x)) → Places n (with_value a f) (with_value b g)
  value-places Wrong b f g c h = tt
  value-places (Gives x) b f g (inl e) h = absurd cc
  value-places (Gives x) b f g (inr e) h =
      subst (λ (m : Meaning). Places n (f x) (with_value m g)) (sym e) (h x)

  on-places : (o p : Outcome) (f g : Store → Locals → Outcome) → Places n o p
      → ((s : Store) (l m : Locals) → HasPlaced n l m → Places n (f s l) (g s m)) → Places n (and_on o f) (and_on p g)
  on-places (Falls s l) p f g e h =
      subst (λ (o : Outcome). Places n (f s l) (and_on o g)) (sym e.1) (h s l e.0 e.2)
  on-places (Returns s x) p f g e h = ap (λ (o : Outcome). and_on o g) e
  on-places Starves p f g e h = tt
  on-places GoesWrong p f g e h = tt

  cond-places : (b : Bool) (o p o' p' : Outcome) → Places n o o' → Places n p p' → Places n (cond b o p) (cond b o' p')
  cond-places true o p o' p' h i = h
  cond-places false o p o' p' h i = i

  called-places : (o p : Outcome) (t : CType) (i : ℕ) (l m : Locals) (f g : Store → Locals → Outcome)
      → ((s : Store) (x : CValue) → o ≡ Returns s x → p ≡ Returns s x)
      → HasPlaced n l m → ((s : Store) (l m : Locals) → HasPlaced n l m → Places n (f s l) (g s m))
      → Places n (called o t i l f) (called p t (n + i) m g)
  called-places (Falls s q) p t i l m f g e has h = tt
  called-places (Returns s x) p t i l m f g e has h =
      subst (λ (o : Outcome). Places n (called (Returns s x) t i l f) (called o t (n + i) m g)) (sym (e s x refl))
      (value-places (converted t x.value) (converted t x.value) (λ y. f s (with_local l t i y.value))
      (λ y. g s (with_local m t (n + i) y.value)) (inr refl)
      (λ y. h s (with_local l t i y.value) (with_local m t (n + i) y.value) (put-placed n l m t i y.value has)))
  called-places Starves p t i l m f g e has h = tt
  called-places GoesWrong p t i l m f g e has h = tt

  values-place : (int : Width) (s : Store) (l m : Locals) (es : List CExpr) (f g : List CValue → Outcome)
      → HasPlaced n l m → ((xs : List CValue) → Places n (f xs) (g xs))
      → Places n (with_values int s l es f) (with_values int s m (placed_exprs n es) g)
  unfolding with_values
  values-place int s l m [] f g has h = h []
  values-place int s l m (e ∷ es) f g has h =
      value-places (meaning int s l e) (meaning int s m (placed_expr n e))
      (λ x. with_values int s l es (λ xs. f (x ∷ xs)))
      (λ x. with_values int s m (placed_exprs n es) (λ xs. g (x ∷ xs))) (placed-means n int s l m has e)
      (λ x. values-place int s l m es (λ xs. f (x ∷ xs)) (λ xs. g (x ∷ xs)) has (λ xs. h (x ∷ xs)))

  turns-place : (k j : ℕ) → k ≤ j → (test test' : Store → Locals → Meaning) (f g : Store → Locals → Outcome)
      → ((s : Store) (l m : Locals) → HasPlaced n l m → Clearer (test s l) (test' s m))
      → ((s : Store) (l m : Locals) → HasPlaced n l m → Places n (f s l) (g s m))
      → (s : Store) (l m : Locals) → HasPlaced n l m → Places n (turns k test f s l) (turns j test' g s m)
  unfolding turns
  turns-place zero j le test test' f g c h s l m has = tt
  turns-place (suc k) zero le test test' f g c h s l m has = absurd (omega arith)
  turns-place (suc k) (suc j) le test test' f g c h s l m has =
      value-places (test s l) (test' s m) (λ x. cond (is_true x.value) (and_on (f s l) (turns k test f)) (Falls s l))
      (λ x. cond (is_true x.value) (and_on (g s m) (turns j test' g)) (Falls s m)) (c s l m has)
      (λ x. cond-places (is_true x.value) (and_on (f s l) (turns k test f)) (Falls s l)
      (and_on (g s m) (turns j test' g)) (Falls s m)
      (on-places (f s l) (g s m) (turns k test f) (turns j test' g) (h s l m has)
      (λ s l m has. turns-place k j (omega arith) test test' f g c h s l m has)) (m, refl, has))

  selected-places : (t : CType) (z : ℤ) (cases : List Case) (f g : ℕ → Outcome) (o p : Outcome)
      → ((q : ℕ) → Places n (f q) (g q)) → Places n o p → Places n (selected t z cases f o) (selected t z cases g p)
  selected-places t z [] f g o p h e = e
  selected-places t z (x ∷ cases) f g o p h e =
      value-places (converted t (pos x.label)) (converted t (pos x.label))
      (λ y. cond (int_le y.value z && int_le z y.value) (f x.function) (selected t z cases f o))
      (λ y. cond (int_le y.value z && int_le z y.value) (g x.function) (selected t z cases g p)) (inr refl)
      (λ y. cond-places (int_le y.value z && int_le z y.value) (f x.function) (selected t z cases f o) (g x.function)
      (selected t z cases g p) (h x.function) (selected-places t z cases f g o p h e))

module _ (n : ℕ) (int : Width) (c d : Calls) (alike : ReturnAlike c d) (k j : ℕ) (le : k ≤ j) where
  pub placed-places : (a : Block) (s : Store) (l m : Locals) → HasPlaced n l m
      → Places n (outcome int c k a s l) (outcome int d j (placed n a) s m)
  unfolding outcome placed
  placed-places End s l m has = (m, refl, has)
  placed-places (Set t i e a) s l m has =
      value-places n (with_meaning (meaning int s l e) (λ x. converted t x.value))
      (with_meaning (meaning int s m (placed_expr n e)) (λ x. converted t x.value))
      (λ y. outcome int c k a s (with_local l t i y.value))
      (λ y. outcome int d j (placed n a) s (with_local m t (n + i) y.value))
      (with-clearer (meaning int s l e) (meaning int s m (placed_expr n e)) (λ x. converted t x.value)
      (λ x. converted t x.value) (placed-means n int s l m has e) (λ x. inr refl))
      (λ y. placed-places a s (with_local l t i y.value) (with_local m t (n + i) y.value)
      (put-placed n l m t i y.value has))
  placed-places (PutField f e a) s l m has =
      value-places n (with_meaning (meaning int s l e) (λ x. brought_to (slice_get s.fields f) x.value))
      (with_meaning (meaning int s m (placed_expr n e)) (λ x. brought_to (slice_get s.fields f) x.value))
      (λ y. outcome int c k a (with_field s f y) l) (λ y. outcome int d j (placed n a) (with_field s f y) m)
      (with-clearer (meaning int s l e) (meaning int s m (placed_expr n e))
      (λ x. brought_to (slice_get s.fields f) x.value) (λ x. brought_to (slice_get s.fields f) x.value)
      (placed-means n int s l m has e) (λ x. inr refl))
      (λ y. placed-places a (with_field s f y) l m has)
  placed-places (StoreAt r i e a) s l m has =
      value-places n (meaning int s l i) (meaning int s m (placed_expr n i))
      (λ q. with_value (with_meaning (meaning int s l e) (λ x. brought_to (element (slice_get s.rows r) q.value) x.value))
      (λ y. outcome int c k a (with_element s r q.value y) l))
      (λ q. with_value (with_meaning (meaning int s m (placed_expr n e))
      (λ x. brought_to (element (slice_get s.rows r) q.value) x.value))
      (λ y. outcome int d j (placed n a) (with_element s r q.value y) m)) (placed-means n int s l m has i)
      (λ q. value-places n
      (with_meaning (meaning int s l e) (λ x. brought_to (element (slice_get s.rows r) q.value) x.value))
      (with_meaning (meaning int s m (placed_expr n e))
      (λ x. brought_to (element (slice_get s.rows r) q.value) x.value))
      (λ y. outcome int c k a (with_element s r q.value y) l)
      (λ y. outcome int d j (placed n a) (with_element s r q.value y) m)
      (with-clearer (meaning int s l e) (meaning int s m (placed_expr n e))
      (λ x. brought_to (element (slice_get s.rows r) q.value) x.value)
      (λ x. brought_to (element (slice_get s.rows r) q.value) x.value) (placed-means n int s l m has e)
      (λ x. inr refl)) (λ y. placed-places a (with_element s r q.value y) l m has))
  placed-places (Call t i f args a) s l m has =
      values-place n int s l m args (λ xs. called (c f xs s) t i l (λ v m. outcome int c k a v m))
      (λ xs. called (d f xs s) t (n + i) m (λ v m. outcome int d j (placed n a) v m)) has
      (λ xs. called-places n (c f xs s) (d f xs s) t i l m (λ v m. outcome int c k a v m)
      (λ v m. outcome int d j (placed n a) v m) (λ v x e. alike f xs s v x e) has
      (λ v l m has. placed-places a v l m has))
  placed-places (Select t i e cases args a) s l m has =
      value-places n (meaning int s l e) (meaning int s m (placed_expr n e))
      (λ q. with_value (converted (promoted int q.type) q.value) (λ p. with_values int s l args (λ xs.
      selected p.type p.value cases (λ f. called (c f xs s) t i l (λ v m. outcome int c k a v m))
      (outcome int c k a s l))))
      (λ q. with_value (converted (promoted int q.type) q.value) (λ p. with_values int s m (placed_exprs n args) (λ xs.
      selected p.type p.value cases (λ f. called (d f xs s) t (n + i) m (λ v m. outcome int d j (placed n a) v m))
      (outcome int d j (placed n a) s m)))) (placed-means n int s l m has e)
      (λ q. value-places n (converted (promoted int q.type) q.value) (converted (promoted int q.type) q.value)
      (λ p. with_values int s l args (λ xs.
      selected p.type p.value cases (λ f. called (c f xs s) t i l (λ v m. outcome int c k a v m))
      (outcome int c k a s l)))
      (λ p. with_values int s m (placed_exprs n args) (λ xs.
      selected p.type p.value cases (λ f. called (d f xs s) t (n + i) m (λ v m. outcome int d j (placed n a) v m))
      (outcome int d j (placed n a) s m))) (inr refl)
      (λ p. values-place n int s l m args
      (λ xs. selected p.type p.value cases (λ f. called (c f xs s) t i l (λ v m. outcome int c k a v m))
      (outcome int c k a s l))
      (λ xs. selected p.type p.value cases
      (λ f. called (d f xs s) t (n + i) m (λ v m. outcome int d j (placed n a) v m))
      (outcome int d j (placed n a) s m)) has
      (λ xs. selected-places n p.type p.value cases (λ f. called (c f xs s) t i l (λ v m. outcome int c k a v m))
      (λ f. called (d f xs s) t (n + i) m (λ v m. outcome int d j (placed n a) v m)) (outcome int c k a s l)
      (outcome int d j (placed n a) s m)
      (λ f. called-places n (c f xs s) (d f xs s) t i l m (λ v m. outcome int c k a v m)
      (λ v m. outcome int d j (placed n a) v m) (λ v x e. alike f xs s v x e) has
      (λ v l m has. placed-places a v l m has)) (placed-places a s l m has))))
  placed-places (If e a b rest) s l m has =
      value-places n (meaning int s l e) (meaning int s m (placed_expr n e))
      (λ x. and_on (cond (is_true x.value) (outcome int c k a s l) (outcome int c k b s l))
      (λ v m. outcome int c k rest v m))
      (λ x. and_on (cond (is_true x.value) (outcome int d j (placed n a) s m) (outcome int d j (placed n b) s m))
      (λ v m. outcome int d j (placed n rest) v m)) (placed-means n int s l m has e)
      (λ x. on-places n (cond (is_true x.value) (outcome int c k a s l) (outcome int c k b s l))
      (cond (is_true x.value) (outcome int d j (placed n a) s m) (outcome int d j (placed n b) s m))
      (λ v m. outcome int c k rest v m) (λ v m. outcome int d j (placed n rest) v m)
      (cond-places n (is_true x.value) (outcome int c k a s l) (outcome int c k b s l)
      (outcome int d j (placed n a) s m) (outcome int d j (placed n b) s m) (placed-places a s l m has)
      (placed-places b s l m has)) (λ v l m has. placed-places rest v l m has))
  placed-places (While e a rest) s l m has =
      on-places n (turns k (λ v m. meaning int v m e) (λ v m. outcome int c k a v m) s l)
      (turns j (λ v m. meaning int v m (placed_expr n e)) (λ v m. outcome int d j (placed n a) v m) s m)
      (λ v m. outcome int c k rest v m) (λ v m. outcome int d j (placed n rest) v m)
      (turns-place n k j le (λ v m. meaning int v m e) (λ v m. meaning int v m (placed_expr n e))
      (λ v m. outcome int c k a v m) (λ v m. outcome int d j (placed n a) v m)
      (λ v l m has. placed-means n int v l m has e) (λ v l m has. placed-places a v l m has) s l m has)
      (λ v l m has. placed-places rest v l m has)
  placed-places (Return e) s l m has =
      value-places n (meaning int s l e) (meaning int s m (placed_expr n e)) (λ x. Returns s x) (λ x. Returns s x)
      (placed-means n int s l m has e) (λ x. refl)

pub placed-do-the-same : PlacedDoTheSame
placed-do-the-same n int c d k j a s after l m alike le has = (
  (λ x e. subst (λ (o : Outcome). Places n o (outcome int d j (placed n a) s m)) e
      (placed-places n int c d alike k j le a s l m has)),
  (λ l' e. subst (λ (o : Outcome). Places n o (outcome int d j (placed n a) s m)) e
      (placed-places n int c d alike k j le a s l m has)),
)
