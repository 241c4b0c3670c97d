-- Placed statements leave the locals below the base as they were.
use Rattle.std.proofs.Common.{◌≡◌, ◌==◌, ℕ, zero, suc, ◌+◌, ◌<◌, ℤ, pos, int_le, ◌&&◌, Bool, true, false, cond}
use Rattle.std.proofs.Common.{List, [], ◌∷◌, Option, Some, slice_get, refl, sym, ap, ◌∙◌, subst, arith}
use Rattle.c_subset.specs.declared.trees.Width.{Width}
use Rattle.c_subset.specs.declared.trees.CType.{CType}
use Rattle.c_subset.specs.declared.trees.Case.{Case}
use Rattle.c_subset.specs.Trees.{CExpr}
use Rattle.c_subset.specs.Trees.{Block, End, Set, Store as PutField, StoreAt, Call, Select, If, While, Return}
use Rattle.c_subset.specs.Meaning.{CValue, Meaning, Gives, Wrong, with_meaning, converted, promoted, is_true, Store}
use Rattle.c_subset.specs.Meaning.{element, Locals, meaning}
use Rattle.c_subset.specs.Running.{Outcome, Falls, Returns, Starves, GoesWrong, with_value, and_on}
use Rattle.c_subset.specs.Running.{with_local, brought_to, with_field, with_element, Calls, with_values, called}
use Rattle.c_subset.specs.Running.{same_type, turns, selected, outcome}
use Rattle.c_placing.specs.Placing.{placed_expr, placed_exprs, placed, AgreeBelow, OthersAreAsBefore}

-- a local from the base on isn't one of those below
pub put-above : (n : ℕ) (l m : Locals) (t : CType) (j : ℕ) (z : ℤ) → AgreeBelow n l m
    → AgreeBelow n l (with_local m t (n + j) z)
put-above n l m t j z same u i below = at (i == (n + j)) refl
  where
    at : (b : Bool) → (i == (n + j)) ≡ b → l u i ≡ cond (b && same_type u t) (Some z) (m u i)
    at true e = let number : i ≡ n + j = grind (arith, e) in absurd (omega (arith, below, number))
    at false e = same u i below

-- where statements fall through, the locals agree with these
abbrev pub Stays : ℕ → Locals → Outcome → Type 0
Stays n l (Falls s m) = AgreeBelow n l m
Stays n l (Returns s x) = Unit {0}
Stays n l Starves = Unit {0}
Stays n l GoesWrong = Unit {0}

module _ (n : ℕ) (first : Locals) where
  value-stays : (m : Meaning) (f : CValue → Outcome) → ((x : CValue) → Stays n first (f x))
      → Stays n first (with_value m f)
  value-stays (Gives x) f h = h x
  value-stays Wrong f h = tt

  values-stay : (int : Width) (s : Store) (l : Locals) (es : List CExpr) (f : List CValue → Outcome)
      → ((xs : List CValue) → Stays n first (f xs)) → Stays n first (with_values int s l es f)
  unfolding with_values
  values-stay int s l [] f h = h []
  values-stay int s l (e ∷ es) f h =
      value-stays (meaning int s l e) (λ x. with_values int s l es (λ xs. f (x ∷ xs)))
      (λ x. values-stay int s l es (λ xs. f (x ∷ xs)) (λ xs. h (x ∷ xs)))

  called-stays : (o : Outcome) (t : CType) (i : ℕ) (l : Locals) (f : Store → Locals → Outcome) → AgreeBelow n first l
      → ((s : Store) (l : Locals) → AgreeBelow n first l → Stays n first (f s l))
      → Stays n first (called o t (n + i) l f)
  called-stays (Falls s m) t i l f same h = tt
  called-stays (Returns s x) t i l f same h =
      value-stays (converted t x.value) (λ y. f s (with_local l t (n + i) y.value))
      (λ y. h s (with_local l t (n + i) y.value) (put-above n first l t i y.value same))
  called-stays Starves t i l f same h = tt
  called-stays GoesWrong t i l f same h = tt

  on-stays : (o : Outcome) (f : Store → Locals → Outcome) → Stays n first o
      → ((s : Store) (l : Locals) → AgreeBelow n first l → Stays n first (f s l)) → Stays n first (and_on o f)
  on-stays (Falls s l) f h i = i s l h
  on-stays (Returns s x) f h i = tt
  on-stays Starves f h i = tt
  on-stays GoesWrong f h i = tt

  pub cond-stays : (b : Bool) (o q : Outcome) → Stays n first o → Stays n first q → Stays n first (cond b o q)
  cond-stays true o q h i = h
  cond-stays false o q h i = i

  selected-stays : (t : CType) (z : ℤ) (cases : List Case) (f : ℕ → Outcome) (o : Outcome)
      → ((q : ℕ) → Stays n first (f q)) → Stays n first o → Stays n first (selected t z cases f o)
  selected-stays t z [] f o h e = e
  selected-stays t z (x ∷ cases) f o h e =
      value-stays (converted t (pos x.label))
      (λ y. cond (int_le y.value z && int_le z y.value) (f x.function) (selected t z cases f o))
      (λ y. cond-stays (int_le y.value z && int_le z y.value) (f x.function) (selected t z cases f o) (h x.function)
      (selected-stays t z cases f o h e))

  pub turns-stay : (k : ℕ) (test : Store → Locals → Meaning) (turn : Store → Locals → Outcome)
      → ((s : Store) (l : Locals) → AgreeBelow n first l → Stays n first (turn s l))
      → (s : Store) (l : Locals) → AgreeBelow n first l → Stays n first (turns k test turn s l)
  unfolding turns
  turns-stay zero test turn h s l same = tt
  turns-stay (suc k) test turn h s l same =
      value-stays (test s l) (λ x. cond (is_true x.value) (and_on (turn s l) (turns k test turn)) (Falls s l))
      (λ x. cond-stays (is_true x.value) (and_on (turn s l) (turns k test turn)) (Falls s l)
      (on-stays (turn s l) (turns k test turn) (h s l same) (λ s l same. turns-stay k test turn h s l same)) same)

module _ (n : ℕ) (int : Width) (c : Calls) (k : ℕ) (first : Locals) where
  pub placed-stays : (a : Block) (s : Store) (l : Locals) → AgreeBelow n first l
      → Stays n first (outcome int c k (placed n a) s l)
  unfolding outcome placed
  placed-stays End s l same = same
  placed-stays (Set t i e a) s l same =
      value-stays n first (with_meaning (meaning int s l (placed_expr n e)) (λ x. converted t x.value))
      (λ y. outcome int c k (placed n a) s (with_local l t (n + i) y.value))
      (λ y. placed-stays a s (with_local l t (n + i) y.value) (put-above n first l t i y.value same))
  placed-stays (PutField f e a) s l same =
      value-stays n first
      (with_meaning (meaning int s l (placed_expr n e)) (λ x. brought_to (slice_get s.fields f) x.value))
      (λ y. outcome int c k (placed n a) (with_field s f y) l) (λ y. placed-stays a (with_field s f y) l same)
  placed-stays (StoreAt r i e a) s l same =
      value-stays n first (meaning int s l (placed_expr n i))
      (λ q. with_value (with_meaning (meaning int s l (placed_expr n e))
      (λ x. brought_to (element (slice_get s.rows r) q.value) x.value))
      (λ y. outcome int c k (placed n a) (with_element s r q.value y) l))
      (λ q. value-stays n first
      (with_meaning (meaning int s l (placed_expr n e))
      (λ x. brought_to (element (slice_get s.rows r) q.value) x.value))
      (λ y. outcome int c k (placed n a) (with_element s r q.value y) l)
      (λ y. placed-stays a (with_element s r q.value y) l same))
  placed-stays (Call t i f args a) s l same =
      values-stay n first int s l (placed_exprs n args)
      (λ xs. called (c f xs s) t (n + i) l (λ v m. outcome int c k (placed n a) v m))
      (λ xs. called-stays n first (c f xs s) t i l (λ v m. outcome int c k (placed n a) v m) same
      (λ v m same. placed-stays a v m same))
  placed-stays (Select t i e cases args a) s l same =
      value-stays n first (meaning int s l (placed_expr n e))
      (λ q. with_value (converted (promoted int q.type) q.value) (λ p. with_values int s l (placed_exprs n args) (λ xs.
      selected p.type p.value cases (λ f. called (c f xs s) t (n + i) l (λ v m. outcome int c k (placed n a) v m))
      (outcome int c k (placed n a) s l))))
      (λ q. value-stays n first (converted (promoted int q.type) q.value)
      (λ p. with_values int s l (placed_exprs n args) (λ xs.
      selected p.type p.value cases (λ f. called (c f xs s) t (n + i) l (λ v m. outcome int c k (placed n a) v m))
      (outcome int c k (placed n a) s l)))
      (λ p. values-stay n first int s l (placed_exprs n args)
      (λ xs. selected p.type p.value cases
      (λ f. called (c f xs s) t (n + i) l (λ v m. outcome int c k (placed n a) v m))
      (outcome int c k (placed n a) s l))
      (λ xs. selected-stays n first p.type p.value cases
      (λ f. called (c f xs s) t (n + i) l (λ v m. outcome int c k (placed n a) v m))
      (outcome int c k (placed n a) s l)
      (λ f. called-stays n first (c f xs s) t i l (λ v m. outcome int c k (placed n a) v m) same
      (λ v m same. placed-stays a v m same)) (placed-stays a s l same))))
  placed-stays (If e a b rest) s l same =
      value-stays n first (meaning int s l (placed_expr n e))
      (λ x. and_on (cond (is_true x.value) (outcome int c k (placed n a) s l) (outcome int c k (placed n b) s l))
      (λ v m. outcome int c k (placed n rest) v m))
      (λ x. on-stays n first
      (cond (is_true x.value) (outcome int c k (placed n a) s l) (outcome int c k (placed n b) s l))
      (λ v m. outcome int c k (placed n rest) v m)
      (cond-stays n first (is_true x.value) (outcome int c k (placed n a) s l) (outcome int c k (placed n b) s l)
      (placed-stays a s l same) (placed-stays b s l same)) (λ v m same. placed-stays rest v m same))
  placed-stays (While e a rest) s l same =
      on-stays n first
      (turns k (λ v m. meaning int v m (placed_expr n e)) (λ v m. outcome int c k (placed n a) v m) s l)
      (λ v m. outcome int c k (placed n rest) v m)
      (turns-stay n first k (λ v m. meaning int v m (placed_expr n e)) (λ v m. outcome int c k (placed n a) v m)
      (λ v m same. placed-stays a v m same) s l same) (λ v m same. placed-stays rest v m same)
  placed-stays (Return e) s l same =
      value-stays n first (meaning int s l (placed_expr n e)) (λ x. Returns s x) (λ x. tt)

pub others-are-as-before : OthersAreAsBefore
others-are-as-before n int calls k a s after l m e =
    subst (λ (o : Outcome). Stays n l o) e (placed-stays n int calls k l a s l (λ t i below. refl))
