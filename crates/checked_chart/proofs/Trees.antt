-- The children of a state of a tree, and the child towards a state.
use Rattle.std.proofs.Common.{◌≡◌, ℕ, zero, suc, ◌+◌, ◌≤◌, ◌<◌, List, [], ◌∷◌, Option, Some, Bool, true, false, cond}
use Rattle.std.proofs.Common.{refl, ap, ◌∙◌, sym, subst, arith}
use Rattle.std.specs.List.{AllByRecursion, filter, find, range_with_len}
use Rattle.active_config.specs.Tree.{Tree, IsTree, state_count, parent_of, is_child, children_below, children_of}
use Rattle.active_config.specs.Tree.{is_at_or_below}
use Rattle.active_config.proofs.ParentLemmas.{child_within}
use Rattle.active_config.proofs.PathLemmas.{parent_lt}
use Rattle.active_config.proofs.ChildLemmas.{parent_of_child}
use Rattle.checked_chart.specs.Homes.{child_toward}

-- x is a child of s
pub record IsChild (t : Tree) (s x : ℕ) : Type 0 where
  pub parent : parent_of t x ≡ Some s
  pub above : s < x
  pub within : x < state_count t

-- an item that is kept where a test holds has what follows from the test
all_cond : (P Q : ℕ → Type 0) (x : ℕ) (ys : List ℕ) (b : Bool)
    → P x → (b ≡ true → P x → Q x) → AllByRecursion Q ys → AllByRecursion Q (cond b (x ∷ ys) ys)
all_cond P Q x ys true h f a = (f refl h, a)
all_cond P Q x ys false h f a = a

-- what passes a test has what follows from it
all_filter : (p : ℕ → Bool) (P Q : ℕ → Type 0) (xs : List ℕ)
    → ((x : ℕ) → p x ≡ true → P x → Q x) → AllByRecursion P xs → AllByRecursion Q (filter p xs)
all_filter p P Q [] f a = tt
all_filter p P Q (x ∷ xs) f a = all_cond P Q x (filter p xs) (p x) a.0 (f x) (all_filter p P Q xs f a.1)

-- what each has, each has that follows from it
pub all_map : (P Q : ℕ → Type 0) (xs : List ℕ)
    → ((x : ℕ) → P x → Q x) → AllByRecursion P xs → AllByRecursion Q xs
all_map P Q [] f a = tt
all_map P Q (x ∷ xs) f a = (f x a.0, all_map P Q xs f a.1)

-- the first of a list with one item more is that item or one of the rest
find_cond : (p : ℕ → Bool) (P : ℕ → Type 0) (x y : ℕ) (o : Option ℕ) (b : Bool) → p x ≡ b → P x
    → (o ≡ Some y → (p y ≡ true) × P y) → cond b (Some x) o ≡ Some y → (p y ≡ true) × P y
find_cond p P x y o true q h f e = let e' : x ≡ y = cc in (ap p (sym e') ∙ q, subst P e' h)
find_cond p P x y o false q h f e = f e

-- what was found passes the test, and has what all have
pub find_all : (p : ℕ → Bool) (P : ℕ → Type 0) (xs : List ℕ) (y : ℕ)
    → AllByRecursion P xs → find p xs ≡ Some y → (p y ≡ true) × P y
find_all p P [] y a e = absurd cc
find_all p P (x ∷ xs) y a e = find_cond p P x y (find p xs) (p x) refl a.0 (find_all p P xs y a.1) e

-- the numbers of a range lie below its end
range_all : (a n m : ℕ) → a + n ≤ m → AllByRecursion (λ x. x < m) (range_with_len a n)
range_all a zero m k = tt
range_all a (suc n) m k = (omega arith, range_all (a + 1) n m (omega arith))

module _ (t : Tree) (tree : IsTree t) where
  -- a parent has a lower number than its child
  pub parent_below : (s x : ℕ) → parent_of t x ≡ Some s → s < x
  parent_below s x e = parent_lt t (state_count t) tree.pre_order x s (child_within t x s e) e

  -- a state whose parent is s is a child of s
  pub child_is : (s x : ℕ) → parent_of t x ≡ Some s → IsChild t s x
  child_is s x e = record { parent = e; above = parent_below s x e; within = child_within t x s e }

  -- the children of a state are
  pub children_are : (s : ℕ) → AllByRecursion (IsChild t s) (children_of t s)
  unfolding children_of children_below
  children_are s =
      all_filter (is_child t s) (λ x. x < state_count t) (IsChild t s) (range_with_len 0 (state_count t))
      (λ x e h. child_is s x (parent_of_child t s x e))
      (range_all 0 (state_count t) (state_count t) (omega arith))

  -- the child towards a state is a child, at or above that state
  pub toward_is_child : (s d x : ℕ) → child_toward t s d ≡ Some x → (is_at_or_below t d x ≡ true) × IsChild t s x
  unfolding child_toward
  toward_is_child s d x e =
      find_all (λ x. is_at_or_below t d x) (IsChild t s) (children_of t s) x (children_are s) e
