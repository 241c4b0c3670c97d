-- Walks over the children of a state, and up from a state, as loops make them.
use Rattle.std.proofs.Common.{◌≡◌, ◌≢◌, ℕ, ◌+◌, ◌-◌, ◌≤◌, ◌<◌, List, [], ◌∷◌, Option, Some, None, Bool, true, false}
use Rattle.std.proofs.Common.{cond, refl, sym, ap, ◌∙◌, subst, arith, ◌&&◌, inl, inr}
use Rattle.std.specs.Prelude.{◌⊎◌, IfSome}
use Rattle.std.specs.List.{AllByRecursion, find, filter, last_or, range_with_len}
use Rattle.active_config.specs.Tree.{Tree, IsTree, state_count, parent_of, first_child, next_sibling, last_child}
use Rattle.active_config.specs.Tree.{prev_sibling, children_of, children_below, children_from, children_back_from}
use Rattle.active_config.specs.Tree.{ancestors, is_below, is_at_or_below, is_child}
use Rattle.active_config.proofs.ParentLemmas.{child_within}
use Rattle.active_config.proofs.PathLemmas.{Path, Here, Up, path_of, ancestors-step, ancestors-root, is_below-step}
use Rattle.active_config.proofs.PathLemmas.{is_below-root, is_at_or_below-same, is_at_or_below-other}
use Rattle.active_config.proofs.RangeLemmas.{find-filter}
use Rattle.active_config.proofs.TableLemmas.{same_or_other}
use Rattle.active_config.proofs.ChildLemmas.{child_of_parent, parent_of_child, prev_sibling-child}
use Rattle.active_config.proofs.SiblingLemmas.{is_none, children_of-from, children_from-next, children_back_from-prev}
use Rattle.active_config.proofs.SiblingLemmas.{first_is_child, next_is_child}
use Rattle.checked_chart.specs.Homes.{child_toward, common_above}
use Rattle.checked_chart.proofs.Trees.{IsChild, parent_below, child_is, all_map, children_are, toward_is_child}

-- the last item has what all items have, or what the default has where there is none
last_all : (P : ℕ → Type 0) (xs : List ℕ) (o : Option ℕ) (y : ℕ) → AllByRecursion P xs → ((z : ℕ) → o ≡ Some z → P z)
    → last_or o xs ≡ Some y → P y
last_all P [] o y a b e = b y e
last_all P (x ∷ xs) o y a b e = last_all P xs (Some x) y a.1 (λ z f. let g : x ≡ z = cc in subst P g a.0) e

-- what all items have, all have also with one more item that passed a test
all_cond : (P : ℕ → Type 0) (x : ℕ) (ys : List ℕ) (b : Bool) → (b ≡ true → P x) → AllByRecursion P ys
    → AllByRecursion P (cond b (x ∷ ys) ys)
all_cond P x ys true h a = (h refl, a)
all_cond P x ys false h a = a

-- what follows from a test holds of all items that pass it
all_passing : (p : ℕ → Bool) (P : ℕ → Type 0) (xs : List ℕ) → ((x : ℕ) → p x ≡ true → P x)
    → AllByRecursion P (filter p xs)
all_passing p P [] f = tt
all_passing p P (x ∷ xs) f = all_cond P x (filter p xs) (p x) (f x) (all_passing p P xs f)

-- where a walk over the children of a state stands: at one of them, or after them all
pub record Stands (t : Tree) (s : ℕ) (o : Option ℕ) : Type 0 where
  pub child : (x : ℕ) → o ≡ Some x → IsChild t s x

-- how far it is to the end, and to the beginning
abbrev pub ahead : Tree → Option ℕ → ℕ
ahead t None = 0
ahead t (Some x) = state_count t - x

abbrev pub behind : Option ℕ → ℕ
behind None = 0
behind (Some x) = x + 1

module _ (t : Tree) (tree : IsTree t) where
  -- a walk forwards begins at the first child
  pub stands_first : (s : ℕ) (o : Option ℕ) → o ≡ first_child t s → Stands t s o
  stands_first s o e = record { child = λ x f. child_is t tree s x (first_is_child t s x (sym e ∙ f)) }

  -- a walk forwards goes on to the next sibling
  pub stands_next : (s x : ℕ) (o o' : Option ℕ) → o ≡ Some x → Stands t s o → o' ≡ next_sibling t x → Stands t s o'
  stands_next s x o o' is h e = record {
    child = λ y f. child_is t tree s y (next_is_child t s x y (h.child x is).parent (sym e ∙ f));
  }

  -- the children below a number have s as their parent
  below_are : (s limit : ℕ) → AllByRecursion (λ x. parent_of t x ≡ Some s) (children_below t s limit)
  unfolding children_below
  below_are s limit =
      all_passing (is_child t s) (λ x. parent_of t x ≡ Some s) (range_with_len 0 limit) (parent_of_child t s)

  -- a walk backwards begins at the last child
  pub stands_last : (s : ℕ) (o : Option ℕ) → o ≡ last_child t s → Stands t s o
  unfolding last_child children_of
  stands_last s o e = record {
    child = λ x f.
        child_is t tree s x (last_all (λ x. parent_of t x ≡ Some s) (children_below t s (state_count t)) None x
        (below_are s (state_count t)) (λ z g. absurd cc) (sym e ∙ f));
  }

  -- a walk backwards goes on to the previous sibling
  pub stands_prev : (s x : ℕ) (o o' : Option ℕ) → o ≡ Some x → Stands t s o → o' ≡ prev_sibling t x → Stands t s o'
  stands_prev s x o o' is h e = record {
    child = λ y f.
        child_is t tree s y (last_all (λ x. parent_of t x ≡ Some s) (children_below t s x) None y (below_are s x)
        (λ z g. absurd cc) (sym (prev_sibling-child t s x (h.child x is).parent) ∙ sym e ∙ f));
  }

-- the walk goes on
pub ahead_falls : (t : Tree) (x : ℕ) (o o' : Option ℕ) → o ≡ Some x → x < state_count t
    → IfSome o' (λ y. (x < y) × (y < state_count t)) → ahead t o' < ahead t o
ahead_falls t x o o' e lt h = subst (λ o. ahead t o' < ahead t o) (sym e) (at o' h)
  where
    at : (o' : Option ℕ) → IfSome o' (λ y. (x < y) × (y < state_count t)) → ahead t o' < state_count t - x
    at None h = omega arith
    at (Some y) h = let a = h.0 in let b = h.1 in omega arith

-- the walk back goes on
pub behind_falls : (x : ℕ) (o o' : Option ℕ) → o ≡ Some x → IfSome o' (λ y. y < x) → behind o' < behind o
behind_falls x o o' e h = subst (λ o. behind o' < behind o) (sym e) (at o' h)
  where
    at : (o' : Option ℕ) → IfSome o' (λ y. y < x) → behind o' < x + 1
    at None h = omega arith
    at (Some y) h = omega arith

-- the children from where a walk stands
pub from_none : (t : Tree) (s : ℕ) (o : Option ℕ) → o ≡ None → children_from t s o ≡ []
unfolding children_from
from_none t s o e = ap (children_from t s) e

-- the children back from where a walk stands
pub back_none : (t : Tree) (s : ℕ) (o : Option ℕ) → o ≡ None → children_back_from t s o ≡ []
unfolding children_back_from
back_none t s o e = ap (children_back_from t s) e

-- the first of the children from where a walk stands is that one
pub from_some : (t : Tree) (s x : ℕ) (o o' : Option ℕ) → o ≡ Some x → Stands t s o → o' ≡ next_sibling t x
    → children_from t s o ≡ x ∷ children_from t s o'
from_some t s x o o' is h e =
    ap (children_from t s) is ∙ children_from-next t s x (h.child x is).parent
    ∙ ap (λ r. x ∷ children_from t s r) (sym e)

-- the first of the children back from where a walk stands is that one
pub back_some : (t : Tree) (s x : ℕ) (o o' : Option ℕ) → o ≡ Some x → Stands t s o → o' ≡ prev_sibling t x
    → children_back_from t s o ≡ x ∷ children_back_from t s o'
back_some t s x o o' is h e =
    ap (children_back_from t s) is ∙ children_back_from-prev t s x (h.child x is).parent
    ∙ ap (λ r. x ∷ children_back_from t s r) (sym e)

-- ---- the first child that passes a test

-- nothing before where the walk stands passes
pub record Seeks (t : Tree) (s : ℕ) (p : ℕ → Bool) (o : Option ℕ) : Type 0 where
  pub stands : Stands t s o
  pub same : find p (children_of t s) ≡ find p (children_from t s o)

module _ (t : Tree) (tree : IsTree t) (s : ℕ) (p : ℕ → Bool) where
  -- the search begins at the first child
  pub seeks_first : (o : Option ℕ) → o ≡ first_child t s → Seeks t s p o
  seeks_first o e = record {
    stands = stands_first t tree s o e;
    same = ap (find p) (children_of-from t s ∙ ap (children_from t s) (sym e));
  }

  -- a child that passes is the one that is sought
  pub seeks_found : (x : ℕ) (o : Option ℕ) → o ≡ Some x → Seeks t s p o → p x ≡ true → Some x ≡ find p (children_of t s)
  seeks_found x o is h e =
      sym (h.same ∙ ap (find p) (from_some t s x o (next_sibling t x) is h.stands refl)
      ∙ ap (λ c. cond c (Some x) (find p (children_from t s (next_sibling t x)))) e)

  -- a child that fails is passed over
  pub seeks_next : (x : ℕ) (o o' : Option ℕ) → o ≡ Some x → Seeks t s p o → p x ≡ false → o' ≡ next_sibling t x
      → Seeks t s p o'
  seeks_next x o o' is h e f = record {
    stands = stands_next t tree s x o o' is h.stands f;
    same =
        h.same ∙ ap (find p) (from_some t s x o o' is h.stands f)
        ∙ ap (λ c. cond c (Some x) (find p (children_from t s o'))) e;
  }

  -- no child passes
  pub seeks_none : (o : Option ℕ) → o ≡ None → Seeks t s p o → None ≡ find p (children_of t s)
  seeks_none o is h = sym (h.same ∙ ap (find p) (from_none t s o is))

-- ---- the first state above that passes a test

-- a state and those above it
abbrev pub and_above : Tree → Option ℕ → List ℕ
and_above t None = []
and_above t (Some a) = a ∷ ancestors t a

-- the states above s are its parent and those above it
pub parent_and_above : (t : Tree) → IsTree t → (s : ℕ) (o : Option ℕ) → o ≡ parent_of t s
    → ancestors t s ≡ and_above t o
parent_and_above t tree s None e = ancestors-root t s (sym e)
parent_and_above t tree s (Some p) e =
    ancestors-step t (state_count t) tree.pre_order s p (child_within t s p (sym e)) (sym e)

pub record Climbs (t : Tree) (s : ℕ) (p : ℕ → Bool) (o : Option ℕ) : Type 0 where
  pub within : (a : ℕ) → o ≡ Some a → a < state_count t
  pub same : find p (ancestors t s) ≡ find p (and_above t o)

-- a parent is a state
parent_within : (t : Tree) (tree : IsTree t) (x : ℕ) (o : Option ℕ) → o ≡ parent_of t x → (a : ℕ) → o ≡ Some a
    → a < state_count t
parent_within t tree x o e a f =
    let up = sym e ∙ f in let low = parent_below t tree a x up in let in_tree = child_within t x a up in omega arith

module _ (t : Tree) (tree : IsTree t) (s : ℕ) (p : ℕ → Bool) where
  -- the climb begins at the parent
  pub climbs_first : (o : Option ℕ) → o ≡ parent_of t s → Climbs t s p o
  climbs_first o e = record { within = parent_within t tree s o e; same = ap (find p) (parent_and_above t tree s o e) }

  -- a state that passes is the one that is sought
  pub climbs_found : (a : ℕ) (o : Option ℕ) → o ≡ Some a → Climbs t s p o → p a ≡ true → Some a ≡ find p (ancestors t s)
  climbs_found a o is h e =
      sym (h.same ∙ ap (λ o. find p (and_above t o)) is ∙ ap (λ c. cond c (Some a) (find p (ancestors t a))) e)

  -- a state that fails is passed over
  pub climbs_next : (a : ℕ) (o o' : Option ℕ) → o ≡ Some a → Climbs t s p o → p a ≡ false → o' ≡ parent_of t a
      → Climbs t s p o'
  climbs_next a o o' is h e f = record {
    within = parent_within t tree a o' f;
    same =
        h.same ∙ ap (λ o. find p (and_above t o)) is ∙ ap (λ c. cond c (Some a) (find p (ancestors t a))) e
        ∙ ap (find p) (parent_and_above t tree a o' f);
  }

  -- no state above passes
  pub climbs_none : (o : Option ℕ) → o ≡ None → Climbs t s p o → None ≡ find p (ancestors t s)
  climbs_none o is h = sym (h.same ∙ ap (λ o. find p (and_above t o)) is)

-- the test of the common state above two
pub below_is : (t : Tree) (s d : ℕ) → find (is_below t d) (ancestors t s) ≡ common_above t s d
unfolding common_above is_below
below_is t s d = refl

-- a tree has a state
pub tree_some : (t : Tree) → IsTree t → 0 < state_count t
tree_some t tree = tree.some

-- ---- up from a state to the child of another

-- two tests that agree find the same
find_same : (p q : ℕ → Bool) (xs : List ℕ) → AllByRecursion (λ y. p y ≡ q y) xs → find p xs ≡ find q xs
find_same p q [] a = refl
find_same p q (x ∷ xs) a =
    ap (λ b. cond b (Some x) (find p xs)) a.0 ∙ ap (λ r. cond (q x) (Some x) r) (find_same p q xs a.1)

-- a test that fails everywhere finds nothing
find_none : (p : ℕ → Bool) (xs : List ℕ) → AllByRecursion (λ y. p y ≡ false) xs → find p xs ≡ None
find_none p [] a = refl
find_none p (x ∷ xs) a = ap (λ b. cond b (Some x) (find p xs)) a.0 ∙ find_none p xs a.1

-- a state on the path up from x has no higher number than x
path_le : (t : Tree) → IsTree t → (a x : ℕ) → Path t a x → a ≤ x
path_le t tree a x (Here e) = omega arith
path_le t tree a x (Up p e r) = let h = path_le t tree a p r in let lt = parent_below t tree p x e in omega arith

module _ (t : Tree) (tree : IsTree t) (s : ℕ) where
  -- x is at or below another state just where its parent is
  stepped : (x p y : ℕ) → parent_of t x ≡ Some p → x ≢ y → is_at_or_below t x y ≡ is_at_or_below t p y
  stepped x p y e ne =
      is_at_or_below-other t x y ne ∙ is_below-step t (state_count t) tree.pre_order x p y (child_within t x p e) e

  -- towards a state whose parent isn't s leads the same child of s as towards its parent
  pub climb_next : (x p : ℕ) → parent_of t x ≡ Some p → p ≢ s → child_toward t s x ≡ child_toward t s p
  unfolding child_toward
  climb_next x p e ne =
      find_same (λ y. is_at_or_below t x y) (λ y. is_at_or_below t p y) (children_of t s)
      (all_map (IsChild t s) _ (children_of t s) (λ y i. stepped x p y e
      (λ f. let g : parent_of t x ≡ Some s = ap (parent_of t) f ∙ i.parent in let h : p ≡ s = cc in ne h))
      (children_are t tree s))

  -- there is no child towards the root
  pub climb_root : (x : ℕ) → parent_of t x ≡ None → child_toward t s x ≡ None
  unfolding child_toward
  climb_root x e =
      find_none (λ y. is_at_or_below t x y) (children_of t s)
      (all_map (IsChild t s) _ (children_of t s) (λ y i.
      is_at_or_below-other t x y (λ f. let g : parent_of t x ≡ Some s = ap (parent_of t) f ∙ i.parent in absurd cc)
      ∙ is_below-root t x y e) (children_are t tree s))

  -- a child that is above x is x
  only : (x z : ℕ) → parent_of t x ≡ Some s → is_at_or_below t x z ≡ true → s < z → (x ≡ z) ⊎ (x ≢ z) → x ≡ z
  only x z e h lt (inl f) = f
  only x z e h lt (inr ne) =
      absurd (let k = path_le t tree z s (path_of t s z (sym (stepped x s z e ne) ∙ h)) in omega arith)

  -- there is a child of s towards each child of s
  never : (x : ℕ) → parent_of t x ≡ Some s → child_toward t s x ≡ None → ⊥
  unfolding child_toward children_of children_below
  never x e f =
      let h =
      is_none (λ y. is_child t s y && is_at_or_below t x y) 0 (state_count t)
      (sym (find-filter (λ y. is_at_or_below t x y) (is_child t s) (range_with_len 0 (state_count t))) ∙ f) x
      (omega arith) (let k = child_within t x s e in omega arith) in
      let a = child_of_parent t s x e in let b = is_at_or_below-same t x x refl in cc

  -- the child towards a child is that child
  pub climb_found : (x : ℕ) → parent_of t x ≡ Some s → child_toward t s x ≡ Some x
  climb_found x e = at (child_toward t s x) refl
    where
      at : (o : Option ℕ) → child_toward t s x ≡ o → child_toward t s x ≡ Some x
      at None f = absurd (never x e f)
      at (Some z) f =
          let i = toward_is_child t tree s x z f in
          f ∙ ap (λ y. Some y) (sym (only x z e i.0 i.1.above (same_or_other x z)))
