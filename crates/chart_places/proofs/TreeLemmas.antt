-- The tree of the states of a chart text is a tree in pre-order.
use Rattle.std.proofs.Common.{◌≡◌, ◌≢◌, ℕ, zero, suc, ◌+◌, ◌≤◌, ◌<◌, List, [], ◌∷◌, ◌++◌, map, length, get_or}
use Rattle.std.proofs.Common.{Option, Some, None, true, refl, sym, ap, ◌∙◌, subst, arith, inl, inr, length-append}
use Rattle.std.proofs.lemmas.Bool.{cases_lt}
use Rattle.std.proofs.lemmas.List.{length-map}
use Rattle.std.specs.Prelude.{◌⊎◌, IsTrue, IsSomeAnd, slice_get, if◌then◌else◌}
use Rattle.active_config.specs.declared.comp.Comp.TheVariants.{Leaf}
use Rattle.active_config.specs.Tree.{Tree, state_count, parent_of, comp_of, children_of, first_child, is_at_or_below}
use Rattle.active_config.specs.Tree.{IsPreOrder, LeavesAreChildless, IsTree}
use Rattle.active_config.proofs.ParentLemmas.{child_within}
use Rattle.active_config.proofs.PathLemmas.{Path, Here, Up, path_joins, of_path, is_at_or_below-same}
use Rattle.active_config.proofs.ChildLemmas.{children_of-none, first_child-next}
use Rattle.chart_tree.specs.declared.state.CompText.{CompText}
use Rattle.chart_tree.specs.declared.state.CompText.TheVariants as words
use Rattle.chart_tree.specs.Trees.{Parts, State, StateOf, States, NoState, MoreStates}
use Rattle.chart_places.specs.Placed.{Placed, is_any, placed_from, placed_below}
use Rattle.chart_places.specs.Placed.{placed_states, parent_comp, placed_comp, placed_tree}

-- ---- states of a tree

-- the states from number n on are these
abbrev pub Lie : Tree → ℕ → List Placed → Type 0
Lie t n [] = Unit {0}
Lie t n (p ∷ ps) = (parent_of t n ≡ p.parent) × (comp_of t n ≡ placed_comp p) × Lie t (suc n) ps

-- of states that follow one another the first ones and the others
pub lie_first : (t : Tree) (n : ℕ) (ps qs : List Placed) → Lie t n (ps ++ qs) → Lie t n ps
lie_first t n [] qs h = tt
lie_first t n (p ∷ ps) qs h = (h.0, h.1, lie_first t (suc n) ps qs h.2)

pub lie_rest : (t : Tree) (n : ℕ) (ps qs : List Placed) → Lie t n (ps ++ qs) → Lie t (n + length ps) qs
lie_rest t n [] qs h = subst (λ m. Lie t m qs) (let e : n ≡ n + 0 = omega arith in e) h
lie_rest t n (p ∷ ps) qs h =
    let e : suc n + length ps ≡ n + suc (length ps) = omega arith in
    subst (λ m. Lie t m qs) e (lie_rest t (suc n) ps qs h.2)

-- states whose parents and compositions are those of the tree
lie_at : (t : Tree) (n : ℕ) (ps : List Placed)
    → ((i : ℕ) → parent_of t (n + i) ≡ get_or (map (λ (p : Placed). p.parent) ps) i None)
    → ((i : ℕ) → comp_of t (n + i) ≡ get_or (map placed_comp ps) i Leaf) → Lie t n ps
lie_at t n [] parents comps = tt
lie_at t n (p ∷ ps) parents comps =
    let e : n + 0 ≡ n = omega arith in (
      subst (λ m. parent_of t m ≡ p.parent) e (parents 0),
      subst (λ m. comp_of t m ≡ placed_comp p) e (comps 0),
      lie_at t (suc n) ps
          (λ i. let f : suc n + i ≡ n + suc i = omega arith in ap (parent_of t) f ∙ parents (suc i))
          (λ i. let f : suc n + i ≡ n + suc i = omega arith in ap (comp_of t) f ∙ comps (suc i)),
    )

-- the placed states are those of their tree
pub all_lie : (ps : List Placed) → Lie (placed_tree ps) 0 ps
unfolding placed_tree parent_of comp_of
all_lie ps = lie_at (placed_tree ps) 0 ps
    (λ i. let e : 0 + i ≡ i = omega arith in ap (λ k. get_or (map (λ (p : Placed). p.parent) ps) k None) e)
    (λ i. let e : 0 + i ≡ i = omega arith in ap (λ k. get_or (map placed_comp ps) k Leaf) e)

-- as many as there are of them
pub placed_count : (ps : List Placed) → state_count (placed_tree ps) ≡ length ps
unfolding placed_tree state_count
placed_count ps = length-map ps (λ (p : Placed). p.parent)

placed_comps : (ps : List Placed) → length (placed_tree ps).comps ≡ length ps
unfolding placed_tree
placed_comps ps = length-map ps placed_comp

-- ---- the walk over the states

-- the state after j has a parent that is j or above it, and no leaf
pub record Follows (t : Tree) (j : ℕ) : Type 0 where
  pub parent : ℕ
  pub is_parent : parent_of t (suc j) ≡ Some parent
  pub path : Path t parent j
  pub no_leaf : comp_of t parent ≢ Leaf

-- state j is a leaf, or the parent of the next one
abbrev pub Closed : Tree → ℕ → Type 0
Closed t j = (comp_of t j ≡ Leaf) ⊎ (parent_of t (suc j) ≡ Some j)

-- what is found of states from number n on, of which the one before is m, and which end before state e
pub record Walked (t : Tree) (a m n e : ℕ) : Type 0 where
  pub follow : (j : ℕ) → m ≤ j → suc j < e → Follows t j
  pub closed : (j : ℕ) → n ≤ j → j < e → Closed t j
  pub last : (j : ℕ) → suc j ≡ e → Path t a j

-- the composition of a state with children is no leaf
parent_no_leaf : (word : CompText) → parent_comp word ≢ Leaf
parent_no_leaf words.None e = absurd cc
parent_no_leaf words.Or e = absurd cc
parent_no_leaf words.And e = absurd cc

-- a state with children isn't one
no_leaf_of : (t : Tree) (n : ℕ) (p : Placed) → comp_of t n ≡ placed_comp p → p.has_children ≡ true
    → comp_of t n ≢ Leaf
no_leaf_of t n p e some leaf =
    let f : placed_comp p ≡ parent_comp p.parts.comp
    = ap (λ b. if b then parent_comp p.parts.comp else Leaf) some in
    parent_no_leaf p.parts.comp (sym f ∙ sym e ∙ leaf)

-- the first of child states has that parent
first_parent : (t : Tree) (s n : ℕ) (x : State) (rest : List Placed)
    → Lie t n (placed_from (Some s) n x ++ rest) → parent_of t n ≡ Some s
first_parent t s n (StateOf parts below) rest h = h.0

-- a state without children is a leaf, and one with children is the parent of the next state
closed_here : (t : Tree) (n : ℕ) (parent : Option ℕ) (parts : Parts) (below : States)
    → Lie t n (placed_from parent n (StateOf parts below)) → Closed t n
closed_here t n parent parts NoState h = inl h.1
closed_here t n parent parts (MoreStates x rest) h = inr (first_parent t n (suc n) x _ h.2)

-- at least one state
from_some : (parent : Option ℕ) (n : ℕ) (x : State) → 0 < length (placed_from parent n x)
from_some parent n (StateOf parts below) = omega arith

-- what is closed from the next state on is closed from here on
closed_from : (t : Tree) (n e : ℕ) → Closed t n → ((j : ℕ) → suc n ≤ j → j < e → Closed t j) → (j : ℕ) → n ≤ j
    → j < e → Closed t j
closed_from t n e here rest j lo hi = at (cases_lt n j)
  where
    at : (n < j) ⊎ (j ≤ n) → Closed t j
    at (inl after) = rest j (omega arith) hi
    at (inr le) = let same : n ≡ j = omega arith in subst (Closed t) same here

-- the first child state, with the states below it, and the others
joined : (t : Tree) (s m n k e : ℕ) → suc m ≡ n → n < k → Follows t m → Walked t n n n k → (o : ℕ) → suc o ≡ k
    → Walked t s o k e → Walked t s m n e
joined t s m n k e next some here first o before others = record {
  follow = λ j lo hi. at j lo hi (cases_lt m j) (cases_lt j o);
  closed = λ j lo hi. closed_at j lo hi (cases_lt j k);
  last = others.last;
}
  where
    at : (j : ℕ) → m ≤ j → suc j < e → (m < j) ⊎ (j ≤ m) → (j < o) ⊎ (o ≤ j) → Follows t j
    at j lo hi (inr le) _ = let same : m ≡ j = omega arith in subst (Follows t) same here
    at j lo hi (inl after) (inl low) = first.follow j (omega arith) (omega arith)
    at j lo hi (inl after) (inr high) = others.follow j high hi

    closed_at : (j : ℕ) → n ≤ j → j < e → (j < k) ⊎ (k ≤ j) → Closed t j
    closed_at j lo hi (inl low) = first.closed j lo low
    closed_at j lo hi (inr high) = others.closed j high hi

mutual
  walk_from : (t : Tree) (parent : Option ℕ) (n : ℕ) (x : State) → Lie t n (placed_from parent n x)
      → Walked t n n n (n + length (placed_from parent n x))
  walk_from t parent n (StateOf parts below) h =
      let l = placed_below n (suc n) below in
      let e : suc n + length l ≡ n + suc (length l) = omega arith in
      let here : Placed = record { parent = parent; parts = parts; has_children = is_any below } in
      let w = walk_below t n n (suc n) below refl (Here refl) (no_leaf_of t n here h.1) h.2 in
      subst (Walked t n n n) e (record {
        follow = w.follow;
        closed = closed_from t n (suc n + length l) (closed_here t n parent parts below h) w.closed;
        last = w.last;
      })

  walk_below : (t : Tree) (s m n : ℕ) (xs : States) → suc m ≡ n → Path t s m → (is_any xs ≡ true → comp_of t s ≢ Leaf)
      → Lie t n (placed_below s n xs) → Walked t s m n (n + length (placed_below s n xs))
  walk_below t s m n NoState next path some h = record {
    follow = λ j lo hi. absurd (omega arith);
    closed = λ j lo hi. absurd (omega arith);
    last = λ j e. let f : m ≡ j = omega arith in subst (Path t s) f path;
  }
  walk_below t s m n (MoreStates x rest) next path some h =
      let l = placed_from (Some s) n x in
      let k = n + length l in
      let more = placed_below s k rest in
      let pos = from_some (Some s) n x in
      let first = walk_from t (Some s) n x (lie_first t n l more h) in
      let up : parent_of t n ≡ Some s = first_parent t s n x more h in
      let o = m + length l in
      let before : suc o ≡ k = omega arith in
      let down : Path t s o = path_joins t s n o (first.last o before) (Up s up (Here refl)) in
      let others = walk_below t s o k rest before down (λ _. some refl) (lie_rest t n l more h) in
      let here : Follows t m = record {
        parent = s;
        is_parent = ap (parent_of t) next ∙ up;
        path = path;
        no_leaf = some refl;
      } in
      let e : k + length more ≡ n + length (l ++ more) = omega (arith, length-append l more) in
      subst (Walked t s m n) e (joined t s m n k (k + length more) next (omega arith) here first o before others)

-- what is found of all states
pub walk_all : (root : State)
    → Walked (placed_tree (placed_states root)) 0 0 0 (state_count (placed_tree (placed_states root)))
unfolding placed_states
walk_all root =
    let ps = placed_from None 0 root in
    let e : 0 + length ps ≡ state_count (placed_tree ps) = omega (arith, placed_count ps) in
    subst (Walked (placed_tree ps) 0 0 0) e (walk_from (placed_tree ps) None 0 root (all_lie ps))

-- ---- a tree

-- states each of which follows are in pre-order
order_of : (t : Tree) → parent_of t 0 ≡ None → (n : ℕ) → ((j : ℕ) → suc j < n → Follows t j) → IsPreOrder t n
order_of t none zero follow = record { root = none; others = λ s lt. absurd (omega arith) }
order_of t none (suc n) follow =
    let before : IsPreOrder t n = order_of t none n (λ j lt. follow j (omega arith)) in
    record { root = none; others = λ s lt. at s lt before (cases_lt (s + 1) n) }
  where
    placed : (s p : ℕ) → parent_of t (s + 1) ≡ Some p → is_at_or_below t s p ≡ true
        → IsSomeAnd (parent_of t (s + 1)) (λ p. IsTrue (is_at_or_below t s p))
    placed s p e h = subst (λ o. IsSomeAnd o (λ p. IsTrue (is_at_or_below t s p))) (sym e) h

    reached : (s : ℕ) → s < n → IsPreOrder t n → Follows t s → is_at_or_below t s s ≡ true
    reached s lt before f = is_at_or_below-same t s s refl

    at : (s : ℕ) → s + 1 < suc n → IsPreOrder t n → (s + 1 < n) ⊎ (n ≤ s + 1)
        → IsSomeAnd (parent_of t (s + 1)) (λ p. IsTrue (is_at_or_below t s p))
    at s lt before (inl low) = before.others s low
    at s lt before (inr high) =
        let f = follow s (omega arith) in
        let e : s + 1 ≡ suc s = omega arith in
        placed s f.parent (ap (parent_of t) e ∙ f.is_parent) (of_path t n before s f.parent (omega arith) f.path)

-- the root has no parent
root_parent : (root : State) → parent_of (placed_tree (placed_states root)) 0 ≡ None
unfolding placed_states
root_parent root = at root _ (all_lie (placed_from None 0 root))
  where
    at : (x : State) (t : Tree) → Lie t 0 (placed_from None 0 x) → parent_of t 0 ≡ None
    at (StateOf parts below) t h = h.0

-- a state without children has no first child
no_first : (t : Tree) (s : ℕ) → children_of t s ≡ [] → first_child t s ≡ Some (suc s) → ⊥
unfolding first_child
no_first t s none first = let f = ap (λ l. slice_get l 0) none in cc

-- a tree of placed states, exactly the leaves of which have no children
placed_leaves : (t : Tree) → IsPreOrder t (state_count t) → Walked t 0 0 0 (state_count t) → LeavesAreChildless t
placed_leaves t order w s lt = (childless, leaf)
  where
    childless : comp_of t s ≡ Leaf → children_of t s ≡ []
    childless is = children_of-none t order s (λ low up.
        let f = w.follow s (omega arith) low in
        let same : f.parent ≡ s = let g = f.is_parent in cc in
        f.no_leaf (ap (comp_of t) same ∙ is))

    leaf : children_of t s ≡ [] → comp_of t s ≡ Leaf
    leaf none = at (w.closed s (omega arith) lt)
      where
        at : Closed t s → comp_of t s ≡ Leaf
        at (inl is) = is
        at (inr up) = absurd (no_first t s none (first_child-next t order s (child_within t (suc s) s up) up))

-- there is at least one state
some_states : (root : State) → 0 < state_count (placed_tree (placed_states root))
unfolding placed_states
some_states root = omega (arith, placed_count (placed_from None 0 root), from_some None 0 root)

-- the states of a chart text are a tree
pub placed_tree_is_tree : (root : State) → IsTree (placed_tree (placed_states root))
placed_tree_is_tree root =
    let ps = placed_states root in
    let t = placed_tree ps in
    let w = walk_all root in
    let order = order_of t (root_parent root) (state_count t) (λ j lt. w.follow j (omega arith) lt) in
    record {
      some = some_states root;
      same_length = placed_comps ps ∙ sym (placed_count ps);
      pre_order = order;
      leaves = placed_leaves t order w;
    }
