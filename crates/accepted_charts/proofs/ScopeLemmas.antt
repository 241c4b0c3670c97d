-- What a name means is there: the numbers that look-ups of names answer are in range.
use Rattle.std.proofs.Common.{◌≡◌, ℕ, zero, suc, ◌+◌, ◌<◌, List, [], ◌∷◌, length, Option, Some, None, Bool, true, false}
use Rattle.std.proofs.Common.{cond, ◌&&◌, refl, sym, ◌∙◌, subst, arith}
use Rattle.std.specs.Prelude.{Ok, bytes_eq, if◌then◌else◌}
use Rattle.std.specs.List.{find, range_with_len}
use Rattle.active_config.specs.Tree.{Tree, state_count, parent_of, is_child, children_of, children_below, ancestors}
use Rattle.active_config.specs.Tree.{IsTree}
use Rattle.active_config.proofs.ParentLemmas.{child_within}
use Rattle.active_config.proofs.RangeLemmas.{find-filter}
use Rattle.active_config.proofs.ChildLemmas.{parent_of_child}
use Rattle.chart_tree.specs.declared.name.NameText.{NameText}
use Rattle.chart_tree.specs.Trees.{Path}
use Rattle.chart_places.specs.Placed.{is_earlier}
use Rattle.chart_places.specs.Scopes.{Scopes, Event, Datum, is_named, child_named, or_else, named_in, state_named}
use Rattle.chart_places.specs.Scopes.{from_state, follow, state_at, is_junction_of, junction_named, junction_in}
use Rattle.chart_places.specs.Scopes.{junction_at, number_from, place_of, earlier_declared, meaning_of}

-- ---- searches

-- what a search finds passes its test
find-passes : (q : ℕ → Bool) (xs : List ℕ) (x : ℕ) → find q xs ≡ Some x → q x ≡ true
find-passes q [] x e = absurd cc
find-passes q (y ∷ ys) x e = at (q y) refl e (λ f. find-passes q ys x f)
  where
    at : (b : Bool) → q y ≡ b → cond b (Some y) (find q ys) ≡ Some x → (find q ys ≡ Some x → q x ≡ true) → q x ≡ true
    at true t e rest = let same : y ≡ x = cc in subst (λ z. q z ≡ true) same t
    at false t e rest = rest e

-- what a search of a range finds is of the range
pub find-range : (q : ℕ → Bool) (a n x : ℕ) → find q (range_with_len a n) ≡ Some x → x < a + n
find-range q a zero x e = absurd cc
find-range q a (suc n) x e = at (q a) e (λ f. find-range q (a + 1) n x f)
  where
    at : (b : Bool) → cond b (Some a) (find q (range_with_len (a + 1) n)) ≡ Some x
        → (find q (range_with_len (a + 1) n) ≡ Some x → x < a + 1 + n) → x < a + suc n
    at true e rest = let same : a ≡ x = cc in omega arith
    at false e rest = let low = rest e in omega arith

-- ---- events and data

-- the number of a name is that of one of the names
pub number_within : (n : ℕ) (xs : List NameText) (name : List ℕ) (k : ℕ) → number_from n xs name ≡ Some k
    → k < n + length xs
number_within n [] name k e = absurd cc
number_within n (x ∷ xs) name k e = at (bytes_eq x.text name) e (λ f. number_within (suc n) xs name k f)
  where
    at : (b : Bool) → (if b then Some n else number_from (suc n) xs name) ≡ Some k
        → (number_from (suc n) xs name ≡ Some k → k < suc n + length xs) → k < n + suc (length xs)
    at true e rest = let same : n ≡ k = cc in omega arith
    at false e rest = let low = rest e in omega arith

-- a name that means an event or a datum is one of them
earlier_event : (p : Scopes) (a b : Option ℕ) (e : ℕ) → earlier_declared p a b ≡ Some (Event e) → a ≡ Some e
earlier_event p None None e h = absurd cc
earlier_event p None (Some v) e h = absurd cc
earlier_event p (Some x) None e h = cc
earlier_event p (Some x) (Some v) e h = at (is_earlier (place_of p.vars v) (place_of p.events x)) h
  where
    at : (b : Bool) → (if b then Some (Datum v) else Some (Event x)) ≡ Some (Event e) → Some x ≡ Some e
    at true h = absurd cc
    at false h = cc

earlier_datum : (p : Scopes) (a b : Option ℕ) (v : ℕ) → earlier_declared p a b ≡ Some (Datum v) → b ≡ Some v
earlier_datum p None None v h = absurd cc
earlier_datum p None (Some x) v h = cc
earlier_datum p (Some e) None v h = absurd cc
earlier_datum p (Some e) (Some x) v h = at (is_earlier (place_of p.vars x) (place_of p.events e)) h
  where
    at : (b : Bool) → (if b then Some (Datum x) else Some (Event e)) ≡ Some (Datum v) → Some x ≡ Some v
    at true h = cc
    at false h = absurd cc

pub meaning_event : (p : Scopes) (name : List ℕ) (e : ℕ) → meaning_of p name ≡ Some (Event e)
    → number_from 0 p.events name ≡ Some e
unfolding meaning_of
meaning_event p name e h = earlier_event p (number_from 0 p.events name) (number_from 0 p.vars name) e h

pub meaning_datum : (p : Scopes) (name : List ℕ) (v : ℕ) → meaning_of p name ≡ Some (Datum v)
    → number_from 0 p.vars name ≡ Some v
unfolding meaning_of
meaning_datum p name v h = earlier_datum p (number_from 0 p.events name) (number_from 0 p.vars name) v h

-- ---- states

-- a state below the root
abbrev pub IsBelowRoot : Tree → ℕ → Type 0
IsBelowRoot t x = (0 < x) × (x < state_count t)

-- what has a parent is one
has_parent : (t : Tree) → IsTree t → (s x : ℕ) → parent_of t x ≡ Some s → IsBelowRoot t x
has_parent t tree s zero e = absurd (let root = tree.pre_order.root in cc)
has_parent t tree s (suc x) e = (omega arith, child_within t (suc x) s e)

module _ (p : Scopes) (tree : IsTree p.tree) where
  -- a child that is found
  child_below_root : (s : ℕ) (name : List ℕ) (x : ℕ) → child_named p s name ≡ Some x → IsBelowRoot p.tree x
  unfolding child_named children_of children_below
  child_below_root s name x e =
      let q = is_child p.tree s in
      let both = sym (find-filter (is_named p name) q (range_with_len 0 (state_count p.tree))) ∙ e in
      has_parent p.tree tree s x (parent_of_child p.tree s x (first_holds _ _
      (find-passes (λ y. q y && is_named p name y) (range_with_len 0 (state_count p.tree)) x both)))
    where
      first_holds : (a b : Bool) → (a && b) ≡ true → a ≡ true
      first_holds true b e = refl
      first_holds false b e = e

  -- a child of one of some states
  named_below_root : (name : List ℕ) (above : List ℕ) (x : ℕ) → named_in p name above ≡ Some x → IsBelowRoot p.tree x
  named_below_root name [] x e = absurd cc
  named_below_root name (s ∷ above) x e = at (child_named p s name) refl e (λ f. named_below_root name above x f)
    where
      at : (found : Option ℕ) → child_named p s name ≡ found → or_else found (named_in p name above) ≡ Some x
          → (named_in p name above ≡ Some x → IsBelowRoot p.tree x) → IsBelowRoot p.tree x
      at None is e rest = rest e
      at (Some y) is e rest = child_below_root s name x (is ∙ e)

  state_below_root : (s : ℕ) (name : List ℕ) (x : ℕ) → state_named p s name ≡ Some x → IsBelowRoot p.tree x
  unfolding state_named
  state_below_root s name x e = named_below_root name (s ∷ ancestors p.tree s) x e

  -- further names of a path
  follow_below_root : (s : ℕ) (names : Path) (x : ℕ) → IsBelowRoot p.tree s → follow p s names ≡ Ok x
      → IsBelowRoot p.tree x
  follow_below_root s [] x h e = let same : s ≡ x = cc in subst (IsBelowRoot p.tree) same h
  follow_below_root s (name ∷ names) x h e =
      at (child_named p s name.text) refl e (λ y below f. follow_below_root y names x below f)
    where
      at : (found : Option ℕ) → child_named p s name.text ≡ found
          → from_state found name.at (λ y. follow p y names) ≡ Ok x
          → ((y : ℕ) → IsBelowRoot p.tree y → follow p y names ≡ Ok x → IsBelowRoot p.tree x) → IsBelowRoot p.tree x
      at None is e rest = absurd cc
      at (Some y) is e rest = rest y (child_below_root s name.text y is) e

  -- a path with a name
  pub path_below_root : (s : ℕ) (name : NameText) (names : Path) (x : ℕ) → state_at p s (name ∷ names) ≡ Ok x
      → IsBelowRoot p.tree x
  path_below_root s name names x e = at (state_named p s name.text) refl e
    where
      at : (found : Option ℕ) → state_named p s name.text ≡ found
          → from_state found name.at (λ y. follow p y names) ≡ Ok x → IsBelowRoot p.tree x
      at None is e = absurd cc
      at (Some y) is e = follow_below_root y names x (state_below_root s name.text y is) e

-- ---- junctions

junction_in_within : (p : Scopes) (name above : List ℕ) (j : ℕ) → junction_in p name above ≡ Some j
    → j < length p.junctions
unfolding junction_named
junction_in_within p name [] j e = absurd cc
junction_in_within p name (s ∷ above) j e =
    at (junction_named p s name) refl e (λ f. junction_in_within p name above j f)
  where
    at : (found : Option ℕ) → junction_named p s name ≡ found → or_else found (junction_in p name above) ≡ Some j
        → (junction_in p name above ≡ Some j → j < length p.junctions) → j < length p.junctions
    at None is e rest = rest e
    at (Some y) is e rest =
        let low = find-range (is_junction_of p s name) 0 (length p.junctions) j (is ∙ e) in omega arith

-- a junction that is found is there
pub junction_within : (p : Scopes) (s : ℕ) (name : List ℕ) (j : ℕ) → junction_at p s name ≡ Some j
    → j < length p.junctions
unfolding junction_at
junction_within p s name j e = junction_in_within p name (s ∷ ancestors p.tree s) j e
