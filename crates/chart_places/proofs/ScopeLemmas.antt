-- What tables of names answer is what the names mean.
use Rattle.std.proofs.Common.{◌≡◌, ℕ, zero, suc, ◌+◌, ◌<◌, List, [], ◌∷◌, length, map, get_or, Option}
use Rattle.std.proofs.Common.{Some, None, Bool, true, false, cond, refl, sym, ap, ◌∙◌, subst, arith}
use Rattle.std.proofs.Common.{◌&&◌, nat_eq}
use Rattle.std.specs.Prelude.{bytes_eq, slice_get, IfSome}
use Rattle.std.specs.List.{AllByRecursion, find, range_with_len}
use Rattle.std.specs.Option.{option_eq, option_map_or, option_map, unwrap_or}
use Rattle.std.proofs.lemmas.Bool.{eqb-true, eq-eqb}
use Rattle.std.proofs.lemmas.List.{length-map}
use Rattle.std.proofs.lemmas.Option.{slice_get-map, get_or_from_slice_get}
use Rattle.std.proofs.lemmas.Slice.Eq.{bytes_eq-Decides}
use Rattle.active_config.specs.Tree.{Tree, IsTree, state_count, parent_of, is_child}
use Rattle.active_config.specs.Tree.{children_below, children_of, ancestors}
use Rattle.active_config.proofs.RangeLemmas.{find-filter}
use Rattle.checked_chart.proofs.Walks.{and_above, parent_and_above}
use Rattle.chart_tree.specs.declared.name.NameText.{NameText}
use Rattle.chart_places.specs.Scopes.{JunctionName, Scopes, or_else, is_named, child_named}
use Rattle.chart_places.specs.Scopes.{named_in, state_named, is_junction_of, junction_named}
use Rattle.chart_places.specs.Scopes.{junction_in, junction_at, number_from, place_of, nowhere}
use Rattle.chart_places.specs.Tables.{Declared, is_declared, declared_from, declared_in, names_in}
use Rattle.chart_places.specs.Tables.{owners_in, junction_entry, scopes_seen, IsOwned, IsFree, AreTables}

-- ---- tests from both sides

flip : (f : Bool) (g : Bool) → (f ≡ true → g ≡ true) → (g ≡ true → f ≡ true) → f ≡ g
flip true g to from = sym (to refl)
flip false true to from = from refl
flip false false to from = refl

pub bytes_eq-flip : (p q : List ℕ) → bytes_eq p q ≡ bytes_eq q p
bytes_eq-flip p q =
    flip (bytes_eq p q) (bytes_eq q p)
    (λ e. (bytes_eq-Decides q p).1 (sym ((bytes_eq-Decides p q).0 e)))
    (λ e. (bytes_eq-Decides p q).1 (sym ((bytes_eq-Decides q p).0 e)))

nat_eq-flip : (x y : ℕ) → nat_eq x y ≡ nat_eq y x
nat_eq-flip x y =
    flip (nat_eq x y) (nat_eq y x) (λ e. eq-eqb y x (sym (eqb-true x y e))) (λ e. eq-eqb x y (sym (eqb-true y x e)))

-- ---- the first number that passes a test

-- a search among numbers is one among names, where the test of a number is that of its name
pub find-declared : (test : ℕ → Bool) (n : ℕ) (ds : List Declared) (o : Option ℕ) (q : List ℕ)
    → ((k : ℕ) (d : Declared) → slice_get ds k ≡ Some d → test (n + k) ≡ is_declared o q d)
    → find test (range_with_len n (length ds)) ≡ declared_from n ds o q
find-declared test n [] o q h = refl
find-declared test n (d ∷ ds) o q h =
    let here : n ≡ n + 0 = omega arith in
    let next : n + 1 ≡ suc n = omega arith in
    ap (λ (b : Bool). cond b (Some n) (find test (range_with_len (n + 1) (length ds)))) (ap test here ∙ h 0 d refl)
    ∙ ap (λ (r : Option ℕ). cond (is_declared o q d) (Some n) r)
    (ap (λ (m : ℕ). find test (range_with_len m (length ds))) next
    ∙ find-declared test (suc n) ds o q
    (λ k e f. let same : suc n + k ≡ n + suc k = omega arith in ap test same ∙ h (suc k) e f))

-- ---- states

parent_test : (s : ℕ) (o : Option ℕ) → option_map_or (λ (p : ℕ). nat_eq p s) o false ≡ option_eq nat_eq (Some s) o
parent_test s None = refl
parent_test s (Some p) = nat_eq-flip p s

-- the test of a child by its number is that of its entry
child_test : (p : Scopes) (ds : List Declared) → owners_in ds ≡ p.tree.parents → p.states ≡ names_in ds
    → (s : ℕ) (q : List ℕ) (k : ℕ) (d : Declared) → slice_get ds k ≡ Some d
    → (is_child p.tree s (0 + k) && is_named p q (0 + k)) ≡ is_declared (Some s) q d
unfolding is_child parent_of
child_test p ds parents names s q k d at =
    let same : 0 + k ≡ k = omega arith in
    let owner : get_or p.tree.parents k None ≡ d.owner =
    ap (λ (os : List (Option ℕ)). get_or os k None) (sym parents)
    ∙ get_or_from_slice_get (owners_in ds) k d.owner None
    (slice_get-map (λ (e : Declared). e.owner) ds k ∙ ap (option_map (λ (e : Declared). e.owner)) at) in
    let name : slice_get p.states k ≡ Some d.name =
    ap (λ (ns : List NameText). slice_get ns k) names
    ∙ slice_get-map (λ (e : Declared). e.name) ds k ∙ ap (option_map (λ (e : Declared). e.name)) at in
    ap (λ (m : ℕ). is_child p.tree s m && is_named p q m) same
    ∙ ap (λ (o : Option ℕ). option_map_or (λ (x : ℕ). nat_eq x s) o false && is_named p q k) owner
    ∙ ap (λ (o : Option NameText). option_map_or (λ (x : ℕ). nat_eq x s) d.owner false
    && option_map_or (λ (n : NameText). bytes_eq n.text q) o false) name
    ∙ ap (λ (b : Bool). b && bytes_eq d.name.text q) (parent_test s d.owner)
    ∙ ap (λ (b : Bool). option_eq nat_eq (Some s) d.owner && b) (bytes_eq-flip d.name.text q)

-- the children of a state have their names in the table
child_named-table : (p : Scopes) (ds : List Declared) → owners_in ds ≡ p.tree.parents → p.states ≡ names_in ds
    → (s : ℕ) (q : List ℕ) → declared_from 0 ds (Some s) q ≡ child_named p s q
unfolding child_named children_of children_below state_count
child_named-table p ds parents names s q =
    let count : length ds ≡ length p.tree.parents =
    sym (length-map ds (λ (e : Declared). e.owner)) ∙ ap length parents in
    sym (find-filter (is_named p q) (is_child p.tree s) (range_with_len 0 (length p.tree.parents))
    ∙ ap (λ (n : ℕ). find (λ (x : ℕ). is_child p.tree s x && is_named p q x) (range_with_len 0 n)) (sym count)
    ∙ find-declared (λ (x : ℕ). is_child p.tree s x && is_named p q x) 0 ds (Some s) q
    (child_test p ds parents names s q))

-- the first child that has the name, of the first of some states that has one
named_in-table : (p : Scopes) (ds : List Declared) → owners_in ds ≡ p.tree.parents → p.states ≡ names_in ds
    → (q ss : List ℕ) → declared_in ds q ss ≡ named_in p q ss
named_in-table p ds parents names q [] = refl
named_in-table p ds parents names q (s ∷ ss) =
    ap (λ (o : Option ℕ). or_else o (declared_in ds q ss)) (child_named-table p ds parents names s q)
    ∙ ap (or_else (child_named p s q)) (named_in-table p ds parents names q ss)

-- ---- junctions

owned_at : (ds : List Declared) → AllByRecursion IsOwned ds → (k : ℕ) (d : Declared) → slice_get ds k ≡ Some d
    → IsOwned d
owned_at [] h k d e = absurd cc
owned_at (x ∷ xs) h zero d e = let same : x ≡ d = cc in subst IsOwned same h.0
owned_at (x ∷ xs) h (suc k) d e = owned_at xs h.1 k d e

junction_test : (p : Scopes) (ds : List Declared) → AllByRecursion IsOwned ds → p.junctions ≡ map junction_entry ds
    → (s : ℕ) (q : List ℕ) (k : ℕ) (d : Declared) → slice_get ds k ≡ Some d
    → is_junction_of p s q (0 + k) ≡ is_declared (Some s) q d
junction_test p ds owned names s q k d at =
    let same : 0 + k ≡ k = omega arith in
    let entry : slice_get p.junctions k ≡ Some (junction_entry d) =
    ap (λ (ns : List JunctionName). slice_get ns k) names
    ∙ slice_get-map junction_entry ds k ∙ ap (option_map junction_entry) at in
    ap (is_junction_of p s q) same
    ∙ ap (λ (o : Option JunctionName). option_map_or
    (λ (x : JunctionName). nat_eq x.owner s && bytes_eq x.name.text q) o false) entry
    ∙ ap (λ (b : Bool). b && bytes_eq d.name.text q) (nat_eq-flip (unwrap_or d.owner 0) s)
    ∙ ap (λ (b : Bool). nat_eq s (unwrap_or d.owner 0) && b) (bytes_eq-flip d.name.text q)
    ∙ ap (λ (o : Option ℕ). option_eq nat_eq (Some s) o && bytes_eq q d.name.text) (sym (owned_at ds owned k d at))

junction_named-table : (p : Scopes) (ds : List Declared) → AllByRecursion IsOwned ds
    → p.junctions ≡ map junction_entry ds → (s : ℕ) (q : List ℕ)
    → declared_from 0 ds (Some s) q ≡ junction_named p s q
unfolding junction_named
junction_named-table p ds owned names s q =
    let count : length ds ≡ length p.junctions =
    sym (length-map ds junction_entry) ∙ ap length (sym names) in
    sym (ap (λ (n : ℕ). find (is_junction_of p s q) (range_with_len 0 n)) (sym count)
    ∙ find-declared (is_junction_of p s q) 0 ds (Some s) q (junction_test p ds owned names s q))

junction_in-table : (p : Scopes) (ds : List Declared) → AllByRecursion IsOwned ds
    → p.junctions ≡ map junction_entry ds → (q ss : List ℕ) → declared_in ds q ss ≡ junction_in p q ss
junction_in-table p ds owned names q [] = refl
junction_in-table p ds owned names q (s ∷ ss) =
    ap (λ (o : Option ℕ). or_else o (declared_in ds q ss)) (junction_named-table p ds owned names s q)
    ∙ ap (or_else (junction_named p s q)) (junction_in-table p ds owned names q ss)

-- ---- events and data

number_from-table : (n : ℕ) (ds : List Declared) → AllByRecursion IsFree ds → (q : List ℕ)
    → declared_from n ds None q ≡ number_from n (names_in ds) q
number_from-table n [] free q = refl
number_from-table n (d ∷ ds) free q =
    ap (λ (o : Option ℕ). cond (option_eq nat_eq None o && bytes_eq q d.name.text) (Some n) (declared_from (suc n) ds None q)) free.0
    ∙ ap (λ (b : Bool). cond b (Some n) (declared_from (suc n) ds None q)) (bytes_eq-flip q d.name.text)
    ∙ ap (λ (r : Option ℕ). cond (bytes_eq d.name.text q) (Some n) r) (number_from-table (suc n) ds free.1 q)

-- ---- the tables of a chart

module _ (t : Tree) (states junctions events vars : List Declared) (tables : AreTables t states junctions events vars) where
  pub child_named-seen : (s : ℕ) (q : List ℕ)
      → declared_from 0 states (Some s) q ≡ child_named (scopes_seen t states junctions events vars) s q
  child_named-seen s q =
      child_named-table (scopes_seen t states junctions events vars) states tables.parents refl s q

  pub state_named-seen : (s : ℕ) (q : List ℕ)
      → declared_in states q (s ∷ ancestors t s) ≡ state_named (scopes_seen t states junctions events vars) s q
  unfolding state_named
  state_named-seen s q =
      named_in-table (scopes_seen t states junctions events vars) states tables.parents refl q (s ∷ ancestors t s)

  pub junction_named-seen : (s : ℕ) (q : List ℕ)
      → declared_from 0 junctions (Some s) q ≡ junction_named (scopes_seen t states junctions events vars) s q
  junction_named-seen s q =
      junction_named-table (scopes_seen t states junctions events vars) junctions tables.owned refl s q

  pub junction_at-seen : (s : ℕ) (q : List ℕ)
      → declared_in junctions q (s ∷ ancestors t s) ≡ junction_at (scopes_seen t states junctions events vars) s q
  unfolding junction_at
  junction_at-seen s q =
      junction_in-table (scopes_seen t states junctions events vars) junctions tables.owned refl q (s ∷ ancestors t s)

  pub event-seen : (q : List ℕ) → declared_from 0 events None q ≡ number_from 0 (names_in events) q
  event-seen q = number_from-table 0 events tables.free_events q

  pub var-seen : (q : List ℕ) → declared_from 0 vars None q ≡ number_from 0 (names_in vars) q
  var-seen q = number_from-table 0 vars tables.free_vars q

-- a number of a name is one of the names
pub number_from-before : (n : ℕ) (names : List NameText) (q : List ℕ)
    → IfSome (number_from n names q) (λ (x : ℕ). x < n + length names)
number_from-before n [] q = tt
number_from-before n (x ∷ xs) q = go (bytes_eq x.text q) (number_from-before (suc n) xs q)
  where
    weaken : (o : Option ℕ) → IfSome o (λ (x : ℕ). x < suc n + length xs)
        → IfSome o (λ (x : ℕ). x < n + suc (length xs))
    weaken None h = tt
    weaken (Some x) h = omega arith

    go : (b : Bool) → IfSome (number_from (suc n) xs q) (λ (x : ℕ). x < suc n + length xs)
        → IfSome (cond b (Some n) (number_from (suc n) xs q)) (λ (x : ℕ). x < n + suc (length xs))
    go true h = omega arith
    go false h = weaken (number_from (suc n) xs q) h

pub number_from-within : (names : List NameText) (q : List ℕ) (o : Option ℕ) → o ≡ number_from 0 names q
    → IfSome o (λ (x : ℕ). x < length names)
number_from-within names q o e =
    let same : 0 + length names ≡ length names = omega arith in
    subst (λ (m : ℕ). IfSome o (λ (x : ℕ). x < m)) same
    (subst (λ (r : Option ℕ). IfSome r (λ (x : ℕ). x < 0 + length names)) (sym e) (number_from-before 0 names q))

-- ---- up the tree

-- a state that has the name ends the search
pub nearest_found : (ds : List Declared) (q : List ℕ) (a : ℕ) (ss : List ℕ) (x : ℕ)
    → declared_from 0 ds (Some a) q ≡ Some x → declared_in ds q (a ∷ ss) ≡ Some x
nearest_found ds q a ss x e = ap (λ (o : Option ℕ). or_else o (declared_in ds q ss)) e

-- a state that hasn't is passed over
pub nearest_next : (t : Tree) → IsTree t → (ds : List Declared) (q : List ℕ) (a : ℕ) (next : Option ℕ)
    → declared_from 0 ds (Some a) q ≡ None → next ≡ parent_of t a
    → declared_in ds q (a ∷ ancestors t a) ≡ declared_in ds q (and_above t next)
nearest_next t tree ds q a next none up =
    ap (λ (o : Option ℕ). or_else o (declared_in ds q (ancestors t a))) none
    ∙ ap (declared_in ds q) (parent_and_above t tree a next up)

-- a number below one that is in range is in range
pub within_below : (o : Option ℕ) (a n : ℕ) → IfSome o (λ (x : ℕ). x < a) → a < n → (x : ℕ) → o ≡ Some x → x < n
within_below None a n h lt x e = absurd cc
within_below (Some y) a n h lt x e = let same : y ≡ x = cc in omega arith

-- ---- the place of a name

pub place-seen : (ds : List Declared) (k : ℕ) (d : Declared) → slice_get ds k ≡ Some d
    → d.name.at ≡ place_of (names_in ds) k
place-seen ds k d at =
    sym (ap (λ (o : Option NameText). option_map_or (λ (x : NameText). x.at) o nowhere)
    (slice_get-map (λ (e : Declared). e.name) ds k ∙ ap (option_map (λ (e : Declared). e.name)) at))
