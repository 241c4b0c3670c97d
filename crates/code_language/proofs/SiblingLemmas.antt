-- Siblings have different names exactly where no two states have the same parent and the same name.
use Rattle.std.proofs.Common.{◌≡◌, ℕ, suc, ◌+◌, ◌<◌, ◌||◌, ◌&&◌, not, Bool, true, false, cond, List, [], ◌∷◌, ◌++◌}
use Rattle.std.proofs.Common.{length, map, Option, Some, None, is_some, refl, sym, ap, ◌∙◌, subst, arith}
use Rattle.std.proofs.Common.{append_assoc, length-append}
use Rattle.std.specs.Prelude.{◌==◌, nat_eq, IsTrue, IsSomeAnd, slice_index_or, bytes_eq}
use Rattle.std.specs.List.{filter, list_any, range_with_len, AllByRecursion}
use Rattle.std.specs.Option.{option_eq, option_map_or}
use Rattle.std.proofs.lemmas.Bool.{and_parts, not-true, not_from_false, and_from}
use Rattle.std.proofs.lemmas.Bool.Decides.{nat_tests}
use Rattle.std.proofs.lemmas.List.{length-map, map-append}
use Rattle.flow_base.specs.Names.{index_of, after, are_distinct}
use Rattle.active_config.specs.Tree.{IsTree, state_count, parent_of, is_at_or_below, is_child, children_below}
use Rattle.active_config.specs.Tree.{children_of}
use Rattle.code_language.specs.declared.code.RawState.{RawState}
use Rattle.code_language.specs.Acceptance.{is_same, state_named, has_no_twins, written_name, HasSiblings}
use Rattle.code_language.specs.Code.{tree_of_states}
use Rattle.code_language.proofs.TableLemmas.{parent_below}

-- whether a parent is that state
abbrev is_under : ℕ → Option ℕ → Bool
is_under s o = option_map_or (λ p. p == s) o false

-- the names of the states below a state
abbrev names_under : ℕ → List RawState → List (List ℕ)
names_under s [] = []
names_under s (x ∷ xs) = cond (is_under s x.parent) (x.name ∷ names_under s xs) (names_under s xs)

-- ---- one state and those after it

-- a later state has the same parent and the same name
abbrev has_twin : RawState → List RawState → Bool
has_twin x later = list_any (λ y. is_same y (state_named x)) (map state_named later)

-- a place counted on from one more name is there where the place is
some_after : (o : Option ℕ) → is_some (after o) ≡ is_some o
some_after None = refl
some_after (Some n) = refl

some_found : (same : Bool) (o : Option ℕ) (t : Bool) → is_some o ≡ t
    → is_some (cond same (Some 0) (after o)) ≡ (same || t)
some_found true o t h = refl
some_found false o t h = some_after o ∙ h

-- one that is under the state is found, or a later one
found_step : (under : Bool) (name other : List ℕ) (ns : List (List ℕ)) (t : Bool) → is_some (index_of name ns) ≡ t
    → is_some (index_of name (cond under (other ∷ ns) ns)) ≡ ((under && bytes_eq other name) || t)
found_step true name other ns t h = some_found (bytes_eq other name) (index_of name ns) t h
found_step false name other ns t h = h

-- the same parent as one that has it
same_under : (o : Option ℕ) (q : ℕ) → option_eq nat_eq o (Some q) ≡ is_under q o
same_under None q = refl
same_under (Some p) q = refl

-- a state has a twin where its name is among those under its parent
twin_is : (x : RawState) (q : ℕ) (later : List RawState) → x.parent ≡ Some q
    → is_some (index_of x.name (names_under q later)) ≡ has_twin x later
twin_is x q [] e = refl
twin_is x q (y ∷ later) e =
    found_step (is_under q y.parent) x.name y.name (names_under q later) _ (twin_is x q later e)
    ∙ ap (λ b. (b && bytes_eq y.name x.name) || has_twin x later) (sym (same_under y.parent q)
    ∙ ap (option_eq nat_eq y.parent) (sym e))

-- ---- no twins, so names under each state differ

-- numbers that pass the test are the same
is_it : (p q : ℕ) → (p == q) ≡ true → p ≡ q
is_it p q h = grind (arith, nat_tests)

-- and the same number passes it
self : (q : ℕ) → (q == q) ≡ true
self q = grind (arith, nat_tests)

-- a state under another has it as its parent
under_parent : (s : ℕ) (o : Option ℕ) → is_under s o ≡ true → o ≡ Some s
under_parent s None h = absurd (cc h)
under_parent s (Some p) h = ap Some (is_it p s h)

-- a state without a twin has a name of its own
distinct_by : (s : ℕ) (x : RawState) (later : List RawState) (under : Bool) → is_under s x.parent ≡ under
    → has_twin x later ≡ false → are_distinct (names_under s later) ≡ true
    → are_distinct (cond under (x.name ∷ names_under s later) (names_under s later)) ≡ true
distinct_by s x later true u t d =
    and_from _ _ (not_from_false _ (twin_is x s later (under_parent s x.parent u) ∙ t)) d
distinct_by s x later false u t d = d

-- so names under each state differ
distinct_under : (s : ℕ) (xs : List RawState) → has_no_twins xs ≡ true → are_distinct (names_under s xs) ≡ true
distinct_under s [] h = refl
distinct_under s (x ∷ later) h =
    let both = and_parts (not (has_twin x later)) _ h in
    distinct_by s x later (is_under s x.parent) refl (not-true _ both.0) (distinct_under s later both.1)

-- ---- and back

-- each of the states has a parent below n
abbrev HaveParents : ℕ → List RawState → Type 0
HaveParents n xs = AllByRecursion (λ (x : RawState). IsSomeAnd x.parent (λ p. p < n)) xs

-- where names under each state differ a state has no twin
no_twin_at : (n : ℕ) (x : RawState) (later : List RawState) (o : Option ℕ) → x.parent ≡ o → IsSomeAnd o (λ p. p < n)
    → ((s : ℕ) → s < n → are_distinct (names_under s (x ∷ later)) ≡ true) → has_twin x later ≡ false
no_twin_at n x later None e h d = absurd h
no_twin_at n x later (Some q) e h d =
    let under : is_under q x.parent ≡ true = ap (is_under q) e ∙ self q in
    let here : are_distinct (x.name ∷ names_under q later) ≡ true =
    ap (λ b. are_distinct (cond b (x.name ∷ names_under q later) (names_under q later))) (sym under) ∙ d q h in
    sym (twin_is x q later e) ∙ not-true _ (and_parts (not (is_some (index_of x.name (names_under q later)))) _ here).0

-- what is distinct stays so without the first
distinct_rest : (under : Bool) (name : List ℕ) (ns : List (List ℕ)) → are_distinct (cond under (name ∷ ns) ns) ≡ true
    → are_distinct ns ≡ true
distinct_rest true name ns h = (and_parts (not (is_some (index_of name ns))) _ h).1
distinct_rest false name ns h = h

-- so no state has one
no_twins_of : (n : ℕ) (xs : List RawState) → HaveParents n xs
    → ((s : ℕ) → s < n → are_distinct (names_under s xs) ≡ true) → has_no_twins xs ≡ true
no_twins_of n [] h d = refl
no_twins_of n (x ∷ later) h d =
    and_from _ _ (not_from_false _ (no_twin_at n x later x.parent refl h.0 d))
    (no_twins_of n later h.1 (λ s lt. distinct_rest (is_under s x.parent) x.name (names_under s later) (d s lt)))

-- the first state has no parent, so it has no twin among states that have one
no_twin_first : (n : ℕ) (x : RawState) (later : List RawState) → x.parent ≡ None → HaveParents n later
    → has_twin x later ≡ false
no_twin_first n x [] e h = refl
no_twin_first n x (y ∷ later) e h =
    ap (λ b. (b && bytes_eq y.name x.name) || has_twin x later) (other y.parent x.parent e h.0)
    ∙ no_twin_first n x later e h.1
  where
    other : (o p : Option ℕ) → p ≡ None → IsSomeAnd o (λ q. q < n) → option_eq nat_eq o p ≡ false
    other None p e h = absurd h
    other (Some q) None e h = refl
    other (Some q) (Some r) e h = absurd (cc e)

-- ---- the children of a state, by number and by their list

-- the entry after others
entry_at : {X : Type 0} (front : List X) (x : X) (back : List X) (d : X)
    → slice_index_or (front ++ x ∷ back) (length front) d ≡ x
entry_at [] x back d = refl
entry_at (y ∷ front) x back d = entry_at front x back d

-- the same test and the same rest
cond_same : (b c : Bool) (name : List ℕ) (ns ms : List (List ℕ)) → b ≡ c → ns ≡ ms
    → cond b (name ∷ ns) ns ≡ cond c (name ∷ ms) ms
cond_same true true name ns ms e h = ap (λ l. name ∷ l) h
cond_same false false name ns ms e h = h
cond_same true false name ns ms e h = absurd (cc e)
cond_same false true name ns ms e h = absurd (cc e)

-- what is mapped by a test
mapped_cond : (b : Bool) (f : ℕ → List ℕ) (k : ℕ) (ks : List ℕ)
    → map f (cond b (k ∷ ks) ks) ≡ cond b (f k ∷ map f ks) (map f ks)
mapped_cond true f k ks = refl
mapped_cond false f k ks = refl

-- the names of the children among the last states are those under the state
names_from : (states : List RawState) (s : ℕ) (front back : List RawState) (k : ℕ) → states ≡ front ++ back
    → k ≡ length front
    → map (written_name states) (filter (is_child (tree_of_states states) s) (range_with_len k (length back))) ≡ names_under s back
unfolding is_child parent_of
names_from states s front [] k e at = refl
names_from states s front (x ∷ back) k e at =
    let parents = map (λ (y : RawState). y.parent) in
    let names = map (λ (y : RawState). y.name) in
    let place : slice_index_or (parents states) k None ≡ x.parent =
    ap (λ l. slice_index_or (parents l) k None) e
    ∙ ap (λ l. slice_index_or l k None) (map-append (λ (y : RawState). y.parent) front (x ∷ back))
    ∙ ap (λ i. slice_index_or (parents front ++ x.parent ∷ parents back) i None) (at
    ∙ sym (length-map front (λ (y : RawState). y.parent)))
    ∙ entry_at (parents front) x.parent (parents back) None in
    let called : written_name states k ≡ x.name =
    ap (λ l. slice_index_or (names l) k []) e
    ∙ ap (λ l. slice_index_or l k []) (map-append (λ (y : RawState). y.name) front (x ∷ back))
    ∙ ap (λ i. slice_index_or (names front ++ x.name ∷ names back) i []) (at
    ∙ sym (length-map front (λ (y : RawState). y.name)))
    ∙ entry_at (names front) x.name (names back) [] in
    let next = names_from states s (front ++ x ∷ []) back (k + 1) (e ∙ sym (append_assoc front (x ∷ []) back))
    (omega (arith, at, length-append front (x ∷ []))) in
    let ks = filter (is_child (tree_of_states states) s) (range_with_len (k + 1) (length back)) in
    mapped_cond (is_child (tree_of_states states) s k) (written_name states) k ks
    ∙ ap (λ n. cond (is_child (tree_of_states states) s k) (n ∷ map (written_name states) ks) (map (written_name states) ks)) called
    ∙ cond_same _ _ x.name _ _ (ap (λ o. option_map_or (λ p. p == s) o false) place) next

-- the names of the children are those under the state
names_of_children : (states : List RawState) (s : ℕ)
    → map (written_name states) (children_of (tree_of_states states) s) ≡ names_under s states
unfolding children_of children_below state_count
names_of_children states s =
    ap (λ n. map (written_name states) (filter (is_child (tree_of_states states) s) (range_with_len 0 n))) (length-map states (λ (y : RawState). y.parent))
    ∙ names_from states s [] states 0 refl refl

-- ---- both ways

-- without twins siblings have different names
pub siblings_differ : (states : List RawState) → has_no_twins states ≡ true → HasSiblings states
siblings_differ states h s lt = ap are_distinct (names_of_children states s) ∙ distinct_under s states h

-- the states after the first have parents below so many
parents_of_rest : (n : ℕ) (rest : List RawState)
    → ((s : ℕ) → s < length rest
    → IsSomeAnd (slice_index_or (map (λ (y : RawState). y.parent) rest) s None) (λ p. p < n))
    → HaveParents n rest
parents_of_rest n [] h = tt
parents_of_rest n (x ∷ rest) h = (h 0 (omega arith), parents_of_rest n rest (λ s lt. h (suc s) (omega arith)))

-- a parent that is known to be below
some_below : (o : Option ℕ) (P : ℕ → Type 0) (n : ℕ) → IsSomeAnd o P → ((p : ℕ) → o ≡ Some p → p < n)
    → IsSomeAnd o (λ p. p < n)
some_below None P n h k = absurd h
some_below (Some p) P n h k = k p refl

-- where siblings have different names there are no twins
pub no_twins : (states : List RawState) → IsTree (tree_of_states states) → HasSiblings states
    → has_no_twins states ≡ true
unfolding state_count parent_of
no_twins [] tree h = refl
no_twins (x ∷ rest) tree h =
    let t = tree_of_states (x ∷ rest) in
    let n = state_count t in
    let counted : n ≡ suc (length rest) = ap suc (length-map rest (λ (y : RawState). y.parent)) in
    let below : HaveParents n rest = parents_of_rest n rest (λ s lt.
    let on : s + 1 ≡ suc s = omega arith in
    let within : s + 1 < n = omega arith in
    let some = subst (λ k. IsSomeAnd (parent_of t k) (λ p. IsTrue (is_at_or_below t s p))) on (tree.pre_order.others s within) in
    some_below (parent_of t (suc s)) (λ p. IsTrue (is_at_or_below t s p)) n some (λ p e.
    let low = parent_below t (suc s) p tree (omega arith) e in omega arith)) in
    let distinct = λ (s : ℕ) (lt : s < n). sym (ap are_distinct (names_of_children (x ∷ rest) s)) ∙ h s lt in
    and_from _ _ (not_from_false _ (no_twin_first n x rest tree.pre_order.root below))
    (no_twins_of n rest below (λ s lt. distinct_rest (is_under s x.parent) x.name (names_under s rest) (distinct s lt)))
