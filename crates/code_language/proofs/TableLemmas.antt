-- What is tested of the tables, as lists of the code have it.
use Rattle.std.proofs.Common.{◌≡◌, ◌≢◌, ℕ, suc, ◌+◌, ◌<◌, ◌≤◌, ◌&&◌, Bool, true, false, cond, ℤ, List, []}
use Rattle.std.proofs.Common.{◌∷◌, length, map, drop, get_or, Option, Some, None, is_some, refl, sym, ap, ◌∙◌, subst}
use Rattle.std.proofs.Common.{arith}
use Rattle.std.specs.Prelude.{IsSomeAnd, is_none, slice_index_or, unwrap_or, Result, Ok, Err, IfOk, OnOk}
use Rattle.std.specs.List.{list_all}
use Rattle.std.proofs.lemmas.Bool.{and_parts}
use Rattle.std.proofs.lemmas.List.{get_or-map, get_or_past, length-map}
use Rattle.fixed_point.proofs.Floors.{is_whole-raised}
use Rattle.fixed_point.specs.Numbers.{is_whole}
use Rattle.fixed_point.specs.Scales.{is_in_range, exact_mantissa}
use Rattle.fixed_point.specs.declared.num.Num.{Num}
use Rattle.fixed_point.specs.declared.scale.Scale.{Scale}
use Rattle.active_config.specs.declared.comp.Comp.{Comp}
use Rattle.active_config.specs.declared.comp.Comp.TheVariants.{Leaf}
use Rattle.active_config.specs.Tree.{Tree, IsTree, tree_of, parents_of, parent_of, comp_of, state_count, ancestors}
use Rattle.active_config.specs.Tree.{is_or}
use Rattle.active_config.proofs.PathLemmas.{parent_lt, ancestors-step, ancestors-root}
use Rattle.actions.proofs.SizeLemmas.{floored_at_own}
use Rattle.code_language.specs.declared.code.RawState.{RawState}
use Rattle.code_language.specs.Acceptance.{has_parents, parent_or_0, comp_written}
use Rattle.code_language.specs.Code.{tree_of_states}

-- ---- first values

-- something where the test holds
some_if : (b : Bool) (m : ℤ) → is_some (cond b (Some m) None) ≡ b
some_if true m = refl
some_if false m = refl

-- a mantissa at the scale's own fraction is exact where it is in range
pub exact_in_range : (scale : Scale) (m : ℤ)
    → is_some (exact_mantissa (record { mantissa = m; frac = scale.frac }) scale) ≡ is_in_range scale m
unfolding exact_mantissa
exact_in_range scale m =
    let n : Num = record { mantissa = m; frac = scale.frac } in
    ap (λ (z : ℤ). is_some (cond (is_whole n scale.frac && is_in_range scale z) (Some z) None)) (floored_at_own m scale.frac)
    ∙ ap (λ (b : Bool). is_some (cond (b && is_in_range scale m) (Some m) None)) (is_whole-raised n scale.frac (omega arith))
    ∙ some_if (is_in_range scale m) m

-- ---- parents

-- a parent that is there
some_parent : (o : Option ℕ) → is_some o ≡ true → o ≡ Some (unwrap_or o 0)
some_parent None h = absurd (cc h)
some_parent (Some p) h = refl

-- and one that is not
no_parent : (o : Option ℕ) → is_none o ≡ true → o ≡ None
no_parent None h = refl
no_parent (Some p) h = absurd (cc h)

-- parents that are there are the numbers
parents_some : (states : List RawState) → list_all (λ (s : RawState). is_some s.parent) states ≡ true
    → map (λ (s : RawState). s.parent) states ≡ map Some (map parent_or_0 states)
parents_some [] h = refl
parents_some (s ∷ rest) h =
    let both = and_parts (is_some s.parent) _ h in
    ap (λ o. o ∷ map (λ (s : RawState). s.parent) rest) (some_parent s.parent both.0)
    ∙ ap (λ l. Some (parent_or_0 s) ∷ l) (parents_some rest both.1)

-- where the first state has no parent and every other one has one, the tree is that of the numbers
pub tree_written : (states : List RawState) → has_parents states ≡ true
    → tree_of (map parent_or_0 states) (map comp_written states) ≡ tree_of_states states
unfolding tree_of
tree_written [] h = absurd (cc h)
tree_written (s ∷ rest) h =
    let both = and_parts (is_none s.parent) _ h in
    let same : parents_of (map parent_or_0 (s ∷ rest)) ≡ map (λ (s : RawState). s.parent) (s ∷ rest) =
    ap (λ l. None ∷ l) (sym (parents_some rest both.1))
    ∙ ap (λ o. o ∷ map (λ (s : RawState). s.parent) rest) (sym (no_parent s.parent both.0)) in
    ap (λ (ps : List (Option ℕ)). tree_with ps (map comp_written (s ∷ rest))) same
  where
    tree_with : List (Option ℕ) → List Comp → Tree
    tree_with ps cs = record { parents = ps; comps = cs }

-- what is known of a parent is of one that is there
some_of : (o : Option ℕ) (P : ℕ → Type 0) → IsSomeAnd o P → is_some o ≡ true
some_of None P h = absurd h
some_of (Some p) P h = refl

-- each of the states has one
all_some : (rest : List RawState)
    → ((s : ℕ) → s < length rest → is_some (slice_index_or (map (λ (s : RawState). s.parent) rest) s None) ≡ true)
    → list_all (λ (s : RawState). is_some s.parent) rest ≡ true
all_some [] h = refl
all_some (x ∷ rest) h =
    ap (λ b. b && list_all (λ (s : RawState). is_some s.parent) rest) (h 0 (omega arith))
    ∙ all_some rest (λ s lt. h (suc s) (omega arith))

-- no parent
none_none : (o : Option ℕ) → o ≡ None → is_none o ≡ true
none_none None h = refl
none_none (Some p) h = absurd (cc h)

-- in a tree the first state has no parent, and every other one has one
pub tree_parents : (states : List RawState) → IsTree (tree_of_states states) → has_parents states ≡ true
unfolding state_count parent_of
tree_parents [] h = absurd (let some = h.some in omega arith)
tree_parents (x ∷ rest) h =
    let t = tree_of_states (x ∷ rest) in
    let first : is_none x.parent ≡ true = none_none x.parent h.pre_order.root in
    let others = all_some rest (λ s lt.
    let on : s + 1 ≡ suc s = omega arith in
    let within : s + 1 < length (map (λ (s : RawState). s.parent) (x ∷ rest)) =
    omega (arith, length-map rest (λ (s : RawState). s.parent)) in
    subst (λ k. is_some (slice_index_or (map (λ (s : RawState). s.parent) (x ∷ rest)) k None) ≡ true) on
    (some_of _ _ (h.pre_order.others s within))) in
    ap (λ b. b && list_all (λ (s : RawState). is_some s.parent) rest) first ∙ others

-- ---- depths

-- one step up
pub depth_step : (t : Tree) (s p d : ℕ) → IsTree t → s < state_count t → parent_of t s ≡ Some p
    → d + length (ancestors t s) ≡ d + 1 + length (ancestors t p)
depth_step t s p d h lt e =
    let up = ap length (ancestors-step t (state_count t) h.pre_order s p lt e) in omega (arith, up)

-- a parent stands before the state
pub parent_below : (t : Tree) (s p : ℕ) → IsTree t → s < state_count t → parent_of t s ≡ Some p → p < s
parent_below t s p h lt e = parent_lt t (state_count t) h.pre_order s p lt e

-- the root has no ancestors
pub depth_end : (t : Tree) (s : ℕ) → parent_of t s ≡ None → length (ancestors t s) ≡ 0
depth_end t s e = ap length (ancestors-root t s e)

-- where there is no parent
pub none_where : {X : Type 0} (o : Option X) → ((p : X) → o ≢ Some p) → o ≡ None
none_where None h = refl
none_where (Some p) h = absurd (h p refl)

-- the first state and the others
pub has_parents_first : (xs : List RawState) (x : RawState) → 1 ≤ length xs → x ≡ get_or xs 0 x
    → has_parents xs ≡ (is_none x.parent && list_all (λ (s : RawState). is_some s.parent) (drop 1 xs))
has_parents_first [] x le is = absurd (omega arith)
has_parents_first (y ∷ ys) x le is =
    ap (λ (z : RawState). is_none z.parent && list_all (λ (s : RawState). is_some s.parent) ys) (sym is)

-- ---- the shape that is made of the two lists

-- where the lists are those of the states, they give the tree of the states
tree_by : (states : List RawState) (parents : List ℕ) (comps : List Comp) → has_parents states ≡ true
    → parents ≡ map parent_or_0 states → comps ≡ map comp_written states → tree_of parents comps ≡ tree_of_states states
tree_by states parents comps h p c =
    ap (λ l. tree_of l comps) p ∙ ap (tree_of (map parent_or_0 states)) c ∙ tree_written states h

-- so a shape is that of the states
pub shape_ok : {E : Type 0} (states : List RawState) (parents : List ℕ) (comps : List Comp) (r : Result Tree E)
    → has_parents states ≡ true → parents ≡ map parent_or_0 states → comps ≡ map comp_written states
    → IfOk r (λ shape. shape ≡ tree_of parents comps) → OnOk r (IsTree (tree_of parents comps))
    → IfOk r (λ shape. (shape ≡ tree_of_states states) × IsTree shape)
shape_ok states parents comps (Ok t) h p c e tree =
    (e ∙ tree_by states parents comps h p c, subst IsTree (sym e) tree)
shape_ok states parents comps (Err x) h p c e tree = tt

-- and without a shape the states are no tree
pub shape_err : (states : List RawState) (parents : List ℕ) (comps : List Comp)
    → has_parents states ≡ true → parents ≡ map parent_or_0 states → comps ≡ map comp_written states
    → ¬ IsTree (tree_of parents comps) → ¬ IsTree (tree_of_states states)
shape_err states parents comps h p c none tree = none (subst IsTree (sym (tree_by states parents comps h p c)) tree)

-- how the state at a place is composed, as the tree says
pub comp_there : (states items : List RawState) (i : ℕ) (s : RawState) → items ≡ states → i < length items
    → s ≡ get_or items i s → s.comp ≡ comp_of (tree_of_states states) i
unfolding comp_of
comp_there states items i s e lt at =
    ap (λ (x : RawState). x.comp) at ∙ sym (get_or-map (λ (x : RawState). x.comp) items i s Leaf lt)
    ∙ ap (λ l. get_or (map (λ (x : RawState). x.comp) l) i Leaf) e

-- a number that is no state is no OR
pub comp_past : (states items : List RawState) (i : ℕ) → items ≡ states → length items ≤ i
    → false ≡ is_or (comp_of (tree_of_states states) i)
unfolding comp_of
comp_past states items i e past =
    let comps = map (λ (x : RawState). x.comp) items in
    let beyond : length comps ≤ i = omega (arith, length-map items (λ (x : RawState). x.comp)) in
    sym (ap is_or (get_or_past comps i Leaf beyond))
    ∙ ap (λ l. is_or (get_or (map (λ (x : RawState). x.comp) l) i Leaf)) e
