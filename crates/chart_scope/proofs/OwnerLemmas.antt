-- The states in which junctions stand, and how many of both there are.
use Rattle.std.proofs.Common.{◌≡◌, ◌<◌, ◌≤◌, ◌+◌, ◌^◌, ℕ, suc, Bool, true, false, All, List, [], ◌∷◌, ◌++◌, map}
use Rattle.std.proofs.Common.{length, ap, sym, subst, cond, ◌∙◌, arith}
use Rattle.std.specs.List.{AllByRecursion}
use Rattle.std.proofs.lemmas.List.{length-map}
use Rattle.std.proofs.lemmas.List.Elements.{All-from_recursion}
use Rattle.active_config.specs.Tree.{Tree, state_count}
use Rattle.chart_tree.specs.Trees.{Junction, Chart}
use Rattle.chart_places.specs.declared.states.PlacedState.{PlacedState}
use Rattle.chart_places.specs.declared.junctions.OwnedJunction.{OwnedJunction}
use Rattle.chart_places.specs.Placed.{Placed, Owned, owned_by, owned_from, is_earlier, inserted, in_text_order}
use Rattle.chart_places.specs.Placed.{placed_states, placed_junctions}
use Rattle.chart_places.specs.Placed.{placed_tree}
use Rattle.chart_places.specs.Scopes.{junction_name, scopes_of}
use Rattle.chart_places.specs.Survey.{placed_of, owned_of}
use Rattle.chart_places.proofs.TreeLemmas.{placed_count}

-- the state in which a junction stands is one of the first n
abbrev Within : ℕ → Owned → Type 0
Within n o = o.owner < n

-- junctions of both lists
both_within : (n : ℕ) (xs ys : List Owned) → AllByRecursion (Within n) xs → AllByRecursion (Within n) ys
    → AllByRecursion (Within n) (xs ++ ys)
both_within n [] ys a b = b
both_within n (x ∷ xs) ys a b = (a.0, both_within n xs ys a.1 b)

-- those of a state
by_within : (n s : ℕ) (js : List Junction) → s < n → AllByRecursion (Within n) (owned_by s js)
by_within n s [] lt = tt
by_within n s (j ∷ js) lt = (lt, by_within n s js lt)

-- those of states
from_within : (n s : ℕ) (ps : List Placed) → s + length ps ≤ n → AllByRecursion (Within n) (owned_from s ps)
from_within n s [] le = tt
from_within n s (p ∷ ps) le =
    both_within n (owned_by s p.parts.junctions) (owned_from (suc s) ps) (by_within n s p.parts.junctions (omega arith))
    (from_within n (suc s) ps (omega arith))

-- either of two lists
either_within : (n : ℕ) (b : Bool) (xs ys : List Owned) → AllByRecursion (Within n) xs → AllByRecursion (Within n) ys
    → AllByRecursion (Within n) (cond b xs ys)
either_within n true xs ys a c = a
either_within n false xs ys a c = c

-- one more among them
inserted_within : (n : ℕ) (o : Owned) (xs : List Owned) → o.owner < n → AllByRecursion (Within n) xs
    → AllByRecursion (Within n) (inserted o xs)
inserted_within n o [] lt a = (lt, tt)
inserted_within n o (x ∷ xs) lt a =
    either_within n (is_earlier o.junction.name.at x.junction.name.at) (o ∷ (x ∷ xs)) (x ∷ inserted o xs) (lt, a)
    (a.0, inserted_within n o xs lt a.1)

-- all in the order of the text
ordered_within : (n : ℕ) (done xs : List Owned) → AllByRecursion (Within n) done → AllByRecursion (Within n) xs
    → AllByRecursion (Within n) (in_text_order done xs)
ordered_within n done [] a b = a
ordered_within n done (x ∷ xs) a b = ordered_within n (inserted x done) xs (inserted_within n x done b.0 a) b.1

-- junctions of the code
seen_within : (n : ℕ) (js : List OwnedJunction) → AllByRecursion (Within n) (map owned_of js)
    → AllByRecursion (λ (o : OwnedJunction). o.owner < n) js
seen_within n [] a = tt
seen_within n (j ∷ js) a = (a.0, seen_within n js a.1)

-- each junction of a chart text stands in one of its states
pub owners_within : (t : Tree) (ps : List Placed) (js : List OwnedJunction) → t ≡ placed_tree ps
    → map owned_of js ≡ placed_junctions ps → All (λ (o : OwnedJunction). o.owner < state_count t) js
unfolding placed_junctions
owners_within t ps js is e =
    let n = state_count t in
    let few : length ps ≤ n = omega (arith, ap state_count is, placed_count ps) in
    All-from_recursion _ _ (seen_within n js (subst (AllByRecursion (Within n)) (sym e)
    (ordered_within n [] (owned_from 0 ps) tt (from_within n 0 ps (omega arith)))))

-- as many states as the tree has
pub as_many_states : (t : Tree) (ps : List Placed) (xs : List PlacedState) → t ≡ placed_tree ps → map placed_of xs ≡ ps
    → length xs ≡ state_count t
as_many_states t ps xs is e =
    sym (length-map xs placed_of) ∙ ap length e ∙ sym (placed_count ps) ∙ sym (ap state_count is)

-- as few junctions of the code as the scopes have
pub few_junctions : (c : Chart) (xs : List PlacedState) (js others : List OwnedJunction)
    → map placed_of xs ≡ placed_states c.root → map owned_of js ≡ placed_junctions (map placed_of xs) → others ≡ js
    → length (scopes_of c).junctions < 2 ^ 32 → length others < 2 ^ 32
unfolding scopes_of
few_junctions c xs js others are_xs are_js same few =
    let all : length js ≡ length (placed_junctions (placed_states c.root)) =
    sym (length-map js owned_of) ∙ ap length are_js ∙ ap (λ (ps : List Placed). length (placed_junctions ps)) are_xs in
    omega (arith, all, ap length same, length-map (placed_junctions (placed_states c.root)) junction_name)
