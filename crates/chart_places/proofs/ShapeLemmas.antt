-- The tree of placed states, made of numbers of parents.
use Rattle.std.proofs.Common.{◌≡◌, ℕ, suc, ◌+◌, ◌<◌, List, [], ◌∷◌, length, map, get_or}
use Rattle.std.proofs.Common.{Option, Some, None, refl, sym, ap, ◌∙◌, subst, arith}
use Rattle.std.specs.Prelude.{IsTrue, IsSomeAnd}
use Rattle.std.specs.Option.{unwrap_or}
use Rattle.std.proofs.lemmas.List.{length-map}
use Rattle.active_config.specs.Tree.{tree_of, parents_of, state_count, parent_of, is_at_or_below, IsTree}
use Rattle.chart_places.specs.Placed.{Placed, placed_comp, placed_tree}
use Rattle.chart_places.specs.Survey.{parent_numbers}

-- states that have parents have their numbers
numbers-are : (ps : List Placed) → ((k : ℕ) → k < length ps → get_or (map (λ (p : Placed). p.parent) ps) k None ≡ None → ⊥)
    → map Some (parent_numbers ps) ≡ map (λ (p : Placed). p.parent) ps
numbers-are [] some = refl
numbers-are (p ∷ ps) some =
    ap (λ (o : Option ℕ). o ∷ map Some (parent_numbers ps)) (known p.parent (some 0 (omega arith)))
    ∙ ap (λ (os : List (Option ℕ)). p.parent ∷ os)
    (numbers-are ps (λ k lt. some (suc k) (omega arith)))
  where
    known : (o : Option ℕ) → (o ≡ None → ⊥) → Some (unwrap_or o 0) ≡ o
    known None h = absurd (h refl)
    known (Some x) h = refl

is_some : (o : Option ℕ) (P : ℕ → Type 0) → IsSomeAnd o P → o ≡ None → ⊥
is_some None P h e = h
is_some (Some x) P h e = absurd cc

parents-are : (ps : List Placed) → IsTree (placed_tree ps) → parents_of (parent_numbers ps) ≡ map (λ (p : Placed). p.parent) ps
unfolding placed_tree parent_of state_count
parents-are [] tree = refl
parents-are (p ∷ ps) tree =
    ap (λ (o : Option ℕ). o ∷ map Some (parent_numbers ps)) (sym tree.pre_order.root)
    ∙ ap (λ (os : List (Option ℕ)). p.parent ∷ os)
    (numbers-are ps (λ k lt.
    let count = length-map ps (λ (q : Placed). q.parent) in
    let next : k + 1 ≡ suc k = omega arith in
    is_some (get_or (map (λ (q : Placed). q.parent) ps) k None) _
    (subst (λ (n : ℕ). IsSomeAnd (get_or (map (λ (q : Placed). q.parent) (p ∷ ps)) n None)
    (λ (x : ℕ). IsTrue (is_at_or_below (placed_tree (p ∷ ps)) k x))) next
    (tree.pre_order.others k (omega arith)))))

-- the tree that is made is that of the states
pub placed_tree-made : (ps : List Placed) → IsTree (placed_tree ps)
    → tree_of (parent_numbers ps) (map placed_comp ps) ≡ placed_tree ps
unfolding tree_of placed_tree
placed_tree-made ps tree =
    ap (λ (os : List (Option ℕ)). record { parents = os; comps = map placed_comp ps }) (parents-are ps tree)
