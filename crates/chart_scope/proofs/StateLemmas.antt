-- States that are resolved one by one, and the owners of junctions.
use Rattle.std.proofs.Common.{◌≡◌, ◌<◌, ◌+◌, ℕ, List, [], ◌∷◌, ◌++◌, map, drop, length, get_or, suc, Option, sym, ap, ◌∙◌}
use Rattle.std.proofs.Common.{add-one, append_assoc}
use Rattle.chart_places.specs.declared.states.PlacedState.{PlacedState}
use Rattle.chart_places.specs.Scopes.{Scopes}
use Rattle.chart_places.specs.Survey.{placed_of}
use Rattle.chart_tree.specs.declared.first.FaultAt.{FaultAt}
use Rattle.resolved_tree.specs.Faults.{first_with}
use Rattle.resolved_tree.specs.Resolved.{State}
use Rattle.resolved_tree.proofs.FirstLemmas.{first_with_both}
use Rattle.chart_scope.specs.Names.{parts_faults, used_in_states}
use Rattle.chart_scope.specs.Resolution.{resolved_state, resolved_states}
use Rattle.chart_scope.proofs.LoopLemmas.{item_first}

-- one more state is resolved
pub one_more_state : (p : Scopes) (old new all : List State) (r : State) (i : ℕ)
    (xs : List PlacedState) (x : PlacedState)
    → i < length xs → x ≡ get_or xs i x → new ≡ old ++ r ∷ [] → r ≡ resolved_state p i (placed_of x)
    → old ++ resolved_states p i (map placed_of (drop i xs)) ≡ all
    → new ++ resolved_states p (i + 1) (map placed_of (drop (i + 1) xs)) ≡ all
one_more_state p old new all r i xs x lt is more resolved so_far =
    let rest : List State = resolved_states p (suc i) (map placed_of (drop (suc i) xs)) in
    rw add-one (
    ap (λ (rs : List State). rs ++ rest) more ∙ append_assoc old (r ∷ []) rest
    ∙ ap (λ (s : State). old ++ s ∷ rest) resolved
    ∙ ap (λ (ys : List PlacedState). old ++ resolved_states p i (map placed_of ys)) (sym (item_first xs i x lt is))
    ∙ so_far
    )

-- the first fault of one more state is found
pub one_more_searched : (p : Scopes) (old new total : Option FaultAt) (i : ℕ) (xs : List PlacedState) (x : PlacedState)
    → i < length xs → x ≡ get_or xs i x → new ≡ first_with old (parts_faults p i (placed_of x).parts)
    → first_with old (used_in_states p i (map placed_of (drop i xs))) ≡ total
    → first_with new (used_in_states p (i + 1) (map placed_of (drop (i + 1) xs))) ≡ total
one_more_searched p old new total i xs x lt is found so_far =
    let rest : List FaultAt = used_in_states p (suc i) (map placed_of (drop (suc i) xs)) in
    rw add-one (
    ap (λ (o : Option FaultAt). first_with o rest) found
    ∙ sym (first_with_both old (parts_faults p i (placed_of x).parts) rest)
    ∙ ap (λ (ys : List PlacedState). first_with old (used_in_states p i (map placed_of ys)))
    (sym (item_first xs i x lt is))
    ∙ so_far
    )
