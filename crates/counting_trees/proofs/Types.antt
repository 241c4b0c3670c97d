-- Where types have no faults with counting, they have none without.
use Rattle.std.proofs.Common.{◌≡◌, ℕ, suc, List, [], ◌∷◌, ◌++◌, map, refl, sym, ap, ◌∙◌, flat_map}
use Rattle.actions.specs.Names.{Names}
use Rattle.chart_tree.specs.Trees as trees
use Rattle.chart_places.specs.Placed.{Placed}
use Rattle.chart_places.specs.Scopes.{Scopes}
use Rattle.resolved_tree.specs.Resolved as resolved
use Rattle.chart_types.specs.Types.{stmt_faults, trans_faults, block_faults, list_faults, state_faults}
use Rattle.chart_scope.specs.Uses.{resolved_stmt, resolved_trans}
use Rattle.chart_scope.specs.Resolution.{resolved_state, resolved_states}
use Rattle.counting_trees.specs.Counters.{Counter, reset_stmt}
use Rattle.counting_trees.specs.Counting.{own}
use Rattle.counting_trees.proofs.Lists.{no_first, no_rest, none_of, flat_rest, map-both}
use Rattle.counting_trees.proofs.Placed.{counted, counted_all}
use Rattle.counting_trees.proofs.Faults.{six_rest}

-- what holds of what is made of a list holds of what is made of its rest
made_rest : {A B C : Type 0} (g : B → List C) (f : A → B) (xs ys : List A) → flat_map g (map f (xs ++ ys)) ≡ []
    → flat_map g (map f ys) ≡ []
made_rest g f xs ys e = flat_rest g (map f xs) (map f ys) (ap (flat_map g) (sym (map-both f xs ys)) ∙ e)

module _ (n : Names) (p : Scopes) (ks : List (List Counter)) where
  state_rest : (s : ℕ) (r : List Counter) (first : List trees.Trans) (x : Placed)
      → state_faults n (resolved_state p s (counted r first x)) ≡ [] → state_faults n (resolved_state p s x) ≡ []
  state_rest s r first x none =
      let q = x.parts in
      let block : List trees.Stmt → List resolved.Stmt = map (resolved_stmt p s) in
      let list : List trees.Trans → List resolved.Trans = map (resolved_trans p s) in
      six_rest (block_faults n (block (map reset_stmt r ++ q.entry))) (block_faults n (block q.entry))
      (block_faults n (block q.during)) (block_faults n (block q.exit)) (list_faults n (list q.outer))
      (list_faults n (list (first ++ q.inner))) (list_faults n (list q.inner)) (list_faults n (list q.default))
      (made_rest (stmt_faults n) (resolved_stmt p s) (map reset_stmt r) q.entry)
      (made_rest (trans_faults n) (resolved_trans p s) first q.inner) none

  pub types_rest : (s : ℕ) (first : List trees.Trans) (xs : List Placed)
      → flat_map (state_faults n) (resolved_states p s (counted_all ks s first xs)) ≡ []
      → flat_map (state_faults n) (resolved_states p s xs) ≡ []
  types_rest s first [] none = refl
  types_rest s first (x ∷ xs) none =
      let here = state_faults n (resolved_state p s (counted (own ks s) first x)) in
      let others = flat_map (state_faults n) (resolved_states p (suc s) (counted_all ks (suc s) [] xs)) in
      none_of (state_rest s (own ks s) first x (no_first here others none))
      (types_rest (suc s) [] xs (no_rest here others none))
