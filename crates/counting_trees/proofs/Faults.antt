-- Where names have no faults with counting, they have none without.
use Rattle.std.proofs.Common.{◌≡◌, ℕ, suc, List, [], ◌∷◌, ◌++◌, refl, sym, ◌∙◌}
use Rattle.chart_tree.specs.declared.first.FaultAt.{FaultAt}
use Rattle.chart_tree.specs.Trees.{Trans, Parts, Chart}
use Rattle.chart_places.specs.Placed.{Placed, Owned, placed_states, placed_junctions}
use Rattle.chart_places.specs.Scopes.{Scopes, scopes_of}
use Rattle.chart_scope.specs.Uses.{stmt_faults, trans_faults, block_faults, list_faults}
use Rattle.chart_scope.specs.Names.{name_faults, doubled_events, doubled_vars, doubled_states, doubled_junctions}
use Rattle.chart_scope.specs.Names.{parts_faults, used_in_states, used_in_junctions}
use Rattle.std.proofs.Common.{map}
use Rattle.counting_trees.specs.Counters.{Counter, reset_stmt}
use Rattle.counting_trees.specs.Counting.{own, with_counting, counting, counting_list}
use Rattle.counting_trees.proofs.Lists.{no_first, no_rest, none_of, flat_rest}
use Rattle.counting_trees.proofs.Placed.{counted_all}
use Rattle.counting_trees.proofs.Scopes.{counting_states, same_scopes, same_junctions}

-- of six lists, where the first and the fifth are others
pub six_rest : {A : Type 0} (e e' d x o i i' r : List A) → (e ≡ [] → e' ≡ []) → (i ≡ [] → i' ≡ [])
    → e ++ d ++ x ++ o ++ i ++ r ≡ [] → e' ++ d ++ x ++ o ++ i' ++ r ≡ []
six_rest e e' d x o i i' r h k none =
    let a = no_first (e ++ d ++ x ++ o ++ i) r none in
    let b = no_first (e ++ d ++ x ++ o) i a in
    let c = no_first (e ++ d ++ x) o b in
    let f = no_first (e ++ d) x c in
    none_of (none_of (none_of (none_of (none_of (h (no_first e d f)) (no_rest e d f)) (no_rest (e ++ d) x c))
    (no_rest (e ++ d ++ x) o b)) (k (no_rest (e ++ d ++ x ++ o) i a))) (no_rest (e ++ d ++ x ++ o ++ i) r none)

-- ---- names

module _ (p : Scopes) (ks : List (List Counter)) where
  parts_rest : (s : ℕ) (r : List Counter) (first : List Trans) (q : Parts)
      → parts_faults p s (with_counting r first q) ≡ [] → parts_faults p s q ≡ []
  parts_rest s r first q none =
      six_rest (block_faults p s (map reset_stmt r ++ q.entry)) (block_faults p s q.entry) (block_faults p s q.during)
      (block_faults p s q.exit) (list_faults p s q.outer) (list_faults p s (first ++ q.inner)) (list_faults p s q.inner)
      (list_faults p s q.default) (flat_rest (stmt_faults p s) (map reset_stmt r) q.entry)
      (flat_rest (trans_faults p s) first q.inner) none

  pub states_rest : (s : ℕ) (first : List Trans) (xs : List Placed)
      → used_in_states p s (counted_all ks s first xs) ≡ [] → used_in_states p s xs ≡ []
  states_rest s first [] none = refl
  states_rest s first (x ∷ xs) none =
      let here = parts_faults p s (with_counting (own ks s) first x.parts) in
      let others = used_in_states p (suc s) (counted_all ks (suc s) [] xs) in
      none_of (parts_rest s (own ks s) first x.parts (no_first here others none))
      (states_rest (suc s) [] xs (no_rest here others none))

-- those of names that stand twice, and of a list of states and one of junctions
abbrev pub faults_in : Scopes → List Placed → List Owned → List FaultAt
faults_in p xs js =
    doubled_events p 0 p.events ++ doubled_vars p 0 p.vars ++ doubled_states p 0 p.states
    ++ doubled_junctions p 0 p.junctions ++ used_in_states p 0 xs ++ used_in_junctions p js

in_rest : (p : Scopes) (ks : List (List Counter)) (first : List Trans) (xs : List Placed) (js : List Owned)
    → faults_in p (counted_all ks 0 first xs) js ≡ [] → faults_in p xs js ≡ []
in_rest p ks first xs js none =
    let doubled =
    doubled_events p 0 p.events ++ doubled_vars p 0 p.vars ++ doubled_states p 0 p.states
    ++ doubled_junctions p 0 p.junctions in
    let used = used_in_states p 0 (counted_all ks 0 first xs) in
    let before = no_first (doubled ++ used) (used_in_junctions p js) none in
    none_of (none_of (no_first doubled used before) (states_rest p ks 0 first xs (no_rest doubled used before)))
    (no_rest (doubled ++ used) (used_in_junctions p js) none)

module _ (ks : List (List Counter)) (t : Chart) where
  -- the faults of names with counting, by the names and junctions without
  pub counting_faults : name_faults (counting ks t)
      ≡ faults_in (scopes_of t) (counted_all ks 0 (counting_list ks) (placed_states t.root))
      (placed_junctions (placed_states t.root))
  unfolding name_faults
  counting_faults = λ i. faults_in (same_scopes ks t i) (counting_states ks t i) (same_junctions ks t i)

  -- a chart text without faults of names has none without counting
  pub faultless_without : name_faults (counting ks t) ≡ [] → name_faults t ≡ []
  unfolding name_faults
  faultless_without none =
      in_rest (scopes_of t) ks (counting_list ks) (placed_states t.root) (placed_junctions (placed_states t.root))
      (sym counting_faults ∙ none)
