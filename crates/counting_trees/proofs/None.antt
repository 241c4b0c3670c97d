-- Without counters nothing is written out.
use Rattle.std.proofs.Common.{◌≡◌, ◌≢◌, ◌⊎◌, inl, inr, ℕ, zero, suc, List, [], ◌∷◌, map, length, refl, sym, ap}
use Rattle.std.proofs.lemmas.List.FromFn.{fill_by_all}
use Rattle.chart_tree.specs.Trees as trees
use Rattle.checked_chart.specs.Chart.{Chart, Node, node, no_node}
use Rattle.chart_places.specs.Scopes.{scopes_of}
use Rattle.counting_rules.specs.Counters.{no_counters}
use Rattle.counting_rules.specs.Written.{written_node, write_out, with_nodes}
use Rattle.counting_trees.specs.Counters.{Counter, events_of}
use Rattle.counting_trees.specs.Counting.{own, all_of}
use Rattle.counting_trees.specs.Numbers.{number_of, counted_as, counters_for}
use Rattle.counting_trees.proofs.Lists.{no_first, no_rest}

none_own : (ks : List (List Counter)) (s : ℕ) → all_of ks ≡ [] → own ks s ≡ []
none_own [] s none = refl
none_own (l ∷ ks) zero none = no_first l (all_of ks) none
none_own (l ∷ ks) (suc s) none = none_own ks s (no_rest l (all_of ks) none)

-- without counters in the text there are none
pub none_for : (ks : List (List Counter)) (t : trees.Chart) → all_of ks ≡ [] → counters_for ks t ≡ no_counters
unfolding counters_for
none_for ks t none = λ i. record {
  counted = ap (λ (all : List Counter). map (counted_as (scopes_of t) all) (events_of all)) none i;
  resets = λ s. ap (map (λ (k : Counter). number_of (scopes_of t) k.name)) (none_own ks s none) i;
}

node_same : (way s : ℕ) (n : Node) → written_node no_counters way s n ≡ n
node_same way zero n = refl
node_same way (suc s) n = refl

-- and none are written out
pub none_written : (c : Chart) (way : ℕ) → write_out c no_counters way ≡ c
unfolding node
none_written c way =
    ap (with_nodes c)
    (sym (fill_by_all (λ s. written_node no_counters way s (node c s)) c.nodes (length c.nodes) no_node refl
    (λ s lt. sym (node_same way s (node c s)))))

pub some_or_none : {A : Type 0} (xs : List A) → (xs ≡ []) ⊎ (xs ≢ [])
some_or_none [] = inl refl
some_or_none (x ∷ xs) = inr (λ e. cc)
