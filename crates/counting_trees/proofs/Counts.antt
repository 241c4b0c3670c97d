-- What the chart of a text does in which counters count.
use Rattle.std.proofs.Common.{◌≡◌, ◌≢◌, ◌⊎◌, ◌↔◌, inl, inr, ℕ, List, [], Option, sym, ap, ◌∙◌, subst}
use Rattle.flow_base.specs.declared.bounds.Bounds.{Bounds}
use Rattle.flow_base.specs.declared.fault.Fault.{Fault}
use Rattle.active_config.specs.Tree.{IsTree}
use Rattle.actions.specs.declared.event.Event.{Event}
use Rattle.actions.specs.World.{World}
use Rattle.actions.specs.Runs.{Moment, EventWithInputs}
use Rattle.chart_tree.specs.Trees as trees
use Rattle.checked_chart.specs.Chart.{Chart}
use Rattle.resolved_tree.specs.Plain.{chart_of}
use Rattle.chart_places.proofs.TreeLemmas.{placed_tree_is_tree}
use Rattle.sos_rules.specs.Reactions.{Starts, Reacts, RulesRun}
use Rattle.counting_rules.specs.Counters.{Counters, no_counters}
use Rattle.counting_rules.specs.Reactions.{CountingStarts, CountingReacts, CountingRun}
use Rattle.counting_rules.specs.Written.{write_out, CanBeWritten}
use Rattle.counting_rules.proofs.Written.{written_out}
use Rattle.counting_rules.proofs.Reactions.{start_counts, reaction_counts, start_is_counted, reaction_is_counted}
use Rattle.counting_rules.proofs.Reactions.{plain_start, plain_reaction, runs_lead}
use Rattle.counting_trees.specs.Counters.{Counter}
use Rattle.counting_trees.specs.Counting.{all_of}
use Rattle.counting_trees.specs.Numbers.{counters_for, way_for}
use Rattle.counting_trees.specs.Written.{IsWrittenOut}
use Rattle.counting_trees.proofs.None.{none_for, none_written, some_or_none}

-- each start and each reaction of d is one of c by the rules with counters, and only those are
pub record Counts (c d : Chart) (k : Counters) (b : Bounds) : Type 0 where
  pub starts : (w : World) (f : Option Fault) → Starts d b w f ↔ CountingStarts c k b w f
  pub reacts : (w : World) (e : Event) (v : World) (f : Option Fault) → Reacts d b w e v f ↔ CountingReacts c k b w e v f

written_counts : (c : Chart) (k : Counters) (way : ℕ) (b : Bounds) → CanBeWritten c k way → IsTree c.tree
    → Counts c (write_out c k way) k b
written_counts c k way b h tree =
    let o = written_out c k way h in
    record {
      starts = λ w f. (start_counts c k way _ o b _, start_is_counted c k way _ o b tree _);
      reacts = λ w e v f. (reaction_counts c k way _ o b w e _, reaction_is_counted c k way _ o b tree w e _);
    }

plain_counts : (c : Chart) (b : Bounds) → IsTree c.tree → Counts c c no_counters b
plain_counts c b tree = record {
  starts = λ w f. plain_start c b tree _;
  reacts = λ w e v f. plain_reaction c b tree w e _;
}

module _ (ks : List (List Counter)) (t : trees.Chart) (c d : Chart) (h : IsWrittenOut ks t c d) where
  tree_is_tree : IsTree c.tree
  unfolding chart_of
  tree_is_tree =
      let i = h.without in
      let same : c.tree ≡ i.resolved.tree = ap (λ (y : Chart). y.tree) i.checked.chart in
      subst IsTree (sym (same ∙ i.resolves.resolves.tree)) (placed_tree_is_tree t.root)

  pub counts : (b : Bounds) → Counts c d (counters_for ks t) b
  counts b = at (some_or_none (all_of ks))
    where
      at : (all_of ks ≡ []) ⊎ (all_of ks ≢ []) → Counts c d (counters_for ks t) b
      at (inr some) =
          subst (λ y. Counts c y (counters_for ks t) b) (sym h.written)
          (written_counts c (counters_for ks t) (way_for t) b (h.can_be some) tree_is_tree)
      at (inl none) =
          let k = none_for ks t none in
          let e : d ≡ c = h.written ∙ ap (λ k. write_out c k (way_for t)) k ∙ none_written c (way_for t) in
          subst (λ k. Counts c d k b) (sym k)
          (subst (λ y. Counts c y no_counters b) (sym e) (plain_counts c b tree_is_tree))

  pub run_counts : (b : Bounds) (events : List EventWithInputs) (moments : List Moment)
      → RulesRun d b events moments ↔ CountingRun c (counters_for ks t) b events moments
  run_counts b events moments =
      let all = counts b in (
        runs_lead _ _ _ _ (record {
          starts = λ w f. (all.starts w f).0;
          reacts = λ w e v f. (all.reacts w e v f).0;
        }) events moments,
        runs_lead _ _ _ _ (record {
          starts = λ w f. (all.starts w f).1;
          reacts = λ w e v f. (all.reacts w e v f).1;
        }) events moments,
      )
