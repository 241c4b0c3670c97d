-- The chart of a text in which counters count is the one without counting, with its counters written out.
use Rattle.std.proofs.Common.{ℕ, zero, suc, List, [], ◌∷◌, map, refl, sym, ap, ◌∙◌, subst}
use Rattle.std.specs.Prelude.{slice_index_or}
use Rattle.chart_tree.specs.Trees as trees
use Rattle.checked_chart.specs.Chart.{Chart}
use Rattle.chart_structure.specs.Net.{no_node}
use Rattle.chart_places.specs.Placed.{Placed, placed_states}
use Rattle.chart_places.specs.Scopes.{Scopes, scopes_of}
use Rattle.resolved_tree.specs.Resolved as resolved
use Rattle.resolved_tree.specs.Resolved.{Resolved}
use Rattle.resolved_tree.specs.Plain.{chart_of}
use Rattle.chart_scope.specs.Uses.{resolved_trans}
use Rattle.chart_scope.specs.Resolution.{IsResolved, resolved_states}
use Rattle.chart_check.specs.Nets.{net_of, node_of, arrow_of, junction_node_of}
use Rattle.chart_check.specs.Check.{IsChecked, HasNoFaults}
use Rattle.counting_trees.specs.Counters.{Counter}
use Rattle.counting_trees.specs.Counting.{counting, counting_list, IsReady}
use Rattle.counting_trees.specs.Written.{IsWrittenOut}
use Rattle.counting_trees.proofs.Lists.{map-both}
use Rattle.counting_trees.proofs.Placed.{counted_all}
use Rattle.counting_trees.proofs.Nets.{Fronted, sound_structure, sound_pairs}
use Rattle.counting_trees.proofs.Resolved.{resolved_without, states_are, resolves_without, types_without, written_is}
use Rattle.counting_trees.proofs.Resolved.{can_be_written}

-- ---- the net

module _ (p : Scopes) (ks : List (List Counter)) where
  fronted : (k : ℕ) (first : List trees.Trans) (xs : List Placed) (s : ℕ)
      → Fronted (slice_index_or (map node_of (resolved_states p k (counted_all ks k first xs))) s no_node)
      (slice_index_or (map node_of (resolved_states p k xs)) s no_node)
  fronted k first [] s = record { front = []; is = refl }
  fronted k first (x ∷ xs) zero = record {
    front = map arrow_of (map (resolved_trans p k) first);
    is = λ i. record (slice_index_or (map node_of (resolved_states p k (x ∷ xs))) 0 no_node) {
      inner =
          (ap (map arrow_of) (map-both (resolved_trans p k) first x.parts.inner)
          ∙ map-both arrow_of (map (resolved_trans p k) first) (map (resolved_trans p k) x.parts.inner)) i;
    };
  }
  fronted k first (x ∷ xs) (suc s) = fronted (suc k) [] xs s

module _ (ks : List (List Counter)) (t : trees.Chart) (r : Resolved) (h : IsResolved (counting ks t) r) where
  nodes : (s : ℕ) → Fronted (slice_index_or (map node_of r.states) s no_node)
      (slice_index_or (map node_of (resolved_without t r).states) s no_node)
  nodes s =
      subst (λ (ss : List resolved.State). Fronted (slice_index_or (map node_of ss) s no_node)
      (slice_index_or (map node_of (resolved_without t r).states) s no_node)) (sym (states_are ks t r h))
      (fronted (scopes_of t) ks 0 (counting_list ks) (placed_states t.root) s)

  sound_without : HasNoFaults r → HasNoFaults (resolved_without t r)
  unfolding net_of
  sound_without sound = record {
    types = types_without ks t r h sound.types;
    structure =
        sound_structure r.tree (map junction_node_of r.junctions) (map node_of r.states)
        (map node_of (resolved_without t r).states) nodes sound.structure;
    pairs =
        sound_pairs r.tree (map junction_node_of r.junctions) (map node_of r.states)
        (map node_of (resolved_without t r).states) nodes sound.pairs;
  }

  -- the chart text without counting has a chart, of which the other has the counters written out
  pub written_out : IsReady ks t → (d : Chart) → IsChecked r d → (c : Chart) × IsWrittenOut ks t c d
  written_out ready d checked = (
    chart_of (resolved_without t r),
    record {
      ready = ready;
      whole = record { resolved = r; resolves = h; checked = checked };
      without = record {
        resolved = resolved_without t r;
        resolves = resolves_without ks t r h;
        checked = record { sound = sound_without checked.sound; chart = refl };
      };
      written = checked.chart ∙ written_is ks t r h;
      can_be = can_be_written ks t r h ready;
    },
  )
