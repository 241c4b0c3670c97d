-- Counters that can be written out are written out.
use Rattle.std.proofs.Common.{◌≡◌, ℕ, zero, suc, ◌<◌, ◌≤◌, ◌++◌, List, [], ◌∷◌, length, map, sym, ap, ◌∙◌, arith}
use Rattle.std.proofs.Common.{inl, inr, ◌⊎◌}
use Rattle.std.specs.List.{range_with_len}
use Rattle.std.proofs.lemmas.List.{get_or_past}
use Rattle.std.proofs.lemmas.List.FromFn.{get_or-map-range_with_len, length-map-range_with_len}
use Rattle.checked_chart.specs.declared.parts.Dest.{Dest}
use Rattle.checked_chart.specs.Chart.{Chart, Node, node, no_node, junction}
use Rattle.counting_rules.specs.Counters.{Counters}
use Rattle.counting_rules.specs.Written.{written_node, reset_stmt, never, with_nodes, write_out, CanBeWritten}

-- the chart with these nodes is the chart with its counters written out
pub record WritesOut (c : Chart) (k : Counters) (way : ℕ) (nodes : List Node) : Type 0 where
  pub elsewhere : Dest
  pub never_taken : junction c way ≡ never elsewhere ∷ []
  pub written : (s : ℕ) → node (with_nodes c nodes) s ≡ written_node k way s (node c s)

-- no state at all does nothing more
nothing_written : (k : Counters) (way s : ℕ) → 0 < s → k.resets s ≡ [] → no_node ≡ written_node k way s no_node
unfolding no_node
nothing_written k way zero pos e = absurd (omega arith)
nothing_written k way (suc s) pos e =
    ap (λ (vs : List ℕ). record no_node { entry = map reset_stmt vs ++ no_node.entry }) (sym e)

before_or_past : (s n : ℕ) → (s < n) ⊎ (n ≤ s)
before_or_past s n = grind arith

module _ (c : Chart) (k : Counters) (way : ℕ) (h : CanBeWritten c k way) where
  written_at : (s : ℕ) → (s < length c.nodes) ⊎ (length c.nodes ≤ s)
      → node (write_out c k way) s ≡ written_node k way s (node c s)
  unfolding node
  written_at s (inl lt) =
      get_or-map-range_with_len (λ s. written_node k way s (node c s)) 0 (length c.nodes) s s no_node lt (omega arith)
  written_at s (inr le) =
      get_or_past _ s no_node
      (let e = length-map-range_with_len (λ s. written_node k way s (node c s)) 0 (length c.nodes) in omega arith)
      ∙ nothing_written k way s (let some = h.some in omega arith) (h.only_states s le)
      ∙ ap (written_node k way s) (sym (get_or_past c.nodes s no_node le))

  pub written_out : WritesOut c k way (map (λ s. written_node k way s (node c s)) (range_with_len 0 (length c.nodes)))
  written_out = record {
    elsewhere = h.elsewhere;
    never_taken = h.never_taken;
    written = λ s. written_at s (before_or_past s (length c.nodes));
  }
