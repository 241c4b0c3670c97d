-- How counters are written out as actions and transitions of a chart without counters.
use Rattle.std.specs.Prelude.{◌≡◌, ◌++◌, ◌<◌, ◌≤◌, ℕ, List, [], ◌∷◌, length, map, Some, None, false}
use Rattle.std.specs.List.{range_with_len}
use Rattle.actions.specs.Exprs.{Flag, Stmt, Assign}
use Rattle.checked_chart.specs.declared.parts.Dest.{Dest}
use Rattle.checked_chart.specs.declared.parts.Dest.TheVariants.{Junction}
use Rattle.checked_chart.specs.Chart.{Chart, Node, Trans, node, junction}
use Rattle.counting_rules.specs.Counters.{Counted, Counters, whole, one_more, of_root}

-- ---- what is written

-- the statement that sets a counter to 0
abbrev pub reset_stmt : ℕ → Stmt
reset_stmt v = Assign v (whole 0)

-- the statement that makes a counter one more
abbrev pub count_stmt : ℕ → Stmt
count_stmt v = Assign v (one_more v)

-- the transition that counts an event; it leads to the junction `way`, at which nothing is found
abbrev pub count_trans : ℕ → Counted → Trans
count_trans way k = record {
  event = Some k.event;
  guard = None;
  condition = map count_stmt k.counters;
  action = [];
  dest = Junction way;
}

-- the only transition of that junction: it is never taken, wherever it leads, so the search goes on behind the
-- transition that led to the junction
abbrev pub never : Dest → Trans
never dest = record { event = None; guard = Some (Flag false); condition = []; action = []; dest = dest }

-- ---- where it is written

-- what a state does: before its entry action its counters become 0, and before the inner list of the chart itself each
-- counted event is counted
abbrev pub written_node : Counters → ℕ → ℕ → Node → Node
written_node k way s n = record {
  entry = map reset_stmt (k.resets s) ++ n.entry;
  during = n.during;
  exit = n.exit;
  outer = n.outer;
  inner = of_root s (map (count_trans way) k.counted) [] ++ n.inner;
  default = n.default;
  history = n.history;
}

-- the chart with other nodes
abbrev pub with_nodes : Chart → List Node → Chart
with_nodes c nodes = record { tree = c.tree; names = c.names; nodes = nodes; junctions = c.junctions }

-- the chart with its counters written out, where `way` is the junction at which nothing is found
abbrev pub write_out : Chart → Counters → ℕ → Chart
write_out c k way =
    with_nodes c (map (λ s. written_node k way s (node c s)) (range_with_len 0 (length c.nodes)))

-- counters that can be written out: nothing is found at the junction, the chart has a state, and only states have
-- counters
pub record CanBeWritten (c : Chart) (k : Counters) (way : ℕ) : Type 0 where
  pub elsewhere : Dest
  pub never_taken : junction c way ≡ never elsewhere ∷ []
  pub some : 0 < length c.nodes
  pub only_states : (s : ℕ) → length c.nodes ≤ s → k.resets s ≡ []
