-- The tree of a chart text in which counters count.
use Rattle.std.specs.Prelude.{◌≡◌, ◌≢◌, ◌+◌, ◌≤◌, ◌++◌, ℕ, suc, List, [], length, map, slice_index_or, Contains}
use Rattle.std.specs.List.{flat_map}
use Rattle.token_grammar.specs.declared.token.Span.{Span}
use Rattle.chart_tree.specs.Trees.{Var, Trans, Junction, Parts, State, StateOf, States, NoState, MoreStates, Chart}
use Rattle.chart_places.specs.Placed.{placed_states}
use Rattle.counting_trees.specs.Counters.{Counter, counter_var, next_junction, reset_stmt, count_trans, events_of}

-- ---- the counters of states, a list for each state in pre-order

-- those of a state
abbrev pub own : List (List Counter) → ℕ → List Counter
own ks s = slice_index_or ks s []

-- those of all states
abbrev pub all_of : List (List Counter) → List Counter
all_of ks = flat_map (λ (l : List Counter). l) ks

-- ---- states

-- what a state has: before its entry action these counters become 0, and before its inner list stand these transitions
abbrev pub with_counting : List Counter → List Trans → Parts → Parts
with_counting own first p = record {
  name = p.name;
  comp = p.comp;
  entry = map reset_stmt own ++ p.entry;
  during = p.during;
  exit = p.exit;
  history = p.history;
  outer = p.outer;
  inner = first ++ p.inner;
  default = p.default;
  junctions = p.junctions;
}

abbrev mutual
  -- how many states a state and those below it are
  pub size : State → ℕ
  size (StateOf p below) = suc (size_below below)

  pub size_below : States → ℕ
  size_below NoState = 0
  size_below (MoreStates x rest) = size x + size_below rest

abbrev mutual
  -- the state of number n and those below it, where entering each sets its counters to 0; transitions stand before the
  -- inner list of the first
  pub counting_state : List (List Counter) → ℕ → List Trans → State → State
  counting_state ks n first (StateOf p below) =
      StateOf (with_counting (own ks n) first p) (counting_below ks (suc n) below)

  -- states in order and those below them, where the next number is n
  pub counting_below : List (List Counter) → ℕ → States → States
  counting_below ks n NoState = NoState
  counting_below ks n (MoreStates x rest) =
      MoreStates (counting_state ks n [] x) (counting_below ks (n + size x) rest)

-- ---- charts

-- the transitions that count
abbrev pub counting_list : List (List Counter) → List Trans
counting_list ks = map (count_trans (all_of ks)) (events_of (all_of ks))

-- The chart text in which counters count: entering a state sets its counters to 0 before its entry action, and the
-- inner list of the chart begins with a transition for each event that is counted.
unfoldable pub counting : List (List Counter) → Chart → Chart
counting ks t = record { events = t.events; vars = t.vars; root = counting_state ks 0 (counting_list ks) t.root }

-- the junctions that stand in a state
abbrev pub junctions_in : State → List Junction
junctions_in (StateOf p below) = p.junctions

-- The counters are declared behind all other data, there are no more lists of them than states, and where there is any
-- counter, the junction at which nothing is found stands in the chart itself.
pub record IsReady (ks : List (List Counter)) (t : Chart) : Type 0 where
  pub others : List Var
  pub vars : t.vars ≡ others ++ map counter_var (all_of ks)
  pub states : length ks ≤ length (placed_states t.root)
  pub junction : all_of ks ≢ [] → (at : Span) × Contains (junctions_in t.root) (next_junction at)
