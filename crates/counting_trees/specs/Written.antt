-- A chart text in which counters count stands for the chart without counting, with its counters written out.
use Rattle.std.specs.Prelude.{◌≡◌, ◌≢◌, ℕ, List, [], Some}
use Rattle.actions.specs.Data.{datum, initial}
use Rattle.checked_chart.specs.Chart.{Chart}
use Rattle.chart_tree.specs.Trees as trees
use Rattle.resolved_tree.specs.Resolved.{Resolved}
use Rattle.chart_places.specs.Scopes.{scopes_of, Event, Datum, meaning_of}
use Rattle.chart_scope.specs.Resolution.{IsResolved}
use Rattle.chart_check.specs.Check.{IsChecked}
use Rattle.counting_rules.specs.Numbers.{IsCounter}
use Rattle.counting_rules.specs.Written.{write_out, CanBeWritten}
use Rattle.counting_log.specs.Runs.{IsNoInput}
use Rattle.counting_log.specs.Times.{IsCounterOf}
use Rattle.counting_trees.specs.Counters.{Counter, counter_end}
use Rattle.counting_trees.specs.Counting.{all_of, counting, IsReady}
use Rattle.counting_trees.specs.Numbers.{counters_for, way_for, counter_number, event_number}

-- the chart text has no fault of names, types, structure or pairs, and this is the chart for which it stands
pub record IsChartOf (t : trees.Chart) (c : Chart) : Type 0 where
  pub resolved : Resolved
  pub resolves : IsResolved t resolved
  pub checked : IsChecked resolved c

-- d is the chart of the text in which the counters count, c is that of the text without counting, and d is c with its
-- counters written out; they can be, where there are any
pub record IsWrittenOut (ks : List (List Counter)) (t : trees.Chart) (c d : Chart) : Type 0 where
  pub ready : IsReady ks t
  pub whole : IsChartOf (counting ks t) d
  pub without : IsChartOf t c
  pub written : d ≡ write_out c (counters_for ks t) (way_for t)
  pub can_be : all_of ks ≢ [] → CanBeWritten c (counters_for ks t) (way_for t)

-- A counter of state s is a datum that no event line can set, a whole number of 32 bits that is 0 at first: the counter
-- of its event for that state, and of nothing else.
pub record IsCounterIn (ks : List (List Counter)) (t : trees.Chart) (c : Chart) (s : ℕ) (k : Counter) : Type 0 where
  pub datum_is : meaning_of (scopes_of t) k.name ≡ Some (Datum (counter_number t k))
  pub event_is : meaning_of (scopes_of t) k.event.text ≡ Some (Event (event_number t k))
  pub counter : IsCounterOf (counters_for ks t) (counter_number t k) s (event_number t k)
  pub first : IsCounter (datum (initial c.names) (counter_number t k)) counter_end 0
  pub no_input : IsNoInput c.names (counter_number t k)
