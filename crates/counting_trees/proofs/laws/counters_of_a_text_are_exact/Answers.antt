use Rattle.std.proofs.Common.{ℕ, ◌≢◌, List}
use Rattle.chart_tree.specs.Trees as trees
use Rattle.checked_chart.specs.Chart.{Chart}
use Rattle.counting_log.specs.Assigned.{OnlyChart}
use Rattle.counting_log.proofs.Exact.{exact_start, exact_reaction}
use Rattle.counting_log.proofs.Runs.{run_counts}
use Rattle.counting_trees.specs.Assigns.{AssignsOnly}
use Rattle.counting_trees.specs.Counters.{Counter, counter_end}
use Rattle.counting_trees.specs.Numbers.{counters_for, counter_number, event_number}
use Rattle.counting_trees.specs.Written.{IsWrittenOut, IsCounterIn}
use Rattle.counting_trees.proofs.Assigns.{chart_only}
use Rattle.counting_trees.proofs.Counts as counts
use Rattle.counting_trees.proofs.laws.counters_of_a_text_are_exact.Goals as goal

-- no statement of the chart assigns to the counter
only : (ks : List (List Counter)) (t : trees.Chart) (c d : Chart) (s : ℕ) (k : Counter) → IsWrittenOut ks t c d
    → IsCounterIn ks t c s k → AssignsOnly (λ name. name ≢ k.name) t → OnlyChart (λ u. u ≢ counter_number t k) c
only ks t c d s k l h other =
    chart_only t l.without.resolved c k.name (counter_number t k) l.without.resolves l.without.checked.chart h.datum_is
    other

pub returns-clause-start : goal.returns-clause-start
returns-clause-start _ ks t c d s k b n l h other =
    exact_start c (counters_for ks t) b (counter_number t k) s (event_number t k) counter_end n h.counter
    (only ks t c d s k l h other) h.first

pub returns-clause-reaction : goal.returns-clause-reaction
returns-clause-reaction _ ks t c d s k b n w log event l h other before =
    exact_reaction c (counters_for ks t) b (counter_number t k) s (event_number t k) counter_end n h.counter
    (only ks t c d s k l h other) w log event before

pub returns-clause-run : goal.returns-clause-run
returns-clause-run _ ks t c d s k b events moments l h other all run =
    run_counts c (counters_for ks t) b (counter_number t k) s (event_number t k) counter_end h.counter
    (only ks t c d s k l h other) h.no_input events moments h.first all
    ((counts.run_counts ks t c d l b events moments).0 run)
