-- What the code counts again and again, as definitions see it.
use Rattle.std.specs.Prelude.{List, ◌++◌}
use Rattle.statechart_tree.specs.Trees.{Trans}
use Rattle.statechart_meaning.specs.Scope.{Scope}
use Rattle.statechart_meaning.specs.Counting.{OnAction, Recurring, every_cases, different_every}
use Rattle.statechart_counters.specs.Seen.{counted_seen}
use Rattle.statechart_counters.specs.declared.recurring.Recurring as code

-- an event that is counted up to a number of the code
abbrev pub recurring_seen : code.Recurring → Recurring
recurring_seen r = record { event = counted_seen r.event; number = r.number }

-- some, and behind them the others that aren't among them, each once
unfoldable pub collected : List Recurring → List Recurring → List Recurring
collected xs ys = xs ++ different_every xs ys

-- what an action for cases counts again and again
abbrev pub on_cases : Scope → OnAction → List Recurring
on_cases s o = every_cases s o.cases

-- what a transition counts again and again
abbrev pub trans_cases : Scope → Trans → List Recurring
trans_cases s t = every_cases s t.cases
