-- The counters of a chart text by number.
use Rattle.std.specs.Prelude.{ℕ, List, map, bytes_eq}
use Rattle.std.specs.List.{filter}
use Rattle.chart_places.specs.Scopes.{Scopes, scopes_of, meaning_of, junction_at}
use Rattle.chart_scope.specs.Uses.{meaning_number, number_or_zero}
use Rattle.chart_tree.specs.declared.name.NameText.{NameText}
use Rattle.chart_tree.specs.Trees.{Chart}
use Rattle.counting_rules.specs.Counters.{Counted, Counters}
use Rattle.counting_trees.specs.Counters.{Counter, next_name, events_of}
use Rattle.counting_trees.specs.Counting.{own, all_of}

-- the number of the event or the datum that a name means
abbrev pub number_of : Scopes → List ℕ → ℕ
number_of p text = meaning_number (meaning_of p text)

-- an event that is counted, and its counters
abbrev pub counted_as : Scopes → List Counter → NameText → Counted
counted_as p ks e = record {
  event = number_of p e.text;
  counters =
      map (λ (k : Counter). number_of p k.name) (filter (λ (k : Counter). bytes_eq k.event.text e.text) ks);
}

-- the counters of states, where names mean what they mean there
abbrev pub counters_in : Scopes → List (List Counter) → Counters
counters_in p ks = record {
  counted = map (counted_as p (all_of ks)) (events_of (all_of ks));
  resets = λ s. map (λ (k : Counter). number_of p k.name) (own ks s);
}

-- the counters of the states of a chart text
unfoldable pub counters_for : List (List Counter) → Chart → Counters
counters_for ks t = counters_in (scopes_of t) ks

-- the junction at which nothing is found
unfoldable pub way_for : Chart → ℕ
way_for t = number_or_zero (junction_at (scopes_of t) 0 next_name)

-- the datum of a counter, and the event that it counts
abbrev pub counter_number : Chart → Counter → ℕ
counter_number t k = number_of (scopes_of t) k.name

abbrev pub event_number : Chart → Counter → ℕ
event_number t k = number_of (scopes_of t) k.event.text
