-- The tree of a chart text with two counters of one event is ready, has no fault of names in which they count, and has
-- these counters by number.
--
--     chart H or {
--       event input TICK; event input GO; local a : uint32; local b : uint32;
--       inner TICK { a = a + 1; b = b + 1; } -> @after__next;                          (with counting)
--       default -> A; junction after__next { [false] -> @after__end; } junction after__end { }
--       state A { entry { a = 0; } (with counting) outer TICK [a >= 2] -> B; }
--       state B { entry { b = 0; } (with counting) outer GO [b >= 3] -> A; }
--     }
use Rattle.std.proofs.Common.{◌≡◌, refl, ℕ, List, [], ◌∷◌, Option, Some, None, codes, arith}
use Rattle.token_grammar.specs.declared.token.Span.{Span}
use Rattle.chart_tree.specs.declared.chart.EventText.{EventText}
use Rattle.chart_tree.specs.declared.chart.EventWord.TheVariants as event_words
use Rattle.chart_tree.specs.declared.name.NameText.{NameText}
use Rattle.chart_tree.specs.declared.state.CompText.{CompText}
use Rattle.chart_tree.specs.declared.state.CompText.TheVariants as comps
use Rattle.chart_tree.specs.Trees.{Lit, Guard, ToState, Trans, Junction, State, StateOf, States, NoState, MoreStates, Chart}
use Rattle.active_config.specs.Tree.{children_of, children_below, ancestors, ancestors_within, parent_of, is_child}
use Rattle.active_config.specs.Tree.{state_count}
use Rattle.chart_places.specs.Placed.{placed_states, placed_tree, placed_junctions}
use Rattle.chart_places.specs.Scopes.{scopes_of, meaning_of, junction_at, junction_named, state_named, child_named}
use Rattle.chart_scope.specs.Names.{name_faults}
use Rattle.counting_trees.specs.Counters.{Counter, number, named, counter_var, end_name, next_junction, after_test}
use Rattle.counting_trees.specs.Counting.{counting, IsReady}
use Rattle.counting_trees.specs.Numbers.{counters_for, way_for}

abbrev here : Span
here = record { line = 1; column = 1 }

abbrev name : List ℕ → NameText
name text = named text here

abbrev event : List ℕ → EventText
event text = record { kind = event_words.Input; name = name text }

abbrev to : List ℕ → Option NameText → Option Guard → Trans
to state e guard = record {
  at = here;
  event = e;
  guard = guard;
  cond = [];
  act = [];
  dest = ToState (name state ∷ []);
}

abbrev state : List ℕ → CompText → List Trans → List Trans → List Junction → States → State
state text comp outer default junctions states =
    StateOf (record {
      name = name text;
      comp = comp;
      entry = [];
      during = [];
      exit = [];
      history = None;
      outer = outer;
      inner = [];
      default = default;
      junctions = junctions;
    }) states

abbrev of_a : Counter
of_a = record { name = codes "a"; event = name (codes "TICK") }

abbrev of_b : Counter
of_b = record { name = codes "b"; event = name (codes "TICK") }

abbrev guard : Counter → ℕ → Option Guard
guard k n = Some (record { expr = after_test k (Lit (number n) here) here; at = here })

-- the tree, and its counters by state
abbrev two : Chart
two = record {
  events = event (codes "TICK") ∷ (event (codes "GO") ∷ []);
  vars = counter_var of_a ∷ (counter_var of_b ∷ []);
  root =
      state (codes "H") comps.Or [] (to (codes "A") None None ∷ [])
      (next_junction here ∷ (record { name = name end_name; list = [] } ∷ []))
      (MoreStates
      (state (codes "A") comps.None (to (codes "B") (Some (name (codes "TICK"))) (guard of_a 2) ∷ []) [] [] NoState)
      (MoreStates
      (state (codes "B") comps.None (to (codes "A") (Some (name (codes "GO"))) (guard of_b 3) ∷ []) [] [] NoState)
      NoState));
}

abbrev counters : List (List Counter)
counters = [] ∷ ((of_a ∷ []) ∷ ((of_b ∷ []) ∷ []))

-- it is ready
two_ready : IsReady counters two
unfolding placed_states
two_ready = record {
  others = [];
  vars = refl;
  states = omega arith;
  junction = λ some. (here, (0, omega arith, refl));
}

-- names have no faults where the counters count
two_faultless : name_faults (counting counters two) ≡ []
unfolding name_faults counting scopes_of placed_states placed_tree placed_junctions meaning_of junction_at junction_named state_named child_named children_of children_below ancestors ancestors_within parent_of is_child state_count
two_faultless = refl

-- TICK, of number 0, is counted by data 0 and 1
two_counted : (counters_for counters two).counted ≡ record { event = 0; counters = 0 ∷ (1 ∷ []) } ∷ []
unfolding counters_for scopes_of placed_states placed_tree placed_junctions meaning_of
two_counted = refl

-- state 0 sets none of them to 0, A the first, and B the second
two_resets : ((counters_for counters two).resets 0 ≡ []) × ((counters_for counters two).resets 1 ≡ 0 ∷ [])
    × ((counters_for counters two).resets 2 ≡ 1 ∷ []) × ((counters_for counters two).resets 3 ≡ [])
unfolding counters_for scopes_of placed_states placed_tree placed_junctions meaning_of
two_resets = (refl, refl, refl, refl)

-- the junction after__next is the first
two_way : way_for two ≡ 0
unfolding way_for scopes_of placed_states placed_tree placed_junctions junction_at junction_named ancestors ancestors_within parent_of
two_way = refl
