-- How counters are set to 0 and counted.
use Rattle.std.specs.Prelude.{ℕ, false, List, [], ◌∷◌, map, Some, None, bytes_eq}
use Rattle.std.specs.List.{filter}
use Rattle.token_grammar.specs.declared.token.Span.{Span}
use Rattle.chart_tree.specs.declared.name.NameText.{NameText}
use Rattle.chart_tree.specs.declared.expr.BinWord.TheVariants as words
use Rattle.chart_tree.specs.Trees as core
use Rattle.chart_tree.specs.Trees.{ToJunction}
use Rattle.statechart_meaning.specs.Names.{named, next_name, end_name}
use Rattle.statechart_meaning.specs.Numbers.{number}
use Rattle.statechart_meaning.specs.Counting.{without, OnAction}
use Rattle.statechart_meaning.specs.Declared.{Counter, EveryCounter}

-- a counter becomes 0, at the place
abbrev pub to_zero : List ℕ → Span → core.Stmt
to_zero text at = core.Assign (named text at) (core.Lit (number 0) at)

-- a counter becomes 0, at the place of its event
abbrev pub reset : Counter → core.Stmt
reset k = to_zero k.name k.event.at

-- one of `every` becomes 0, at the place of its event
abbrev pub every_reset : EveryCounter → core.Stmt
every_reset k = to_zero k.name k.counts.event.at

-- a counter becomes one more, at the place
abbrev pub count_up : Span → Counter → core.Stmt
count_up at k =
    let name = named k.name at in
    core.Assign name (core.Binary words.Add (core.Name name) (core.Lit (number 1) at) at)

-- that of `every(n, E)` goes from 1 to n and again: m = m - m / n * n + 1
abbrev pub count_around : Span → EveryCounter → core.Stmt
count_around at k =
    let name = named k.name at in
    let m = core.Name name in
    let n = core.Lit (number k.counts.number) at in
    let whole = core.Binary words.Mul (core.Binary words.Div m n at) n at in
    core.Assign name (core.Binary words.Add (core.Binary words.Sub m whole at) (core.Lit (number 1) at) at)

-- the transition of the statechart's inner list that does the statements at an event
abbrev pub counting_trans : NameText → List core.Stmt → core.Trans
counting_trans e stmts = record {
  at = e.at;
  event = Some e;
  guard = None;
  cond = stmts;
  act = [];
  dest = ToJunction (named next_name e.at);
}

-- it counts the event with all its counters
abbrev pub counting : List Counter → NameText → core.Trans
counting ks e =
    counting_trans e (map (count_up e.at) (filter (λ (k : Counter). bytes_eq k.event.text e.text) ks))

-- the event is counted with all its counters of `every`
abbrev pub every_counting : List EveryCounter → NameText → core.Trans
every_counting ks e =
    counting_trans e (map (count_around e.at) (filter (λ (k : EveryCounter). bytes_eq k.counts.event.text e.text) ks))

-- the events that any state counts
abbrev pub events_of : List Counter → List NameText
events_of ks = without [] (map (λ (k : Counter). k.event) ks)

-- the events that any state counts for an `every`
abbrev pub every_events : List EveryCounter → List NameText
every_events ks = without [] (map (λ (k : EveryCounter). k.counts.event) ks)

-- the junction at which nothing is found, at the place
abbrev pub next_junction : Span → core.Junction
next_junction at = record {
  name = named next_name at;
  list =
      record {
        at = at;
        event = None;
        guard = Some (record { expr = core.Flag false at; at = at });
        cond = [];
        act = [];
        dest = ToJunction (named end_name at);
      } ∷ [];
}

-- the empty junction to which its transition leads, which is never taken
abbrev pub end_junction : Span → core.Junction
end_junction at = record { name = named end_name at; list = [] }

-- these junctions, where something leads to them
abbrev pub next_junctions : List Counter → List EveryCounter → List OnAction → Span → List core.Junction
next_junctions [] [] [] at = []
next_junctions [] [] (o ∷ os) at = next_junction at ∷ (end_junction at ∷ [])
next_junctions [] (k ∷ ks) os at = next_junction at ∷ (end_junction at ∷ [])
next_junctions (k ∷ ks) every os at = next_junction at ∷ (end_junction at ∷ [])
