-- Counters in the tree of a chart text: how they are declared, and what sets them to 0, counts and tests them.
use Rattle.std.specs.Prelude.{◌-◌, ◌^◌, ℕ, false, List, [], ◌∷◌, map, None, Some, codes, bytes_eq, is_some}
use Rattle.std.specs.Prelude.{if◌then◌else◌}
use Rattle.std.specs.List.{filter}
use Rattle.fixed_point.specs.declared.fitting.Mode.TheVariants.{Saturate}
use Rattle.flow_base.specs.Names.{index_of}
use Rattle.token_grammar.specs.declared.token.Span.{Span}
use Rattle.chart_tree.specs.declared.chart.VarWord.TheVariants.{Local}
use Rattle.chart_tree.specs.declared.expr.BinWord.TheVariants as words
use Rattle.chart_tree.specs.declared.name.LitText.{LitText}
use Rattle.chart_tree.specs.declared.name.NameText.{NameText}
use Rattle.chart_tree.specs.declared.sort.InitText.TheVariants as inits
use Rattle.chart_tree.specs.Trees.{Var, NumberSort, Expr, Lit, Flag, Name, Binary, Stmt, Assign, ToJunction, Trans}
use Rattle.chart_tree.specs.Trees.{Junction}

-- a counter of a state: the name of its datum, and the event that it counts, with the place at which its parts stand
pub record Counter : Type 0 where
  pub name : List ℕ
  pub event : NameText

-- a whole number as it is written
abbrev pub number : ℕ → LitText
number n = record { units = n; places = 0; q = None }

-- a name at a place
abbrev pub named : List ℕ → Span → NameText
named text at = record { text = text; at = at }

-- the greatest number of a counter
abbrev pub counter_end : ℕ
counter_end = 2 ^ 32 - 1

-- ---- declarations

-- the declaration of a counter: a whole number of 32 bits that is 0 at first and stays at its greatest value
abbrev pub counter_var : Counter → Var
counter_var k = record {
  kind = Local;
  name = named k.name k.event.at;
  sort = NumberSort (record { signed = false; width = 32; frac = 0 }) Saturate;
  init = inits.Number false (number 0) k.event.at;
}

-- the name of the junction at which nothing is found
abbrev pub next_name : List ℕ
next_name = codes "after__next"

-- the name of the junction to which its transition leads, which is never taken
abbrev pub end_name : List ℕ
end_name = codes "after__end"

-- the junction at which nothing is found: its only transition has the guard `false`
abbrev pub next_junction : Span → Junction
next_junction at = record {
  name = named next_name at;
  list =
      record {
        at = at;
        event = None;
        guard = Some (record { expr = Flag false at; at = at });
        cond = [];
        act = [];
        dest = ToJunction (named end_name at);
      } ∷ [];
}

-- ---- what sets to 0, counts and tests

-- a counter becomes 0
abbrev pub reset_stmt : Counter → Stmt
reset_stmt k = Assign (named k.name k.event.at) (Lit (number 0) k.event.at)

-- a counter becomes one more, at the place
abbrev pub count_stmt : Span → Counter → Stmt
count_stmt at k = Assign (named k.name at) (Binary words.Add (Name (named k.name at)) (Lit (number 1) at) at)

-- the transition that counts an event with all of its counters, to the junction at which nothing is found
abbrev pub count_trans : List Counter → NameText → Trans
count_trans ks e = record {
  at = e.at;
  event = Some e;
  guard = None;
  cond = map (count_stmt e.at) (filter (λ (k : Counter). bytes_eq k.event.text e.text) ks);
  act = [];
  dest = ToJunction (named next_name e.at);
}

-- the names whose texts aren't among some, each text once
abbrev pub without : List (List ℕ) → List NameText → List NameText
without others [] = []
without others (x ∷ xs) =
    if is_some (index_of x.text others) then without others xs else (x ∷ without (x.text ∷ others) xs)

-- the events that counters count, each once, in the order of the counters
abbrev pub events_of : List Counter → List NameText
events_of ks = without [] (map (λ (k : Counter). k.event) ks)

-- the test `after(n, E)` with that counter, at the place of its word: whether the counter is at least n
abbrev pub after_test : Counter → Expr → Span → Expr
after_test k n at = Binary words.Ge (Name (named k.name at)) n at
