-- Transitions without the new words: one for each case.
use Rattle.std.specs.Prelude.{ℕ, Bool, false, List, [], ◌∷◌, map, Option, Some, None, is_some, if◌then◌else◌}
use Rattle.std.specs.List.{flat_map}
use Rattle.flow_base.specs.Names.{index_of}
use Rattle.token_grammar.specs.declared.token.Span.{Span}
use Rattle.chart_tree.specs.declared.name.NameText.{NameText}
use Rattle.chart_tree.specs.declared.expr.BinWord.TheVariants as words
use Rattle.chart_tree.specs.Trees as core
use Rattle.chart_tree.specs.Trees.{ToJunction}
use Rattle.statechart_tree.specs.Trees.{Stmt, Guard, Trigger, Always, On, AtTime, Every, Case, Trans, Junction}
use Rattle.statechart_meaning.specs.Names.{named, every_name, next_name}
use Rattle.statechart_meaning.specs.Numbers.{number}
use Rattle.statechart_meaning.specs.Times.{counted_event}
use Rattle.statechart_meaning.specs.Scope.{Scope, home_of}
use Rattle.statechart_meaning.specs.Expressions.{expand_expr, test, count, every_number, first_place}
use Rattle.statechart_meaning.specs.Statements.{expand_block}

-- ---- cases

-- an event and a guard
pub record Tried : Type 0 where
  pub event : Option NameText
  pub guard : Option core.Guard

-- a guard
abbrev pub expand_guard : Scope → Option Guard → Option core.Guard
expand_guard s None = None
expand_guard s (Some g) = Some (record { expr = expand_expr s g.expr; at = g.at })

-- a test at a place, and then the guard, if there is one
abbrev pub with_test : Scope → core.Expr → Span → Option Guard → core.Guard
with_test s test at None = record { expr = test; at = at }
with_test s test at (Some g) = record { expr = core.Binary words.And test (expand_expr s g.expr) g.at; at = g.at }

-- the counter of `every(n, E)` for the state in which it is used, at the place of the word
abbrev pub every_counter : Scope → ℕ → NameText → Span → core.Expr
every_counter s n event at =
    core.Name (named (every_name (home_of s.frames) (counted_event s.declared.events event).text n) at)

-- whether it has come to n, which stands at its own place
abbrev pub every_test : Scope → ℕ → Span → NameText → Span → core.Expr
every_test s n place event at =
    core.Binary words.Eq (every_counter s n event at) (core.Lit (number n) place) at

-- the event and the guard of a case
abbrev pub expand_case : Scope → Trigger → Option Guard → Tried
expand_case s Always g = record { event = None; guard = expand_guard s g }
expand_case s (On event) g = record { event = Some event; guard = expand_guard s g }
expand_case s (AtTime word n event at) g = record {
  event = Some (counted_event s.declared.events event);
  guard = Some (with_test s (test s word (count s n (expand_expr s n) event) event at) at g);
}
expand_case s (Every n event at) g = record {
  event = Some (counted_event s.declared.events event);
  guard = Some (with_test s (every_test s (every_number s n event) (first_place n) event at) at g);
}

-- the event of a case that is an event alone
abbrev pub event_alone : Trigger → Option Guard → Option (List ℕ)
event_alone Always g = None
event_alone (On event) None = Some event.text
event_alone (On event) (Some g) = None
event_alone (AtTime word n event at) g = None
event_alone (Every n event at) g = None

-- whether it is an event alone that stands before
abbrev pub stands_before : List (List ℕ) → Option (List ℕ) → Bool
stands_before before None = false
stands_before before (Some event) = is_some (index_of event before)

-- what stands before, and this event alone, if it is one
abbrev pub and_event : List (List ℕ) → Option (List ℕ) → List (List ℕ)
and_event before None = before
and_event before (Some event) = event ∷ before

-- the cases, without events alone that stand before
abbrev pub different : List (List ℕ) → List Case → List Case
different before [] = []
different before (c ∷ cs) =
    let event = event_alone c.trigger c.guard in
    if stands_before before event then different before cs else (c ∷ different (and_event before event) cs)

-- the events and guards of the cases
abbrev pub tried : Scope → List Case → List Tried
tried s cs = map (λ (c : Case). expand_case s c.trigger c.guard) (different [] cs)

-- ---- transitions

-- a transition: one for each case
abbrev pub expand_trans : Scope → Trans → List core.Trans
expand_trans s t = map (λ (x : Tried). record {
  at = t.at;
  event = x.event;
  guard = x.guard;
  cond = expand_block s t.cond;
  act = expand_block s t.act;
  dest = t.dest;
}) (tried s t.cases)

-- transitions in order
abbrev pub expand_list : Scope → List Trans → List core.Trans
expand_list s ts = flat_map (expand_trans s) ts

-- a junction
abbrev pub expand_junction : Scope → Junction → core.Junction
expand_junction s j = record { name = j.name; list = expand_list s j.list }

-- an action for cases: inner transitions that go on with the next one
abbrev pub expand_on : Scope → Span → List Case → List Stmt → List core.Trans
expand_on s at cs block = map (λ (x : Tried). record {
  at = at;
  event = x.event;
  guard = x.guard;
  cond = expand_block s block;
  act = [];
  dest = ToJunction (named next_name at);
}) (tried s cs)
