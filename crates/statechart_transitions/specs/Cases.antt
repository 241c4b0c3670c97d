-- Cases of the code as definitions see them.
use Rattle.std.specs.Prelude.{ℕ, List, [], ◌∷◌, map, Option, Some, None}
use Rattle.std.specs.List.{flat_map}
use Rattle.std.specs.Option.{option_map}
use Rattle.token_grammar.specs.declared.token.Span.{Span}
use Rattle.chart_tree.specs.declared.name.NameText.{NameText}
use Rattle.chart_tree.specs.Trees as core
use Rattle.chart_tree.specs.Views.{guard_of}
use Rattle.statechart_tree.specs.Trees.{Case, Guard, Stmt}
use Rattle.statechart_meaning.specs.Scope.{Scope}
use Rattle.statechart_meaning.specs.Statements.{expand_block}
use Rattle.statechart_meaning.specs.Times.{counted_event}
use Rattle.statechart_meaning.specs.Transitions.{Tried, with_test, event_alone, tried}
use Rattle.statechart_transitions.specs.declared.cases.Tried as code

-- an event and a guard of the code
abbrev pub tried_seen : code.Tried → Tried
tried_seen t = record { event = t.event; guard = option_map guard_of t.guard }

-- the text of a name
abbrev pub name_text : NameText → List ℕ
name_text name = name.text

-- the event that is counted, with a test and the guard
abbrev pub tested_by : Scope → NameText → core.Expr → Span → Option Guard → Tried
tested_by s event test at g = record {
  event = Some (counted_event s.declared.events event);
  guard = Some (with_test s test at g);
}

-- the text, if there is one
abbrev pub some_text : Option (List ℕ) → List (List ℕ)
some_text None = []
some_text (Some text) = text ∷ []

-- the events alone among cases
abbrev pub alone_in : List Case → List (List ℕ)
alone_in cs = flat_map (λ (c : Case). some_text (event_alone c.trigger c.guard)) cs

-- the transition of a case, with the rest
abbrev pub one_transition : Scope → Span → List Stmt → List Stmt → core.Dest → Tried → core.Trans
one_transition s at cond act dest x = record {
  at = at;
  event = x.event;
  guard = x.guard;
  cond = expand_block s cond;
  act = expand_block s act;
  dest = dest;
}

-- those of cases
abbrev pub case_transitions : Scope → Span → List Case → List Stmt → List Stmt → core.Dest → List core.Trans
case_transitions s at cs cond act dest = map (one_transition s at cond act dest) (tried s cs)
