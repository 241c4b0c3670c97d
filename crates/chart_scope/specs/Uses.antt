-- What a name that is used denotes by number, and the faults of the names that are used.
use Rattle.std.specs.Prelude.{ℕ, List, [], ◌∷◌, ◌++◌, map, Option, Some, None, Result, Ok, Err}
use Rattle.std.specs.List.{flat_map}
use Rattle.token_grammar.specs.declared.token.Span.{Span}
use Rattle.chart_tree.specs.declared.fault.FormKind.TheVariants as kinds
use Rattle.chart_tree.specs.declared.first.FaultAt.{FaultAt}
use Rattle.chart_tree.specs.declared.name.NameText.{NameText}
use Rattle.chart_tree.specs.First.{at_place}
use Rattle.chart_tree.specs.Trees.{Path, Expr, Lit, Flag, Name, Active, Unary, Binary, Stmt, Assign, Send, Emit}
use Rattle.chart_tree.specs.Trees.{Dest, ToState, ToJunction, Guard, Trans}
use Rattle.chart_places.specs.Scopes.{Scopes, Meaning, Event, Datum, meaning_of, state_at, junction_at, nowhere}
use Rattle.resolved_tree.specs.declared.resolved.Ref.{Ref}
use Rattle.resolved_tree.specs.declared.resolved.ResolvedDest.{ResolvedDest}
use Rattle.resolved_tree.specs.declared.resolved.ResolvedDest.TheVariants as to
use Rattle.resolved_tree.specs.Resolved as resolved

-- ---- one name

-- a name where an event is wanted: none is declared with it, or a datum is
abbrev pub event_faults : Option Meaning → Span → List FaultAt
event_faults None at = at_place kinds.UnknownName at ∷ []
event_faults (Some (Event e)) at = []
event_faults (Some (Datum v)) at = at_place kinds.WrongKind at ∷ []

-- a name where a datum is wanted: none is declared with it, or an event is
abbrev pub datum_faults : Option Meaning → Span → List FaultAt
datum_faults None at = at_place kinds.UnknownName at ∷ []
datum_faults (Some (Event e)) at = at_place kinds.WrongKind at ∷ []
datum_faults (Some (Datum v)) at = []

-- a path: a name of it isn't found, at that name
abbrev pub state_faults : Result ℕ Span → List FaultAt
state_faults (Ok s) = []
state_faults (Err at) = at_place kinds.UnknownName at ∷ []

-- a name where a junction is wanted: none is found
abbrev pub junction_faults : Option ℕ → Span → List FaultAt
junction_faults None at = at_place kinds.UnknownName at ∷ []
junction_faults (Some j) at = []

-- the number of what a name means, and 0 where it means nothing
abbrev pub meaning_number : Option Meaning → ℕ
meaning_number None = 0
meaning_number (Some (Event e)) = e
meaning_number (Some (Datum v)) = v

-- the number that was found, and 0 where none was
abbrev pub number_or_zero : Option ℕ → ℕ
number_or_zero None = 0
number_or_zero (Some n) = n

-- the state that was found, and 0 where none was
abbrev pub state_or_zero : Result ℕ Span → ℕ
state_or_zero (Ok s) = s
state_or_zero (Err at) = 0

-- the place of a path: that of its first name
abbrev pub path_place : Path → Span
path_place [] = nowhere
path_place (name ∷ names) = name.at

-- ---- names, each by its number; p has the scopes, and s is the state in which the name stands

-- the name of an event or a datum
abbrev pub declared_ref : Scopes → NameText → Ref
declared_ref p name = record { number = meaning_number (meaning_of p name.text); at = name.at }

-- the path of a state
abbrev pub state_ref : Scopes → ℕ → Path → Ref
state_ref p s path = record { number = state_or_zero (state_at p s path); at = path_place path }

-- the name of a junction
abbrev pub junction_ref : Scopes → ℕ → NameText → Ref
junction_ref p s name = record { number = number_or_zero (junction_at p s name.text); at = name.at }

-- ---- what is made of a part of the text

-- an expression, with numbers for its names
abbrev pub resolved_expr : Scopes → ℕ → Expr → resolved.Expr
resolved_expr p s (Lit lit at) = resolved.Lit lit at
resolved_expr p s (Flag value at) = resolved.Flag value at
resolved_expr p s (Name name) = resolved.Name (declared_ref p name)
resolved_expr p s (Active path at) = resolved.Active (state_ref p s path) at
resolved_expr p s (Unary word e at) = resolved.Unary word (resolved_expr p s e) at
resolved_expr p s (Binary word l r at) = resolved.Binary word (resolved_expr p s l) (resolved_expr p s r) at

-- the state to which an event is sent, if there is one
abbrev pub resolved_target : Scopes → ℕ → Option Path → Option Ref
resolved_target p s None = None
resolved_target p s (Some path) = Some (state_ref p s path)

-- a statement
abbrev pub resolved_stmt : Scopes → ℕ → Stmt → resolved.Stmt
resolved_stmt p s (Assign name value) = resolved.Assign (declared_ref p name) (resolved_expr p s value)
resolved_stmt p s (Send name path) = resolved.Send (declared_ref p name) (resolved_target p s path)
resolved_stmt p s (Emit name) = resolved.Emit (declared_ref p name)

-- a trigger, if there is one
abbrev pub resolved_trigger : Scopes → Option NameText → Option Ref
resolved_trigger p None = None
resolved_trigger p (Some name) = Some (declared_ref p name)

-- a guard, if there is one
abbrev pub resolved_guard : Scopes → ℕ → Option Guard → Option resolved.Guard
resolved_guard p s None = None
resolved_guard p s (Some g) = Some (record { expr = resolved_expr p s g.expr; at = g.at })

-- a destination
abbrev pub resolved_dest : Scopes → ℕ → Dest → ResolvedDest
resolved_dest p s (ToState path) = to.State (state_ref p s path)
resolved_dest p s (ToJunction name) = to.Junction (junction_ref p s name)

-- a transition
abbrev pub resolved_trans : Scopes → ℕ → Trans → resolved.Trans
resolved_trans p s t = record {
  at = t.at;
  event = resolved_trigger p t.event;
  guard = resolved_guard p s t.guard;
  cond = map (resolved_stmt p s) t.cond;
  act = map (resolved_stmt p s) t.act;
  dest = resolved_dest p s t.dest;
}

-- ---- the faults of the names in a part of the text

-- those of an expression
abbrev pub expr_faults : Scopes → ℕ → Expr → List FaultAt
expr_faults p s (Lit lit at) = []
expr_faults p s (Flag value at) = []
expr_faults p s (Name name) = datum_faults (meaning_of p name.text) name.at
expr_faults p s (Active path at) = state_faults (state_at p s path)
expr_faults p s (Unary word e at) = expr_faults p s e
expr_faults p s (Binary word l r at) = expr_faults p s l ++ expr_faults p s r

-- those of the path to which an event is sent
abbrev pub target_faults : Scopes → ℕ → Option Path → List FaultAt
target_faults p s None = []
target_faults p s (Some path) = state_faults (state_at p s path)

-- those of a statement
abbrev pub stmt_faults : Scopes → ℕ → Stmt → List FaultAt
stmt_faults p s (Assign name value) = datum_faults (meaning_of p name.text) name.at ++ expr_faults p s value
stmt_faults p s (Send name path) = event_faults (meaning_of p name.text) name.at ++ target_faults p s path
stmt_faults p s (Emit name) = event_faults (meaning_of p name.text) name.at

-- those of a block
abbrev pub block_faults : Scopes → ℕ → List Stmt → List FaultAt
block_faults p s stmts = flat_map (stmt_faults p s) stmts

-- those of a trigger
abbrev pub trigger_faults : Scopes → Option NameText → List FaultAt
trigger_faults p None = []
trigger_faults p (Some name) = event_faults (meaning_of p name.text) name.at

-- those of a guard
abbrev pub guard_faults : Scopes → ℕ → Option Guard → List FaultAt
guard_faults p s None = []
guard_faults p s (Some g) = expr_faults p s g.expr

-- those of a destination
abbrev pub dest_faults : Scopes → ℕ → Dest → List FaultAt
dest_faults p s (ToState path) = state_faults (state_at p s path)
dest_faults p s (ToJunction name) = junction_faults (junction_at p s name.text) name.at

-- those of a transition
abbrev pub trans_faults : Scopes → ℕ → Trans → List FaultAt
trans_faults p s t =
    trigger_faults p t.event ++ guard_faults p s t.guard ++ block_faults p s t.cond ++ block_faults p s t.act
    ++ dest_faults p s t.dest

-- those of a list of transitions
abbrev pub list_faults : Scopes → ℕ → List Trans → List FaultAt
list_faults p s ts = flat_map (trans_faults p s) ts
