-- Expressions without the new words.
use Rattle.std.specs.Prelude.{ℕ, false, List, [], ◌∷◌, Option, Some, None}
use Rattle.std.specs.Option.{option_map, option_and_then, unwrap_or}
use Rattle.token_grammar.specs.declared.token.Span.{Span}
use Rattle.chart_tree.specs.declared.name.NameText.{NameText}
use Rattle.chart_tree.specs.declared.expr.UnWord.TheVariants.{Neg, Not}
use Rattle.chart_tree.specs.declared.expr.BinWord.TheVariants as words
use Rattle.chart_tree.specs.Trees as core
use Rattle.chart_tree.specs.Trees.{Path}
use Rattle.statechart_tree.specs.declared.expr.TimeWord.{TimeWord}
use Rattle.statechart_tree.specs.declared.expr.TimeWord.TheVariants as times
use Rattle.statechart_tree.specs.Trees.{Expr, Lit, Flag, Name, Active, Count, Timed, Call, Unary, Binary, Exprs, NoExpr}
use Rattle.statechart_tree.specs.Trees.{MoreExprs}
use Rattle.statechart_meaning.specs.Names.{named, counter_name}
use Rattle.statechart_meaning.specs.Values.{Value, NumberValue, FlagValue, value_expr, minus, literal_of}
use Rattle.statechart_meaning.specs.Times.{timer_of, counted_event, literal_count, count_or}
use Rattle.statechart_meaning.specs.Scope.{Scope, Meaning, IsArgument, IsDatum, IsValue, IsUnknown, meaning_of, first_name}
use Rattle.statechart_meaning.specs.Scope.{home_of}

-- ---- names

-- a name that is read: an argument, a datum, or a value, at its place; an unknown name stays as it is
abbrev pub meaning_expr : Meaning → NameText → core.Expr
meaning_expr (IsArgument e) name = e
meaning_expr (IsDatum text) name = core.Name (named text name.at)
meaning_expr (IsValue v) name = value_expr v name.at
meaning_expr IsUnknown name = core.Name name

-- a path that is read
abbrev pub name_expr : Scope → Path → core.Expr
name_expr s path = meaning_expr (meaning_of s path) (first_name path)

-- the counter of an event for the state in which it is used, at the place of the word
abbrev pub counter : Scope → NameText → Span → core.Expr
counter s event at = core.Name (named (counter_name (home_of s.frames) event.text) at)

-- that of the event that is counted where an event or a unit stands
abbrev pub timed_counter : Scope → NameText → Span → core.Expr
timed_counter s event at = counter s (counted_event s.declared.events event) at

-- the test of a word, where the count is n
abbrev pub test : Scope → TimeWord → core.Expr → NameText → Span → core.Expr
test s times.After n event at = core.Binary words.Ge (timed_counter s event at) n at
test s times.Before n event at = core.Binary words.Lt (timed_counter s event at) n at
test s times.At n event at = core.Binary words.Eq (timed_counter s event at) n at

-- ---- counts

-- the value of a constant or an enumerator, where a name means one
abbrev pub meaning_value : Meaning → Option Value
meaning_value (IsArgument e) = None
meaning_value (IsDatum text) = None
meaning_value (IsValue v) = Some v
meaning_value IsUnknown = None

-- the value of a count that is a literal, a constant or an enumerator, with minus signs before it; no other count has
-- one
abbrev pub written_value : Scope → Expr → Option Value
written_value s (Lit lit at) = Some (NumberValue false lit)
written_value s (Flag value at) = Some (FlagValue value)
written_value s (Name path) = meaning_value (meaning_of s path)
written_value s (Active path at) = None
written_value s (Count event at) = None
written_value s (Timed word n event at) = None
written_value s (Call name arguments) = None
written_value s (Unary Neg e at) = option_map minus (written_value s e)
written_value s (Unary Not e at) = None
written_value s (Binary word l r at) = None

-- its number, in steps of the clock where the name is a unit; only a whole number is one
abbrev pub written_count : Scope → Expr → NameText → Option ℕ
written_count s n event =
    option_and_then (literal_count (timer_of s.declared.events event.text))
    (option_and_then literal_of (written_value s n))

-- the place of an expression: that of its first token
abbrev pub first_place : Expr → Span
first_place (Lit lit at) = at
first_place (Flag value at) = at
first_place (Name path) = (first_name path).at
first_place (Active path at) = at
first_place (Count event at) = at
first_place (Timed word n event at) = at
first_place (Call name arguments) = name.at
first_place (Unary word e at) = at
first_place (Binary word l r at) = first_place l

-- the count of a word, where it stands for that expression
abbrev pub count : Scope → Expr → core.Expr → NameText → core.Expr
count s n e event =
    count_or (written_count s n event) (first_place n) (timer_of s.declared.events event.text) e

-- the number of `every`; 0 isn't accepted
abbrev pub every_number : Scope → Expr → NameText → ℕ
every_number s n event = unwrap_or (written_count s n event) 0

-- ---- expressions

abbrev mutual
  -- an expression
  pub expand_expr : Scope → Expr → core.Expr
  expand_expr s (Lit lit at) = core.Lit lit at
  expand_expr s (Flag value at) = core.Flag value at
  expand_expr s (Name path) = name_expr s path
  expand_expr s (Active path at) = core.Active path at
  expand_expr s (Count event at) = counter s event at
  expand_expr s (Timed word n event at) = test s word (count s n (expand_expr s n) event) event at
  expand_expr s (Call name arguments) = s.calls.value name (expand_exprs s arguments)
  expand_expr s (Unary word e at) = core.Unary word (expand_expr s e) at
  expand_expr s (Binary word l r at) = core.Binary word (expand_expr s l) (expand_expr s r) at

  -- expressions in order
  pub expand_exprs : Scope → Exprs → List core.Expr
  expand_exprs s NoExpr = []
  expand_exprs s (MoreExprs e others) = expand_expr s e ∷ expand_exprs s others
