-- What calls of functions stand for.
use Rattle.std.specs.Prelude.{List, [], ◌∷◌, bytes_eq, is_some, if◌then◌else◌}
use Rattle.flow_base.specs.Names.{index_of}
use Rattle.chart_tree.specs.declared.name.NameText.{NameText}
use Rattle.chart_tree.specs.Trees as core
use Rattle.statechart_tree.specs.Trees.{Body, Block, Value, Function}
use Rattle.statechart_meaning.specs.Scope.{Declared, Frame, Argument, Calls, Scope}
use Rattle.statechart_meaning.specs.Expressions.{expand_expr}
use Rattle.statechart_meaning.specs.Statements.{expand_block}

-- where there is no function, a call is a name that nothing declares, or no statement
abbrev pub no_calls : Calls
no_calls = record { names = []; value = λ name arguments. core.Name name; block = λ name arguments. [] }

-- the arguments of the parameters; what is left over isn't accepted
abbrev pub bound : List NameText → List core.Expr → List Argument
bound [] values = []
bound (p ∷ ps) [] = []
bound (p ∷ ps) (v ∷ vs) = record { name = p.text; value = v } ∷ bound ps vs

-- a function stands in the statechart, and sees these functions
abbrev pub scope_in : List Frame → Declared → Calls → Function → List core.Expr → Scope
scope_in frames declared calls f values =
    record { arguments = bound f.params values; frames = frames; declared = declared; calls = calls }

-- the value of a function; one of statements has none
abbrev pub body_value : Scope → Body → NameText → core.Expr
body_value s (Block stmts) name = core.Name name
body_value s (Value e) name = expand_expr s e

-- the statements of a function; one of a value has none
abbrev pub body_block : Scope → Body → List core.Stmt
body_block s (Block stmts) = expand_block s stmts
body_block s (Value e) = []

-- one function more, behind those that it sees
abbrev pub and_function : List Frame → Declared → Calls → Function → Calls
and_function frames declared calls f = record {
  names = f.name.text ∷ calls.names;
  value = λ name values.
      if bytes_eq f.name.text name.text then body_value (scope_in frames declared calls f values) f.body name
      else calls.value name values;
  block = λ name values.
      if bytes_eq f.name.text name.text then body_block (scope_in frames declared calls f values) f.body
      else calls.block name values;
}

-- a name means the first function that has it
abbrev pub with_function : List Frame → Declared → Calls → Function → Calls
with_function frames declared calls f =
    if is_some (index_of f.name.text calls.names) then calls else and_function frames declared calls f

-- functions behind those that are known, each of which sees those above it
abbrev pub calls_after : List Frame → Declared → Calls → List Function → Calls
calls_after frames declared calls [] = calls
calls_after frames declared calls (f ∷ fs) =
    calls_after frames declared (with_function frames declared calls f) fs

-- the functions of a statechart, which stand in the frame of the statechart
abbrev pub calls_of : List Frame → Declared → List Function → Calls
calls_of frames declared fs = calls_after frames declared no_calls fs
