-- Functions that are called.
use Rattle.std.specs.Prelude.{ℕ, List, [], ◌∷◌, ◌++◌, map, Option, Some, None, bytes_eq, if◌then◌else◌}
use Rattle.chart_tree.specs.declared.expr.BinWord.{BinWord}
use Rattle.chart_tree.specs.declared.expr.BinWord.TheVariants as words
use Rattle.statechart_tree.specs.declared.expr.TimeWord.{TimeWord}
use Rattle.statechart_tree.specs.declared.expr.TimeWord.TheVariants as times
use Rattle.statechart_tree.specs.Trees.{Function}
use Rattle.statechart_tree.specs.Views.{function_of}
use Rattle.statechart_expressions.specs.declared.calls.Called as code

-- a function, and those that are declared above it
pub record Called : Type 0 where
  pub function : Function
  pub above : List Function

-- the first function of the name, where these stand above the others
abbrev pub called_behind : List Function → List Function → List ℕ → Option Called
called_behind above [] name = None
called_behind above (f ∷ fs) name =
    if bytes_eq f.name.text name then Some (record { function = f; above = above })
    else called_behind (above ++ f ∷ []) fs name

-- the first function of the name
abbrev pub called : List Function → List ℕ → Option Called
called fs name = called_behind [] fs name

-- that of the code
abbrev pub called_seen : code.Called → Called
called_seen c = record { function = function_of c.function.now; above = map function_of c.above.now }

-- the operator between a counter and the count of a word
abbrev pub asked : TimeWord → BinWord
asked times.After = words.Ge
asked times.Before = words.Lt
asked times.At = words.Eq
