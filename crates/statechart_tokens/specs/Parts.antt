-- Parts of productions that the reader reads by methods of their own.
use Rattle.std.specs.Prelude.{◌∷◌}
use Rattle.token_grammar.specs.declared.token.Kind.{Kind}
use Rattle.token_grammar.specs.Grammar.{Grammar, token, give, ◌>>=◌, ◌>>◌}
use Rattle.chart_tree.specs.declared.name.NameText.{NameText}
use Rattle.chart_tree.specs.Trees.{Path}
use Rattle.statechart_grammar.specs.Words.{parts}

-- ('.' NAME)*, behind the first NAME of a target
abbrev pub longer : NameText → Grammar Path
longer first = do
  others ← parts
  give (first ∷ others)

-- a token of that kind, after which the value is given
abbrev pub closed_by : {X : Type 0} → Kind → X → Grammar X
closed_by kind value = do
  token kind
  give value
