-- Parts of productions that the code reads by functions of their own.
use Rattle.std.specs.Prelude.{List, ◌∷◌}
use Rattle.token_grammar.specs.declared.token.Kind.TheVariants as kinds
use Rattle.token_grammar.specs.Grammar.{Grammar, is, token, give, either, many_from, ◌>>=◌, ◌>>◌}
use Rattle.chart_tree.specs.declared.name.NameText.{NameText}
use Rattle.chart_grammar.specs.Limits.{usual}
use Rattle.chart_grammar.specs.Words.{name}
use Rattle.statechart_tree.specs.Trees.{Exprs, NoExpr, ActionWord}
use Rattle.statechart_grammar.specs.Expressions.{operand_heads}
use Rattle.statechart_grammar.specs.Transitions.{some_values}
use Rattle.statechart_grammar.specs.States.{Done, after_word, another_word}

-- args?
abbrev pub values : Grammar Exprs
values = either operand_heads (some_values usual) (give NoExpr)

-- ',' NAME ')', behind the count of a temporal word
unfoldable pub event_behind : Grammar NameText
event_behind = do
  token kinds.Comma
  event ← name
  token kinds.CloseParen
  give event

-- (',' action)*, with the first action
unfoldable pub all_words : Done → ActionWord → Grammar (List ActionWord)
all_words d first = do
  others ← many_from (λ z. is kinds.Comma) (another_word usual) after_word (after_word d first)
  give (first ∷ others)
