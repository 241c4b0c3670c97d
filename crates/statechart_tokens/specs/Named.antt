-- Tokens of kind Name, whose text is a NAME.
use Rattle.std.specs.Prelude.{Bool, not, ◌||◌, List, IsTrue}
use Rattle.std.specs.List.{list_all}
use Rattle.token_grammar.specs.declared.token.Kind.TheVariants as kinds
use Rattle.token_grammar.specs.Token.{Lexeme, kind_eq}
use Rattle.chart_lexer.specs.Words.{is_name}

-- a token of kind Name has a name as its text
abbrev pub is_named : Lexeme → Bool
is_named t = not (kind_eq t.kind kinds.Name) || is_name t.text

-- each token of a list is so
abbrev pub AreNamed : List Lexeme → Type 0
AreNamed ts = IsTrue (list_all is_named ts)
