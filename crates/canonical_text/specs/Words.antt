-- Tokens without their places, and what they spell.
use Rattle.std.specs.Prelude.{◌≡◌, ℕ, IsTrue, List, [], ◌∷◌, map, length}
use Rattle.token_grammar.specs.declared.token.Kind.{Kind}
use Rattle.token_grammar.specs.declared.token.Kind.TheVariants as kinds
use Rattle.token_grammar.specs.Token.{Lexeme}
use Rattle.token_grammar.specs.Grammar.{Grammar}
use Rattle.chart_lexer.specs.Bytes.{begins, is_digit}
use Rattle.chart_lexer.specs.Numbers.{number_length}
use Rattle.chart_lexer.specs.Words.{is_name}
use Rattle.chart_print.specs.Pieces.{Piece, Token, Blank}

-- a token without its place
pub record Word : Type 0 where
  pub kind : Kind
  pub text : List ℕ

-- the word of a token
abbrev pub word_of : Lexeme → Word
word_of t = record { kind = t.kind; text = t.text }

-- the words of tokens
abbrev pub words_of : List Lexeme → List Word
words_of tokens = map word_of tokens

-- the words among pieces
abbrev pub words_in : List Piece → List Word
words_in [] = []
words_in (Token kind bytes ∷ pieces) = record { kind = kind; text = bytes } ∷ words_in pieces
words_in (Blank bytes ∷ pieces) = words_in pieces

-- a text that is one number
abbrev pub IsNumber : List ℕ → Type 0
IsNumber text = IsTrue (begins is_digit text) × (number_length text ≡ length text)

-- a token that is cut from a text: where it is of kind Name, its text is a NAME, and where it is of
-- kind Number, its text is a number
pub record IsCut (t : Lexeme) : Type 0 where
  pub name : t.kind ≡ kinds.Name → IsTrue (is_name t.text)
  pub number : t.kind ≡ kinds.Number → IsNumber t.text

-- the tokens spell a value with this view
pub record SpellsLike {X Y : Type 0} (g : Grammar X) (view : X → Y) (u : List Lexeme) (y : Y) : Type 0 where
  pub value : X
  pub spelled : g.spells u value
  pub looks : view value ≡ y

-- wherever they stand, tokens of these words spell a value with this view
abbrev pub WordsSpell : {X Y : Type 0} → Grammar X → (X → Y) → List Word → Y → Type 0
WordsSpell g view words y = (u : List Lexeme) → words_of u ≡ words → SpellsLike g view u y
