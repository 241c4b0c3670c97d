-- The pieces of a text: its tokens, and the blanks between them.
use Rattle.std.specs.Prelude.{ℕ, zero, suc, List, [], ◌∷◌, ◌++◌, codes}
use Rattle.std.specs.List.{flat_map}
use Rattle.token_grammar.specs.declared.token.Kind.{Kind}
use Rattle.token_grammar.specs.declared.token.Kind.TheVariants as kinds

-- a token or blanks, with the bytes
pub data Piece : Type 0 where
  Token : Kind → List ℕ → Piece
  Blank : List ℕ → Piece

-- the bytes of a piece
abbrev pub piece_bytes : Piece → List ℕ
piece_bytes (Token kind bytes) = bytes
piece_bytes (Blank bytes) = bytes

-- the bytes of pieces, one after the other
unfoldable pub bytes_of : List Piece → List ℕ
bytes_of pieces = flat_map piece_bytes pieces

-- a text with pieces after it
unfoldable pub written : List ℕ → List Piece → List ℕ
written text pieces = text ++ bytes_of pieces

-- ---- blanks

-- one space
unfoldable pub space : List Piece
space = Blank (codes " ") ∷ []

-- two spaces for each level
unfoldable pub indent : ℕ → List Piece
indent zero = []
indent (suc level) = Blank (codes "  ") ∷ indent level

-- the end of a line
unfoldable pub newline : List Piece
newline = Blank (10 ∷ []) ∷ []

-- a line of its own at a level
unfoldable pub line : ℕ → List Piece → List Piece
line level content = indent level ++ content ++ newline

-- ---- keywords and symbols

-- the bytes of a keyword or a symbol; names, numbers and comments have no fixed bytes
unfoldable pub kind_bytes : Kind → List ℕ
kind_bytes kinds.Chart = codes "chart"
kind_bytes kinds.Or = codes "or"
kind_bytes kinds.And = codes "and"
kind_bytes kinds.State = codes "state"
kind_bytes kinds.Entry = codes "entry"
kind_bytes kinds.During = codes "during"
kind_bytes kinds.Exit = codes "exit"
kind_bytes kinds.Outer = codes "outer"
kind_bytes kinds.Inner = codes "inner"
kind_bytes kinds.Default = codes "default"
kind_bytes kinds.Junction = codes "junction"
kind_bytes kinds.Event = codes "event"
kind_bytes kinds.Input = codes "input"
kind_bytes kinds.Output = codes "output"
kind_bytes kinds.Local = codes "local"
kind_bytes kinds.Send = codes "send"
kind_bytes kinds.To = codes "to"
kind_bytes kinds.Emit = codes "emit"
kind_bytes kinds.In = codes "in"
kind_bytes kinds.True = codes "true"
kind_bytes kinds.False = codes "false"
kind_bytes kinds.Tick = codes "tick"
kind_bytes kinds.Saturate = codes "saturate"
kind_bytes kinds.Wrap = codes "wrap"
kind_bytes kinds.Error = codes "error"
kind_bytes kinds.History = codes "history"
kind_bytes kinds.Name = []
kind_bytes kinds.Number = []
kind_bytes kinds.Comment = []
kind_bytes kinds.OpenBrace = codes "{"
kind_bytes kinds.CloseBrace = codes "}"
kind_bytes kinds.OpenBracket = codes "["
kind_bytes kinds.CloseBracket = codes "]"
kind_bytes kinds.OpenParen = codes "("
kind_bytes kinds.CloseParen = codes ")"
kind_bytes kinds.Semicolon = codes ";"
kind_bytes kinds.Colon = codes ":"
kind_bytes kinds.Comma = codes ","
kind_bytes kinds.At = codes "@"
kind_bytes kinds.Assign = codes "="
kind_bytes kinds.Arrow = codes "->"
kind_bytes kinds.Slash = codes "/"
kind_bytes kinds.Plus = codes "+"
kind_bytes kinds.Minus = codes "-"
kind_bytes kinds.Star = codes "*"
kind_bytes kinds.EqualEqual = codes "=="
kind_bytes kinds.NotEqual = codes "!="
kind_bytes kinds.Less = codes "<"
kind_bytes kinds.LessEqual = codes "<="
kind_bytes kinds.Greater = codes ">"
kind_bytes kinds.GreaterEqual = codes ">="
kind_bytes kinds.AndAnd = codes "&&"
kind_bytes kinds.OrOr = codes "||"
kind_bytes kinds.Not = codes "!"

-- a keyword or a symbol
unfoldable pub key : Kind → List Piece
key kind = Token kind (kind_bytes kind) ∷ []
