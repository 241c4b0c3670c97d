-- The tokens of a text.
use Rattle.std.specs.Prelude.{◌≡◌, All, IsTrue, ℕ, length, zero, suc, ◌+◌, ◌-◌, ◌<◌, ◌≤◌, ◌&&◌, Bool, false}
use Rattle.std.specs.Prelude.{not, nat_eq, nat_lt, Option, Some, None, List, [], ◌∷◌, take, drop, if◌then◌else◌}
use Rattle.std.specs.List.{prefix_len}
use Rattle.std.specs.Str.{byte}
use Rattle.token_grammar.specs.declared.token.Kind.{Kind}
use Rattle.token_grammar.specs.declared.token.Kind.TheVariants as kinds
use Rattle.token_grammar.specs.declared.token.Span.{Span}
use Rattle.token_grammar.specs.Token.{Lexeme, lexemes}
use Rattle.chart_lexer.specs.declared.front.Front.{Front}
use Rattle.chart_lexer.specs.declared.front.Front.TheVariants as fronts
use Rattle.chart_lexer.specs.declared.front.Stop.{Stop}
use Rattle.chart_lexer.specs.declared.front.Stop.TheVariants as stops
use Rattle.chart_lexer.specs.declared.lexer.Lexed.{Lexed}
use Rattle.chart_lexer.specs.Bytes.{is_blank, is_allowed, is_letter, is_digit, is_name_byte, begins}
use Rattle.chart_lexer.specs.Words.{name_length, word_kind, is_name}
use Rattle.chart_lexer.specs.declared.words.TheConstants.{NAME_LIMIT}
use Rattle.chart_lexer.specs.Numbers.{number_length}
use Rattle.chart_lexer.specs.Symbols.{first_pair, first_single}

-- a byte that may stand in a comment: allowed, and not the end of the line
abbrev pub is_comment_byte : ℕ → Bool
is_comment_byte b = is_allowed b && not (nat_eq b 10)

-- how many bytes of a comment stand at the front of the text
abbrev pub comment_length : List ℕ → ℕ
comment_length s = prefix_len is_comment_byte s

-- whether two slashes stand at the front of the text
abbrev pub begins_comment : List ℕ → Bool
begins_comment [] = false
begins_comment (a ∷ s) = nat_eq a (byte "/") && begins (λ b. nat_eq b (byte "/")) s

-- a word is the longest run of name bytes; a run of over 63 bytes is no token
abbrev pub word_front : List ℕ → Front
word_front s =
    if nat_lt NAME_LIMIT (name_length s) then fronts.Stop stops.BadToken
    else fronts.Token (word_kind (take (name_length s) s)) (name_length s)

-- a number; one with a letter or an underscore directly after it is no token
abbrev pub number_front : List ℕ → Front
number_front s =
    if begins is_name_byte (drop (number_length s) s) then fronts.Stop stops.BadToken
    else fronts.Token kinds.Number (number_length s)

-- the longer of the symbols of two bytes and of one
abbrev pub longer_symbol : Option Kind → Option Kind → Front
longer_symbol (Some kind) single = fronts.Token kind 2
longer_symbol None (Some kind) = fronts.Token kind 1
longer_symbol None None = fronts.Stop stops.BadToken

-- a symbol of two bytes, or else one of one byte
abbrev pub symbol_front : List ℕ → Front
symbol_front s = longer_symbol (first_pair s) (first_single s)

-- what stands at the front of the text: the end, a blank byte, a token and how many bytes it has, or no token
unfoldable pub front_of : List ℕ → Front
front_of [] = fronts.Stop stops.End
front_of (b ∷ s) =
    if is_blank b then fronts.Blank else
    if not (is_allowed b) then fronts.Stop stops.BadByte else
    if is_letter b then word_front (b ∷ s) else
    if is_digit b then number_front (b ∷ s) else
    if begins_comment (b ∷ s) then fronts.Token kinds.Comment (comment_length (b ∷ s)) else
    symbol_front (b ∷ s)

-- the token at the front is a name, and is the whole text
abbrev pub IsOneName : List ℕ → Type 0
IsOneName text = front_of text ≡ fronts.Token kinds.Name (length text)

-- a token has at least one byte, and a blank or a token no more bytes than the text
abbrev pub FrontWithin : Front → ℕ → Type 0
FrontWithin fronts.Blank n = 0 < n
FrontWithin (fronts.Token kind m) n = (0 < m) × (m ≤ n)
FrontWithin (fronts.Stop stop) n = Unit {0}

-- where a text begins
abbrev pub begin : Span
begin = record { line = 1; column = 1 }

-- the place after a byte: the next column, or after byte 10 the next line
abbrev pub after_byte : Span → ℕ → Span
after_byte p b =
    if nat_eq b 10 then record { line = p.line + 1; column = 1 }
    else record { line = p.line; column = p.column + 1 }

-- the tokens, what stands after them, and its place
pub record Lexemes : Type 0 where
  pub tokens : List Lexeme
  pub stop : Stop
  pub at : Span

-- one more token before the others
abbrev pub before : Lexeme → Lexemes → Lexemes
before t l = record { tokens = t ∷ l.tokens; stop = l.stop; at = l.at }

-- the tokens of a text from a place on, after its first k bytes, which belong to the token before
unfoldable pub lexed : ℕ → Span → List ℕ → Lexemes
lexed k p [] = record { tokens = []; stop = stops.End; at = p }
lexed (suc k) p (b ∷ s) = lexed k (after_byte p b) s
lexed zero p (b ∷ s) = elim (front_of (b ∷ s)) [
  | fronts.Blank ↦ lexed 0 (after_byte p b) s
  | fronts.Token kind n ↦
      before (record { kind = kind; text = take n (b ∷ s); at = p })
      (lexed (n - 1) (after_byte p b) s)
  | fronts.Stop stop ↦ record { tokens = []; stop = stop; at = p }
]

-- what a text is cut into
abbrev pub cut_of : List ℕ → Lexemes
cut_of text = lexed 0 begin text

-- what was cut, without where it lies in memory
abbrev pub seen : Lexed → Lexemes
seen l = record { tokens = lexemes l.tokens.items; stop = l.stop; at = l.at }

-- each token of kind Name has a text that is a name
abbrev pub HasNames : Lexemes → Type 0
HasNames l = All (λ t. t.kind ≡ kinds.Name → IsTrue (is_name t.text)) l.tokens
