-- The tokens of a statechart text. Its further words and symbols have kinds that are free in it: the words that of `tick`,
-- `.` and `|` that of comments, `+= -= *= /= ++` that of `chart`. The text of such a token says which it is. Comments are
-- no tokens.
use Rattle.std.specs.Prelude.{ℕ, zero, suc, ◌+◌, ◌-◌, ◌<◌, ◌≤◌, not, nat_lt}
use Rattle.std.specs.Prelude.{Option, Some, None, List, [], ◌∷◌, take, drop, if◌then◌else◌}
use Rattle.std.specs.Str.{byte}
use Rattle.token_grammar.specs.declared.token.Kind.{Kind}
use Rattle.token_grammar.specs.declared.token.Kind.TheVariants as kinds
use Rattle.token_grammar.specs.declared.token.Span.{Span}
use Rattle.chart_lexer.specs.declared.front.Stop.TheVariants as stops
use Rattle.chart_lexer.specs.declared.words.TheConstants.{NAME_LIMIT}
use Rattle.chart_lexer.specs.Bytes.{is_blank, is_allowed, is_letter, is_digit, is_name_byte, begins}
use Rattle.chart_lexer.specs.Words.{name_length}
use Rattle.chart_lexer.specs.Numbers.{number_length}
use Rattle.chart_lexer.specs.Lex.{comment_length, after_byte, begin, Lexemes, before}
use Rattle.statechart_lexer.specs.declared.front.Front.{Front}
use Rattle.statechart_lexer.specs.declared.front.Front.TheVariants as fronts
use Rattle.statechart_lexer.specs.Words.{word_kind}
use Rattle.statechart_lexer.specs.Symbols.{first_pair, first_single}
use Rattle.statechart_lexer.specs.Comments.{begins_with, comment_rest}

-- a token of n bytes
abbrev pub token_of : Kind → ℕ → Front
token_of kind n = fronts.Token kind n n

-- a word is the longest run of name bytes; a run of over 63 bytes is no token
abbrev pub word_front : List ℕ → Front
word_front s =
    if nat_lt NAME_LIMIT (name_length s) then fronts.Stop stops.BadToken
    else token_of (word_kind (take (name_length s) s)) (name_length s)

-- a number; one with a letter or an underscore directly after it is no token
abbrev pub number_front : List ℕ → Front
number_front s =
    if begins is_name_byte (drop (number_length s) s) then fronts.Stop stops.BadToken
    else token_of kinds.Number (number_length s)

-- a comment from `/*` on is passed over; no token begins with one that doesn't end
abbrev pub comment_front : Option ℕ → Front
comment_front None = fronts.Stop stops.BadToken
comment_front (Some n) = fronts.Skip (n + 2)

-- the longer of the symbols of two bytes and of one
abbrev pub longer_symbol : Option Kind → Option Kind → Front
longer_symbol (Some kind) single = token_of kind 2
longer_symbol None (Some kind) = token_of kind 1
longer_symbol None None = fronts.Stop stops.BadToken

-- a symbol of two bytes, or else one of one byte. `--` are two tokens `-`: the text of a `-` directly before another one
-- is both
abbrev pub symbol_front : List ℕ → Front
symbol_front s =
    if begins_with (byte "-") (byte "-") s then fronts.Token kinds.Minus 2 1
    else longer_symbol (first_pair s) (first_single s)

-- a comment, or a symbol
abbrev pub slash_front : List ℕ → Front
slash_front s =
    if begins_with (byte "/") (byte "/") s then fronts.Skip (comment_length s) else
    if begins_with (byte "/") (byte "*") s then comment_front (comment_rest (drop 2 s)) else
    symbol_front s

-- what stands at the front of the text: the end; bytes that are passed over, as blank ones and comments are; a token, how
-- many bytes its text has, and how many of them are behind it; or no token
unfoldable pub front_of : List ℕ → Front
front_of [] = fronts.Stop stops.End
front_of (b ∷ s) =
    if is_blank b then fronts.Skip 1 else
    if not (is_allowed b) then fronts.Stop stops.BadByte else
    if is_letter b then word_front (b ∷ s) else
    if is_digit b then number_front (b ∷ s) else
    slash_front (b ∷ s)

-- the tokens of a text from a place on, after its first k bytes, which belong to what was before
unfoldable pub lexed : ℕ → Span → List ℕ → Lexemes
lexed k p [] = record { tokens = []; stop = stops.End; at = p }
lexed (suc k) p (b ∷ s) = lexed k (after_byte p b) s
lexed zero p (b ∷ s) = elim (front_of (b ∷ s)) [
  | fronts.Skip n ↦ lexed (n - 1) (after_byte p b) s
  | fronts.Token kind n m ↦
      before (record { kind = kind; text = take n (b ∷ s); at = p })
      (lexed (m - 1) (after_byte p b) s)
  | fronts.Stop stop ↦ record { tokens = []; stop = stop; at = p }
]

-- what a text is cut into
abbrev pub cut_of : List ℕ → Lexemes
cut_of text = lexed 0 begin text

-- ---- for the code

-- Only the contract reads what follows.
-- the place after some bytes
unfoldable pub after_bytes : Span → List ℕ → Span
after_bytes p [] = p
after_bytes p (b ∷ s) = after_bytes (after_byte p b) s

-- what is passed over or taken has at least one byte, and a text no more bytes than there are
abbrev pub FrontWithin : Front → ℕ → Type 0
FrontWithin (fronts.Skip k) n = (0 < k) × (k ≤ n)
FrontWithin (fronts.Token kind k m) n = (0 < m) × ((m ≤ k) × (k ≤ n))
FrontWithin (fronts.Stop stop) n = Unit {0}

-- the rest of a comment has no more bytes than there are
abbrev pub RestWithin : Option ℕ → ℕ → Type 0
RestWithin None n = Unit {0}
RestWithin (Some k) n = k ≤ n
