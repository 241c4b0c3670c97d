-- Further words and symbols, targets and numbers. Names and paths are those of chart texts.
use Rattle.std.specs.Prelude.{ℕ, Bool, false, ◌||◌, nat_eq, List, ◌∷◌, Option, Some, None, Ok, Err, Result}
use Rattle.std.specs.Prelude.{if◌then◌else◌, codes, bytes_eq}
use Rattle.token_grammar.specs.declared.token.Kind.{Kind}
use Rattle.token_grammar.specs.declared.token.Kind.TheVariants as kinds
use Rattle.token_grammar.specs.declared.fault.TokenFault.{TokenFault}
use Rattle.token_grammar.specs.declared.fault.TokenFault.TheVariants as faults
use Rattle.token_grammar.specs.Token.{Lexeme}
use Rattle.token_grammar.specs.Grammar.{Grammar, is, token, allowed, give, many, ◌>>=◌, ◌>>◌}
use Rattle.fixed_point.specs.declared.num.Num.{Num}
use Rattle.fixed_point.specs.declared.reading.NumFault.{NumFault}
use Rattle.fixed_point.specs.declared.reading.NumFault.TheVariants as num_faults
use Rattle.fixed_point.specs.Reading.{number_read}
use Rattle.chart_tree.specs.declared.name.NameText.{NameText}
use Rattle.chart_tree.specs.Trees.{Path}
use Rattle.chart_grammar.specs.Limits.{Limits, unless_lifted}
use Rattle.chart_grammar.specs.Words.{name}
use Rattle.statechart_lexer.specs.declared.words.Word.{Word}
use Rattle.statechart_lexer.specs.declared.words.Word.TheVariants as words
use Rattle.statechart_lexer.specs.Words.{word_of}
use Rattle.statechart_tree.specs.declared.expr.TimeWord.{TimeWord}
use Rattle.statechart_tree.specs.declared.expr.TimeWord.TheVariants as times

-- ---- further words

-- a number for each word, in the order of the enum
abbrev pub word_number : Word → ℕ
word_number words.Statechart = 0
word_number words.Constant = 1
word_number words.Enum = 2
word_number words.Function = 3
word_number words.Clock = 4
word_number words.On = 5
word_number words.After = 6
word_number words.Before = 7
word_number words.At = 8
word_number words.Every = 9
word_number words.TemporalCount = 10

-- the words that are this one
abbrev pub just : Word → Word → Bool
just w v = nat_eq (word_number v) (word_number w)

-- a word is there, and in the set
abbrev pub is_among : (Word → Bool) → Option Word → Bool
is_among set None = false
is_among set (Some w) = set w

-- the fault of a token that is no word of the set
abbrev pub other_word : (Word → Bool) → Lexeme → Option TokenFault
other_word set t = if is_among set (word_of t.text) then None else Some faults.Expected

-- a further word of the set
unfoldable pub word_in : (Word → Bool) → Grammar Lexeme
word_in set = allowed (is kinds.Tick) (other_word set) (token kinds.Tick)

-- the words `after`, `before` and `at`, which ask whether a count is reached
abbrev pub time_word : Word → Option TimeWord
time_word w =
    if just words.After w then Some times.After else
    if just words.Before w then Some times.Before else
    if just words.At w then Some times.At else
    None

-- what a token asks
abbrev pub time_of : Option Word → Option TimeWord
time_of None = None
time_of (Some w) = time_word w

-- 'after' | 'before' | 'at'
abbrev pub is_time : Word → Bool
is_time w = just words.After w || (just words.Before w || just words.At w)

-- 'after' | 'before' | 'at' | 'every'
abbrev pub is_timing : Word → Bool
is_timing w = is_time w || just words.Every w

-- ---- symbols

-- the fault of a token with another text
abbrev pub other_text : List ℕ → Lexeme → Option TokenFault
other_text text t = if bytes_eq t.text text then None else Some faults.Expected

-- a token of that kind and text
unfoldable pub spelled : Kind → List ℕ → Grammar Lexeme
spelled kind text = allowed (is kind) (other_text text) (token kind)

-- '.'
abbrev pub dot : Grammar Lexeme
dot = spelled kinds.Comment (codes ".")

-- '|'
abbrev pub bar : Grammar Lexeme
bar = spelled kinds.Comment (codes "|")

-- ---- targets

-- '.' NAME
unfoldable pub part : Grammar NameText
part = do
  dot
  name

-- ('.' NAME)*
unfoldable pub parts : Grammar (List NameText)
parts = many (is kinds.Comment) part

-- target := NAME ('.' NAME)*
unfoldable pub target : Grammar Path
target = do
  first ← name
  others ← parts
  give (first ∷ others)

-- ---- numbers

-- the fault of a number token, from what reading its text gives: whether it is binary isn't asked. NotNumber doesn't arise
-- for a token of kind Number; it is given Expected
abbrev pub fault_of_length : Result Num NumFault → Option TokenFault
fault_of_length (Ok n) = None
fault_of_length (Err num_faults.NotNumber) = Some faults.Expected
fault_of_length (Err num_faults.TooLong) = Some faults.LiteralTooLong
fault_of_length (Err num_faults.NotBinary) = None

-- what is wrong with a number token
abbrev pub too_long : Limits → Lexeme → Option TokenFault
too_long l t = unless_lifted l (fault_of_length (number_read t.text))

-- NUMBER
unfoldable pub number : Limits → Grammar Lexeme
number l = allowed (is kinds.Number) (too_long l) (token kinds.Number)
