-- Names, paths and numbers.
use Rattle.std.specs.Prelude.{ℕ, List, ◌∷◌, ◌++◌, length, Option, Some, None, Ok, Err, Result}
use Rattle.token_grammar.specs.declared.token.Kind.TheVariants as kinds
use Rattle.token_grammar.specs.declared.fault.TokenFault.{TokenFault}
use Rattle.token_grammar.specs.declared.fault.TokenFault.TheVariants as faults
use Rattle.token_grammar.specs.Token.{Lexeme}
use Rattle.token_grammar.specs.Grammar.{Grammar, is, token, allowed, give, many, ◌>>=◌, ◌>>◌}
use Rattle.fixed_point.specs.declared.num.Num.{Num}
use Rattle.fixed_point.specs.declared.reading.NumFault.{NumFault}
use Rattle.fixed_point.specs.declared.reading.NumFault.TheVariants as num_faults
use Rattle.fixed_point.specs.Reading.{number_read, value_of, whole_digits, behind_digits, bits_of}
use Rattle.chart_tree.specs.declared.name.NameText.{NameText}
use Rattle.chart_tree.specs.declared.name.LitText.{LitText}
use Rattle.chart_tree.specs.Trees.{Path}
use Rattle.chart_grammar.specs.Limits.{Limits, unless_lifted}

-- the name that a token is
abbrev pub name_of : Lexeme → NameText
name_of t = record { text = t.text; at = t.at }

-- NAME
unfoldable pub name : Grammar NameText
name = do
  t ← token kinds.Name
  give (name_of t)

-- '/' NAME
unfoldable pub step : Grammar NameText
step = do
  token kinds.Slash
  name

-- path := NAME ('/' NAME)*
unfoldable pub path : Grammar Path
path = do
  first ← name
  others ← many (is kinds.Slash) step
  give (first ∷ others)

-- ---- numbers

-- the digits of a number, how many of them stand after the point, and the bits that `q` asks for
abbrev pub lit_of : List ℕ → LitText
lit_of text = record {
  units = value_of (whole_digits text ++ behind_digits text);
  places = length (behind_digits text);
  q = bits_of text;
}

-- the fault of a number token, from what reading its text gives. NotNumber doesn't arise for a token of kind Number; it
-- is given Expected
abbrev pub fault_of_number : Result Num NumFault → Option TokenFault
fault_of_number (Ok n) = None
fault_of_number (Err num_faults.NotNumber) = Some faults.Expected
fault_of_number (Err num_faults.TooLong) = Some faults.LiteralTooLong
fault_of_number (Err num_faults.NotBinary) = Some faults.LiteralNotBinary

-- what is wrong with a number token
abbrev pub literal_refused : Limits → Lexeme → Option TokenFault
literal_refused l t = unless_lifted l (fault_of_number (number_read t.text))

-- NUMBER
unfoldable pub number : Limits → Grammar Lexeme
number l = allowed (is kinds.Number) (literal_refused l) (token kinds.Number)
