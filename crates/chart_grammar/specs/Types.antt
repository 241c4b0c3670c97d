-- Types: the words after the colon of a datum.
use Rattle.std.specs.Prelude.{ℕ, nat_le, Bool, true, false, ◌&&◌, ◌||◌, List, [], ◌∷◌, take, drop, Option, Some, None}
use Rattle.std.specs.Prelude.{decimal, codes, bytes_eq, if◌then◌else◌}
use Rattle.fixed_point.specs.declared.scale.TheConstants.{WIDTH_LIMIT, PLACES_LIMIT}
use Rattle.fixed_point.specs.declared.fitting.Mode.{Mode}
use Rattle.fixed_point.specs.declared.fitting.Mode.TheVariants as modes
use Rattle.fixed_point.specs.Reading.{value_of, leading_digits, after_digits}
use Rattle.token_grammar.specs.declared.token.Kind.{Kind}
use Rattle.token_grammar.specs.declared.token.Kind.TheVariants as kinds
use Rattle.token_grammar.specs.declared.fault.TokenFault.{TokenFault}
use Rattle.token_grammar.specs.declared.fault.TokenFault.TheVariants as faults
use Rattle.token_grammar.specs.Token.{Lexeme}
use Rattle.token_grammar.specs.Grammar.{Grammar, is, token, one_of, allowed, give, either, ◌>>=◌}
use Rattle.chart_tree.specs.Trees.{Sort, FlagSort, NumberSort, ScaleParts}

-- the word of a type: of flags, or of the numbers of a scale
pub data TypeWord : Type 0 where
  FlagWord : TypeWord
  ScaleWord : ScaleParts → TypeWord

-- the number that a text denotes, if it is all digits without a leading zero
abbrev pub plain_number : List ℕ → Option ℕ
plain_number text = if bytes_eq (decimal (value_of text)) text then Some (value_of text) else None

-- a scale of these parts, where they are within the limits: a width of at least 1
-- and at most WIDTH_LIMIT, and a fraction of at most PLACES_LIMIT and at most the width
abbrev pub scale_within : Bool → Option ℕ → Option ℕ → Option ScaleParts
scale_within signed None frac = None
scale_within signed (Some width) None = None
scale_within signed (Some width) (Some frac) =
    if (nat_le 1 width && nat_le width WIDTH_LIMIT) && (nat_le frac PLACES_LIMIT && nat_le frac width)
    then Some (record { signed = signed; width = width; frac = frac }) else None

-- a missing fraction is 0
abbrev pub frac_told : List ℕ → Option ℕ
frac_told [] = Some 0
frac_told (b ∷ rest) =
    if bytes_eq (take 3 (b ∷ rest)) (codes "_En") then plain_number (drop 3 (b ∷ rest)) else None

-- W or W_EnF
abbrev pub scale_told : Bool → List ℕ → Option ScaleParts
scale_told signed text =
    scale_within signed (plain_number (leading_digits text)) (frac_told (after_digits text))

-- a whole number of `width` bits
abbrev pub whole : Bool → ℕ → Option ScaleParts
whole signed width = Some (record { signed = signed; width = width; frac = 0 })

-- the scale that a word names, if it is one
unfoldable pub scale_of : List ℕ → Option ScaleParts
scale_of word =
    if bytes_eq word (codes "int8") then whole true 8 else
    if bytes_eq word (codes "int16") then whole true 16 else
    if bytes_eq word (codes "int32") then whole true 32 else
    if bytes_eq word (codes "int64") then whole true 64 else
    if bytes_eq word (codes "uint8") then whole false 8 else
    if bytes_eq word (codes "uint16") then whole false 16 else
    if bytes_eq word (codes "uint32") then whole false 32 else
    if bytes_eq word (codes "uint64") then whole false 64 else
    if bytes_eq (take 4 word) (codes "sfix") then scale_told true (drop 4 word) else
    if bytes_eq (take 4 word) (codes "ufix") then scale_told false (drop 4 word) else
    None

-- the scale of a word as a type
abbrev pub scale_word : Option ScaleParts → Option TypeWord
scale_word None = None
scale_word (Some scale) = Some (ScaleWord scale)

-- the type that a word names, if it names one
unfoldable pub type_word : List ℕ → Option TypeWord
type_word word = if bytes_eq word (codes "bool") then Some FlagWord else scale_word (scale_of word)

-- a word that names no type doesn't continue
abbrev pub no_type : Option TypeWord → Option TokenFault
no_type None = Some faults.Expected
no_type (Some word) = None

-- the fault of a word that names no type
abbrev pub type_refused : Lexeme → Option TokenFault
type_refused t = no_type (type_word t.text)

-- the type of a word that names one
abbrev pub named_type : Option TypeWord → TypeWord
named_type None = FlagWord
named_type (Some word) = word

-- 'bool' | scale
unfoldable pub type_name : Grammar TypeWord
type_name = do
  t ← allowed (is kinds.Name) type_refused (token kinds.Name)
  give (named_type (type_word t.text))

-- 'saturate' | 'wrap' | 'error'
abbrev pub mode_heads : Kind → Bool
mode_heads k = is kinds.Saturate k || (is kinds.Wrap k || is kinds.Error k)

-- the mode of its word
abbrev pub mode_word : Kind → Mode
mode_word k =
    if is kinds.Wrap k then modes.Wrap else
    if is kinds.Error k then modes.Error else
    modes.Saturate

-- 'saturate' | 'wrap' | 'error'
unfoldable pub mode : Grammar Mode
mode = do
  t ← one_of mode_heads
  give (mode_word t.kind)

-- a missing mode is saturate
unfoldable pub maybe_mode : Grammar Mode
maybe_mode = either mode_heads mode (give modes.Saturate)

-- a number's mode; a flag has none
abbrev pub mode_of_type : TypeWord → Grammar Sort
mode_of_type FlagWord = give FlagSort
mode_of_type (ScaleWord scale) = maybe_mode >>= λ mode. give (NumberSort scale mode)

-- type := 'bool' | scale ('saturate' | 'wrap' | 'error')?
unfoldable pub sort : Grammar Sort
sort = type_name >>= mode_of_type
