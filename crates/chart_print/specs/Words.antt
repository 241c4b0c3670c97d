-- Names, paths, numbers and types.
use Rattle.std.specs.Prelude.{ℕ, ◌/◌, ◌^◌, ◌==◌, Bool, ◌&&◌, ◌||◌, if◌then◌else◌, List, [], ◌∷◌, ◌++◌, Option, Some}
use Rattle.std.specs.Prelude.{None, codes, decimal}
use Rattle.std.specs.List.{flat_map}
use Rattle.token_grammar.specs.declared.token.Kind.TheVariants as kinds
use Rattle.fixed_point.specs.declared.fitting.Mode.{Mode}
use Rattle.fixed_point.specs.declared.fitting.Mode.TheVariants as modes
use Rattle.fixed_point.specs.Text.{last_digits}
use Rattle.chart_tree.specs.declared.name.NameText.{NameText}
use Rattle.chart_tree.specs.declared.name.LitText.{LitText}
use Rattle.chart_tree.specs.Trees.{Path, ScaleParts, Sort, FlagSort, NumberSort}
use Rattle.chart_print.specs.Pieces.{Piece, Token, key, space}

-- ---- names and paths

-- one piece, which is a token of kind Name
unfoldable pub word_pieces : List ℕ → List Piece
word_pieces bytes = Token kinds.Name bytes ∷ []

-- a name
abbrev pub name_pieces : NameText → List Piece
name_pieces name = word_pieces name.text

-- a child in a path: '/' NAME
unfoldable pub step_pieces : NameText → List Piece
step_pieces name = key kinds.Slash ++ name_pieces name

-- a path: NAME ('/' NAME)*
unfoldable pub path_pieces : Path → List Piece
path_pieces [] = []
path_pieces (first ∷ others) = name_pieces first ++ flat_map step_pieces others

-- ---- numbers

-- the digits, with a point before the last `places` of them and at least one digit before it
unfoldable pub digits_bytes : ℕ → ℕ → List ℕ
digits_bytes units places =
    if places == 0 then decimal units
    else decimal (units / 10 ^ places) ++ codes "." ++ last_digits places units

-- `q` and the number of bits after the point, where the number has a `q`
unfoldable pub bits_bytes : Option ℕ → List ℕ
bits_bytes None = []
bits_bytes (Some bits) = codes "q" ++ decimal bits

-- a number, as its token
unfoldable pub literal_pieces : LitText → List Piece
literal_pieces lit = Token kinds.Number (digits_bytes lit.units lit.places ++ bits_bytes lit.q) ∷ []

-- ---- types

-- a whole number of 8, 16, 32 or 64 bits
abbrev pub is_int : ScaleParts → Bool
is_int scale =
    scale.frac == 0
    && (scale.width == 8 || (scale.width == 16 || (scale.width == 32 || scale.width == 64)))

-- the word of such a number: intW or uintW
unfoldable pub int_bytes : ScaleParts → List ℕ
int_bytes scale = (if scale.signed then codes "int" else codes "uint") ++ decimal scale.width

-- the word of every other: sfixW_EnF or ufixW_EnF
unfoldable pub fix_bytes : ScaleParts → List ℕ
fix_bytes scale =
    (if scale.signed then codes "sfix" else codes "ufix") ++ decimal scale.width
    ++ codes "_En" ++ decimal scale.frac

-- the word of a scale
unfoldable pub scale_pieces : ScaleParts → List Piece
scale_pieces scale = word_pieces (if is_int scale then int_bytes scale else fix_bytes scale)

-- the word of a mode after a space; saturate, the default mode, has none
unfoldable pub mode_pieces : Mode → List Piece
mode_pieces modes.Saturate = []
mode_pieces modes.Wrap = space ++ key kinds.Wrap
mode_pieces modes.Error = space ++ key kinds.Error

-- a type: 'bool' | scale ('wrap' | 'error')?
unfoldable pub sort_pieces : Sort → List Piece
sort_pieces FlagSort = word_pieces (codes "bool")
sort_pieces (NumberSort scale mode) = scale_pieces scale ++ mode_pieces mode
