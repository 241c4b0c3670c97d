-- How types and constants are written, in the files of a chart of that name. `int` has 32 bits.
use Rattle.std.specs.Prelude.{ℕ, ◌-◌, ◌^◌, ◌/◌, ◌%◌, ◌==◌, nat_lt, ℤ, pos, int_lt, unsigned_abs, Bool, false}
use Rattle.std.specs.Prelude.{List, [], ◌++◌, codes, decimal, if◌then◌else◌}
use Rattle.c_subset.specs.declared.trees.Width.TheVariants.{W8, W16, W32, W64, W128}
use Rattle.c_subset.specs.declared.trees.CType.{CType}
use Rattle.c_subset.specs.declared.trees.CType.TheVariants.{Signed, Unsigned, Truth}
use Rattle.c_subset.specs.Meaning.{bits, is_true}
use Rattle.c_names.specs.Stems.{name_of_chart}

-- ---- types

-- the name of a type; those of 128 bits are defined in the source, with the chart's name
abbrev pub type_text : List ℕ → CType → List ℕ
type_text chart (Signed W8) = codes "int8_t"
type_text chart (Signed W16) = codes "int16_t"
type_text chart (Signed W32) = codes "int32_t"
type_text chart (Signed W64) = codes "int64_t"
type_text chart (Signed W128) = name_of_chart chart (codes "int128")
type_text chart (Unsigned W8) = codes "uint8_t"
type_text chart (Unsigned W16) = codes "uint16_t"
type_text chart (Unsigned W32) = codes "uint32_t"
type_text chart (Unsigned W64) = codes "uint64_t"
type_text chart (Unsigned W128) = name_of_chart chart (codes "uint128")
type_text chart Truth = codes "bool"

-- (T)
abbrev pub cast_text : List ℕ → CType → List ℕ
cast_text chart t = codes "(" ++ (type_text chart t ++ codes ")")

-- ---- constants of 128 bits, in parts of 62 bits

-- (T)INT64_C(n)
abbrev pub part_text : List ℕ → CType → ℕ → List ℕ
part_text chart t n = cast_text chart t ++ (codes "INT64_C(" ++ (decimal n ++ codes ")"))

-- (HIGH * 2^62 + n)
abbrev pub joined_text : List ℕ → ℕ → List ℕ
joined_text high n =
    codes "(" ++ (high ++ (codes " * INT64_C(4611686018427387904) + INT64_C(" ++ (decimal n ++ codes "))")))

-- a number below 2^124
unfoldable pub two_parts_text : List ℕ → CType → ℕ → List ℕ
two_parts_text chart t n =
    if nat_lt n (2 ^ 62) then part_text chart t n else joined_text (part_text chart t (n / 2 ^ 62)) (n % 2 ^ 62)

-- any number
unfoldable pub parts_text : List ℕ → CType → ℕ → List ℕ
parts_text chart t n =
    if nat_lt n (2 ^ 124) then two_parts_text chart t n
    else joined_text (two_parts_text chart t (n / 2 ^ 62)) (n % 2 ^ 62)

-- ---- constants

-- a number of the type, or of the promoted one where it is narrower than int
unfoldable pub magnitude_text : List ℕ → CType → ℕ → List ℕ
magnitude_text chart (Signed W8) n = decimal n
magnitude_text chart (Signed W16) n = decimal n
magnitude_text chart (Signed W32) n = decimal n
magnitude_text chart (Signed W64) n = codes "INT64_C(" ++ (decimal n ++ codes ")")
magnitude_text chart (Signed W128) n = parts_text chart (Signed W128) n
magnitude_text chart (Unsigned W8) n = decimal n ++ codes "u"
magnitude_text chart (Unsigned W16) n = decimal n ++ codes "u"
magnitude_text chart (Unsigned W32) n = decimal n ++ codes "u"
magnitude_text chart (Unsigned W64) n = codes "UINT64_C(" ++ (decimal n ++ codes ")")
magnitude_text chart (Unsigned W128) n = parts_text chart (Unsigned W128) n
magnitude_text chart Truth n = decimal n

-- whether the least number of a signed type has that magnitude, which is above the greatest one
abbrev pub is_least : CType → ℕ → Bool
is_least (Signed w) n = n == 2 ^ (bits w - 1)
is_least (Unsigned w) n = false
is_least Truth n = false

-- a number below 0 of that magnitude: (-C), and the least one (-C - 1)
unfoldable pub negative_text : List ℕ → CType → ℕ → List ℕ
negative_text chart t n =
    if is_least t n
    then codes "(-" ++ (magnitude_text chart t (n - 1) ++ codes " - 1)")
    else codes "(-" ++ (magnitude_text chart t n ++ codes ")")

-- a number
unfoldable pub number_text : List ℕ → CType → ℤ → List ℕ
number_text chart t z =
    if int_lt z (pos 0) then negative_text chart t (unsigned_abs z) else magnitude_text chart t (unsigned_abs z)

-- what stands before a constant of a type narrower than int
abbrev pub narrow_text : CType → List ℕ
narrow_text (Signed W8) = codes "(int8_t)"
narrow_text (Signed W16) = codes "(int16_t)"
narrow_text (Signed W32) = []
narrow_text (Signed W64) = []
narrow_text (Signed W128) = []
narrow_text (Unsigned W8) = codes "(uint8_t)"
narrow_text (Unsigned W16) = codes "(uint16_t)"
narrow_text (Unsigned W32) = []
narrow_text (Unsigned W64) = []
narrow_text (Unsigned W128) = []
narrow_text Truth = []

-- A constant
unfoldable pub constant_text : List ℕ → CType → ℤ → List ℕ
constant_text chart (Signed w) z = narrow_text (Signed w) ++ number_text chart (Signed w) z
constant_text chart (Unsigned w) z = narrow_text (Unsigned w) ++ number_text chart (Unsigned w) z
constant_text chart Truth z = if is_true z then codes "true" else codes "false"
