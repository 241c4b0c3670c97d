-- How many bytes at the front of a text are a number.
use Rattle.std.specs.Prelude.{ℕ, ◌+◌, ◌-◌, ◌*◌, ◌&&◌, Bool, true, false, nat_eq}
use Rattle.std.specs.Prelude.{nat_lt, nat_le, List, [], ◌∷◌, take, drop, if◌then◌else◌}
use Rattle.std.specs.List.{prefix_len}
use Rattle.std.specs.Str.{byte}
use Rattle.fixed_point.specs.declared.scale.TheConstants.{PLACES_LIMIT}
use Rattle.chart_lexer.specs.Bytes.{is_digit}

-- how many digits stand at the front of the text
abbrev pub digits_length : List ℕ → ℕ
digits_length s = prefix_len is_digit s

-- how many bytes a point and the digits after it have, where there is such a point
unfoldable pub fraction_length : List ℕ → ℕ
fraction_length [] = 0
fraction_length (b ∷ s) =
    if nat_eq b (byte ".") && nat_lt 0 (digits_length s) then digits_length s + 1 else 0

-- one or two digits of a value up to 32
abbrev pub is_scale : List ℕ → Bool
is_scale [] = false
is_scale (a ∷ []) = true
is_scale (a ∷ b ∷ []) = nat_le ((a - byte "0") * 10 + (b - byte "0")) PLACES_LIMIT
is_scale (a ∷ b ∷ c ∷ s) = false

-- how many bytes `q` and the number of bits after it have, where there is such a `q`
unfoldable pub scale_length : List ℕ → ℕ
scale_length [] = 0
scale_length (b ∷ s) =
    if nat_eq b (byte "q") && is_scale (take (digits_length s) s) then digits_length s + 1 else 0

-- how many bytes digits have, with a fraction after them
unfoldable pub decimal_length : List ℕ → ℕ
decimal_length s = digits_length s + fraction_length (drop (digits_length s) s)

-- how many bytes a decimal has, with `q` and a number of bits after it, if they are there
unfoldable pub number_length : List ℕ → ℕ
number_length s = decimal_length s + scale_length (drop (decimal_length s) s)
