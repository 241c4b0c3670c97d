-- The classes of bytes in a chart text.
use Rattle.std.specs.Prelude.{ℕ, ◌||◌, ◌&&◌, Bool, false, nat_eq, nat_le, List, [], ◌∷◌}
use Rattle.std.specs.Str.{byte}

-- a space, a tab (9), or one of the bytes that end lines (10 and 13)
abbrev pub is_blank : ℕ → Bool
is_blank b = nat_eq b (byte " ") || (nat_eq b 10 || (nat_eq b 9 || nat_eq b 13))

-- a byte that may stand in a chart text
abbrev pub is_allowed : ℕ → Bool
is_allowed b = is_blank b || (nat_le (byte " ") b && nat_le b (byte "~"))

-- a letter of either case
abbrev pub is_letter : ℕ → Bool
is_letter b =
    (nat_le (byte "a") b && nat_le b (byte "z")) || (nat_le (byte "A") b && nat_le b (byte "Z"))

-- a decimal digit
abbrev pub is_digit : ℕ → Bool
is_digit b = nat_le (byte "0") b && nat_le b (byte "9")

-- a letter, a digit or an underscore
abbrev pub is_name_byte : ℕ → Bool
is_name_byte b = is_letter b || (is_digit b || nat_eq b (byte "_"))

-- whether the first byte passes
abbrev pub begins : (ℕ → Bool) → List ℕ → Bool
begins p [] = false
begins p (b ∷ s) = p b
