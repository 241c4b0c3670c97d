-- Decimal text: the digits of a number.
use Rattle.std.specs.Prelude.{ℕ, zero, suc, ◌+◌, ◌*◌, ◌/◌, ◌%◌, ◌^◌, ◌==◌, ℤ, pos, negsuc}
use Rattle.std.specs.Prelude.{unsigned_abs, Bool, if◌then◌else◌, List, [], ◌∷◌, ◌++◌, decimal}

-- the first of n numbers, from k on, that passes the test; k + n where none does
unfoldable pub first_from : (ℕ → Bool) → ℕ → ℕ → ℕ
first_from test k zero = k
first_from test k (suc n) = if test k then k else first_from test (k + 1) n

-- the last k decimal digits of n
unfoldable pub last_digits : ℕ → ℕ → List ℕ
last_digits zero n = []
last_digits (suc k) n = last_digits k (n / 10) ++ (48 + n % 10) ∷ []

-- n / 2 ^ frac is a whole number of steps of 10 ^ -places
abbrev pub ends_within : ℕ → ℕ → ℕ → Bool
ends_within n frac places = (n * 10 ^ places) % 2 ^ frac == 0

-- the fewest digits after the point at which n / 2 ^ frac is exact; at frac digits it always is
abbrev pub places_of : ℕ → ℕ → ℕ
places_of n frac = first_from (ends_within n frac) 0 frac

-- those digits
abbrev pub fraction_digits : ℕ → ℕ → List ℕ
fraction_digits n frac = last_digits (places_of n frac) (n * 10 ^ places_of n frac / 2 ^ frac)

-- a point and the digits after it, or nothing where the number is whole
abbrev pub behind_point : ℕ → ℕ → List ℕ
behind_point n frac = if n % 2 ^ frac == 0 then [] else 46 ∷ fraction_digits n frac

-- a minus sign where the number is negative
abbrev pub sign_of : ℤ → List ℕ
sign_of (pos n) = []
sign_of (negsuc n) = 45 ∷ []

-- the shortest exact decimal text of mantissa / 2 ^ frac
unfoldable pub decimal_text : ℤ → ℕ → List ℕ
decimal_text mantissa frac = sign_of mantissa
    ++ decimal (unsigned_abs mantissa / 2 ^ frac)
    ++ behind_point (unsigned_abs mantissa) frac
