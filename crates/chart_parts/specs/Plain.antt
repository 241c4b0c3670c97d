-- Text that can stand in a comment of C.
use Rattle.std.specs.Prelude.{◌≡◌, ℕ, nat_eq, false, List}
use Rattle.std.specs.List.{AllByRecursion}

-- a byte that is neither a newline nor `*`
abbrev pub IsPlainByte : ℕ → Type 0
IsPlainByte b = (nat_eq b 10 ≡ false) × (nat_eq b 42 ≡ false)

-- one line, in which no comment ends
abbrev pub IsPlain : List ℕ → Type 0
IsPlain text = AllByRecursion IsPlainByte text
