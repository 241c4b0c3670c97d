-- Numbers of reads and writes, and counts of failed ones.
use Rattle.std.specs.Prelude.{ℕ, ◌+◌, ◌-◌, ◌^◌, ◌==◌, nat_lt, if◌then◌else◌, Bool, List}
use Rattle.std.specs.List.{list_any}

-- the count after one more, at most 2 ^ 64 - 1
abbrev pub counted : ℕ → ℕ
counted count = if nat_lt count (2 ^ 64 - 1) then count + 1 else count

-- the number is one of those that are listed
abbrev pub is_listed : List ℕ → ℕ → Bool
is_listed listed number = list_any (λ other. other == number) listed
