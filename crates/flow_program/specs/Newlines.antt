-- The newlines of a text.
use Rattle.std.specs.Prelude.{ℕ, List, nat_eq, count_by}

-- how many bytes of a text are newlines
abbrev pub newlines : List ℕ → ℕ
newlines text = count_by (λ b. nat_eq b 10) text
