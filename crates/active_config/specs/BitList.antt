-- Flags as bits of words.
use Rattle.std.specs.Prelude.{ℕ, ◌-◌, ◌/◌, ◌%◌, ◌==◌, List, map, Option, Bool, false, slice_index, slice_index_or}
use Rattle.std.specs.Int.{bit_at}
use Rattle.std.specs.List.{find, range_with_len}

-- whether bit i of the words is set, 64 in a word, the lowest first
unfoldable pub has_bit : List ℕ → ℕ → Bool
has_bit words i = bit_at (slice_index words (i / 64)) (i % 64) == 1

-- the first bits of the words, as many as the count says, as flags
unfoldable pub bits_of : ℕ → List ℕ → List Bool
bits_of count words = map (has_bit words) (range_with_len 0 count)

-- the first flag that is on from one number on and before another, if there is one
unfoldable pub first_on : ℕ → ℕ → List Bool → Option ℕ
first_on from end flags = find (λ x. slice_index_or flags x false) (range_with_len from (end - from))
