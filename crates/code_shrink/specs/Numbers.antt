-- New numbers of procedures, as a table.
use Rattle.std.specs.Prelude.{ℕ, ◌-◌, List, length, min, slice_index}

-- the new number of a procedure, by a list that has one for each procedure and, last, how many there are in all
abbrev pub number_by : List ℕ → ℕ → ℕ
number_by numbers p = slice_index numbers (min p (length numbers - 1))
