-- Numbers at places as they are kept: a row for each procedure.
use Rattle.std.specs.Prelude.{ℕ, List, [], map, Vec, slice_index_or}
use Rattle.std.specs.declared.alloc.Global.{Global}
use Rattle.code_counts.specs.Certificate.{Numbers}
use Rattle.code_counts.specs.declared.numbers.Mark.{Mark}

-- the row of a procedure; one that isn't there is empty
abbrev pub row_of : List (Vec Mark Global) → ℕ → List Mark
row_of rows p = slice_index_or (map (λ (v : Vec Mark Global). v.items) rows) p []

-- the numbers at a place, 0 where there are none
abbrev pub mark_of : List (Vec Mark Global) → ℕ → ℕ → Mark
mark_of rows p i = slice_index_or (row_of rows p) i (record { left = 0; owed = 0 })

-- the numbers of all places
abbrev pub numbers_of : List (Vec Mark Global) → Numbers
numbers_of rows = record { left = λ p i. (mark_of rows p i).left; owed = λ p i. (mark_of rows p i).owed }
