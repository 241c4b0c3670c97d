-- How long statements are that passes go through.
use Rattle.std.specs.Prelude.{Bool, length, nat_le}
use Rattle.c_subset.specs.Trees.{Block}
use Rattle.c_subset.specs.Lines.{lines_of}

-- statements of at most 1,000 lines
abbrev pub is_short : Block → Bool
is_short a = nat_le (length (lines_of a)) 1000
