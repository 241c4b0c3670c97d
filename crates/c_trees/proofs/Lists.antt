-- The lines of the second part of an `if`.
use Rattle.std.proofs.Common.{◌≡◌, true, false, [], ◌∷◌, ◌++◌, refl}
use Rattle.std.proofs.lemmas.List.{append-nil, append_assoc}
use Rattle.c_subset.specs.Lines.{Else, else_lines, lines_of}
use Rattle.c_subset.specs.Trees.{Block, End}
use Rattle.c_trees.specs.Blocks.{is_end}
use Rattle.c_trees.specs.Writing.{else_line}

-- no statements
pub end-is : (b : Block) → is_end b ≡ true → b ≡ End
end-is End e = refl
end-is b e = absurd cc

-- statements that aren't none have a line
pub else-is : (b : Block) → is_end b ≡ false → else_lines (lines_of b) ≡ Else ∷ lines_of b
unfolding lines_of
else-is End e = absurd cc
else-is b e = refl

-- an empty second part has no line
pub else-none : (b : Block) → is_end b ≡ true → else_lines (lines_of b) ≡ []
unfolding lines_of
else-none End e = refl
else-none b e = absurd cc

-- the line of an `else` and the lines after it
pub else-on : (b : Block) → else_line (is_end b) ++ lines_of b ≡ else_lines (lines_of b)
unfolding lines_of else_line
else-on End = refl
else-on b = refl

pub ruleset writes = (append_assoc, append-nil)
