-- Statements, a line at a time.
use Rattle.std.specs.Prelude.{Bool, if◌then◌else◌, List, [], ◌∷◌}
use Rattle.c_subset.specs.Lines.{Line, Else}

-- The line between both parts of an `if`, unless the second one is empty
unfoldable pub else_line : Bool → List Line
else_line is_empty = if is_empty then [] else Else ∷ []
