-- What is appended at the end of statements.
use Rattle.std.proofs.Common.{◌≡◌, List, ◌++◌, sym, ◌∙◌, append-nil}
use Rattle.c_subset.specs.Trees.{Block}
use Rattle.c_subset.specs.Trees as c
use Rattle.c_subset.specs.declared.trees.Line.{Line}
use Rattle.c_subset.specs.Lines.{Appends, lines_in, lines_of}

-- what was appended before others was appended before none
pub ends : (old new : List Line) (before : Block → Block) → Appends old new before
    → lines_in new ≡ lines_in old ++ lines_of (before c.End)
unfolding lines_of
ends old new before h = sym (append-nil (lines_in new)) ∙ h c.End
