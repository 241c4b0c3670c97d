-- Statements of the code that are gone through, as contracts see them.
use Rattle.c_trees.specs.Blocks.{block_of}
use Rattle.c_unread.specs.Unread as spec
use Rattle.c_unread.specs.declared.trimming.Trimmed.{Trimmed}

-- statements of the code with the locals that may be read
abbrev pub trimmed_in : Trimmed → spec.Trimmed
trimmed_in w = record { block = block_of w.tree.value; live = w.live.items }
