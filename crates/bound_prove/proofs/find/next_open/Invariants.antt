use Rattle.std.proofs.Common.{vec_len}
use Rattle.bound_prove.specs.Colourings.{colours_of}
use Rattle.bound_prove.specs.Finding.{LeavesOutDone}
use Rattle.bound_prove.proofs.find.next_open.Given as goal

-- what was taken off so far is done
abbrev pub invariant-loop-cell : goal.invariant-loop-cell
invariant-loop-cell l = LeavesOutDone (colours_of l.colours) l.fn.stack.items l.stack.items

-- the stack grows smaller
abbrev pub decreases-loop-cell : goal.decreases-loop-cell
decreases-loop-cell l = vec_len l.stack
