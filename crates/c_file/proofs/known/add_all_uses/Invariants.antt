use Rattle.c_text.specs.Labels.{labels_of}
use Rattle.c_file.specs.Made.{functions_of}
use Rattle.c_file.proofs.PassLemmas.{Passing}
use Rattle.c_file.proofs.known.add_all_uses.Given as goal

-- the functions before the number are known
abbrev pub invariant-loop-number : goal.invariant-loop-number
invariant-loop-number l = Passing (labels_of l.made.labels) (functions_of l.made) l.number l.fn.uses l.uses
