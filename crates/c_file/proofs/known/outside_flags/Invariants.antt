use Rattle.c_text.specs.Labels.{labels_of}
use Rattle.c_file.specs.Reached.{AreOutside}
use Rattle.c_file.proofs.known.outside_flags.Given as goal

-- the flags of the functions before the number are there
abbrev pub invariant-loop-number : goal.invariant-loop-number
invariant-loop-number l = AreOutside (labels_of l.made.labels) l.number l.flags.items
