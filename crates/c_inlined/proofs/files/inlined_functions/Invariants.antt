use Rattle.c_subset.specs.Trees.{File}
use Rattle.c_bare.specs.Bare.{AreFunctions}
use Rattle.c_inlined.specs.Files.{AreInlined}
use Rattle.c_inlined.proofs.files.inlined_functions.Given as goal

-- the functions so far are those of a file in which calls are replaced
abbrev pub invariant-loop-number : goal.invariant-loop-number
invariant-loop-number l =
    (file : File) → AreFunctions l.fn.functions.items file.functions → AreInlined file l.made.items
