use Rattle.c_subset.specs.Trees.{File}
use Rattle.c_functions.specs.Plans.{Shape}
use Rattle.c_passes.specs.Passed.{ArePassed}
use Rattle.c_passes.proofs.tidying.tidied.Given as goal

-- the functions so far are those of a file that passes make, if the first ones are
abbrev pub invariant-loop : goal.invariant-loop
invariant-loop l =
    (K : Shape) (file : File) → ArePassed K file l.fn.functions.items → ArePassed K file l.made.items
