use Rattle.code_language.specs.Code.{code_of}
use Rattle.code_shrink.specs.Search.{items_in, IsSearch, work_left}
use Rattle.code_shrink.proofs.live.all_live.Given as goal

-- the search so far
abbrev pub invariant-loop-proc : goal.invariant-loop-proc
invariant-loop-proc l = IsSearch (code_of l.code).procedures (items_in l.flags) l.search

-- each procedure is looked at once
abbrev pub decreases-loop-proc : goal.decreases-loop-proc
decreases-loop-proc l = work_left l.search
