use Rattle.std.proofs.Common.{◌≡◌, List, map, take}
use Rattle.code_language.specs.Instrs.{Instr}
use Rattle.code_shrink.specs.Search.{items_in, EachReached}
use Rattle.code_shrink.specs.Slides.{straight_ways}
use Rattle.code_shrink.proofs.live.all_places.Given as goal

-- the reached places so far
abbrev pub invariant-loop-own : goal.invariant-loop-own
invariant-loop-own l = (procs : List (List Instr)) → map straight_ways procs ≡ items_in l.ways
    → EachReached (take l.own-index procs) (items_in l.all.items)
