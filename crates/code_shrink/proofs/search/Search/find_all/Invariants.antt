use Rattle.code_language.specs.Code.{instrs_of}
use Rattle.code_shrink.specs.Search.{NamesBefore, Finds}
use Rattle.code_shrink.proofs.search.Search.find_all.Given as goal

-- what the instructions so far name is found
abbrev pub invariant-loop-place : goal.invariant-loop-place
invariant-loop-place l = Finds (NamesBefore l.place (instrs_of l.instrs) l.flags) l.fn.self l.self
