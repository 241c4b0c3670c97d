use Rattle.code_shrink.proofs.SlideLemmas.{WaysFrom}
use Rattle.code_shrink.proofs.ways.ways_of.Given as goal

-- the ways from a place on
abbrev pub invariant-loop-place : goal.invariant-loop-place
invariant-loop-place l = WaysFrom l.instrs l.place l.ways.items
