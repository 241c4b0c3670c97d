use Rattle.std.proofs.Common.{◌≡◌, ◌++◌, reverse, take}
use Rattle.chart_code.specs.StateProcedures.{each_code}
use Rattle.chart_code.specs.Places.{numbers}
use Rattle.list_compile.specs.Drafts.{code_seen}
use Rattle.list_compile.specs.Numberings.{chart_in}
use Rattle.state_compile.proofs.exits.put_each.Given as goal

-- what is written and what is left are what was there and the code of all the states
abbrev pub invariant-loop-place : goal.invariant-loop-place
invariant-loop-place l =
    code_seen l.code ++ each_code (numbers (chart_in l.numbering)).exit (reverse (take l.place l.states))
    ≡ code_seen l.initial.code ++ each_code (numbers (chart_in l.numbering)).exit (reverse l.states)
