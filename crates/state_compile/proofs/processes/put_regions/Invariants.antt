use Rattle.std.proofs.Common.{◌≡◌, ◌++◌, drop}
use Rattle.chart_code.specs.StateProcedures.{regions_code}
use Rattle.chart_code.specs.Places.{numbers}
use Rattle.list_compile.specs.Drafts.{code_seen}
use Rattle.list_compile.specs.Numberings.{chart_in}
use Rattle.state_compile.proofs.processes.put_regions.Given as goal

-- what is written and what is left are what was there and the code of all the children
abbrev pub invariant-loop-child : goal.invariant-loop-child
invariant-loop-child l =
    code_seen l.code ++ regions_code (numbers (chart_in l.numbering)) (drop l.child-index l.states)
    ≡ code_seen l.initial.code ++ regions_code (numbers (chart_in l.numbering)) l.states
