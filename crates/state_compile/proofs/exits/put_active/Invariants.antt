use Rattle.std.proofs.Common.{◌≡◌, ◌++◌, drop}
use Rattle.chart_code.specs.StateProcedures.{active_code}
use Rattle.chart_code.specs.Places.{numbers}
use Rattle.list_compile.specs.Drafts.{code_seen}
use Rattle.list_compile.specs.Numberings.{chart_in}
use Rattle.state_compile.proofs.exits.put_active.Given as goal

-- what is written and what is left are what was there and the code of all the states
abbrev pub invariant-loop-state : goal.invariant-loop-state
invariant-loop-state l =
    code_seen l.code ++ active_code (numbers (chart_in l.numbering)).exit (drop l.state-index l.states)
    ≡ code_seen l.initial.code ++ active_code (numbers (chart_in l.numbering)).exit l.states
