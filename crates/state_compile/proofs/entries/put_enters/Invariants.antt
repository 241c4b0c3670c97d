use Rattle.std.proofs.Common.{◌≡◌, ◌++◌, drop}
use Rattle.chart_code.specs.StateProcedures.{enters_code}
use Rattle.chart_code.specs.Places.{numbers}
use Rattle.list_compile.specs.Drafts.{code_seen}
use Rattle.list_compile.specs.Numberings.{chart_in}
use Rattle.state_compile.proofs.entries.put_enters.Given as goal

-- what is written and what is left are what was there and the calls for all the children
abbrev pub invariant-loop-child : goal.invariant-loop-child
invariant-loop-child l =
    code_seen l.code
    ++ enters_code (numbers (chart_in l.numbering)) (chart_in l.numbering).tree l.dest (drop l.child-index l.children)
    ≡ code_seen l.initial.code
    ++ enters_code (numbers (chart_in l.numbering)) (chart_in l.numbering).tree l.dest l.children
