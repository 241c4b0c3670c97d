use Rattle.std.proofs.Common.{◌≡◌, ◌++◌, drop}
use Rattle.chart_code.specs.StateProcedures.{return_code}
use Rattle.chart_code.specs.Places.{numbers}
use Rattle.list_compile.specs.Drafts.{Instrs, code_seen}
use Rattle.list_compile.specs.Numberings.{chart_in}
use Rattle.state_compile.proofs.entries.put_return_to.Given as goal

-- what is written and what is left are what was there and the tests of all the children, whatever follows
abbrev pub invariant-loop-child : goal.invariant-loop-child
invariant-loop-child l =
    (rest : Instrs) →
    code_seen l.code ++ return_code (numbers (chart_in l.numbering)) (drop l.child-index l.children) rest
    ≡ code_seen l.initial.code ++ return_code (numbers (chart_in l.numbering)) l.children rest
