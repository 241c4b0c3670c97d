use Rattle.std.proofs.Common.{◌≡◌, ◌++◌, drop}
use Rattle.checked_chart.specs.Views.{block_seen}
use Rattle.chart_code.specs.StateProcedures.{block_code}
use Rattle.chart_code.specs.Places.{numbers}
use Rattle.list_compile.specs.Drafts.{code_seen, test_of}
use Rattle.list_compile.specs.Numberings.{chart_in}
use Rattle.list_compile.proofs.blocks.append_block.Given as goal

-- what is written and what is left are the whole block
abbrev pub invariant-loop-stmt : goal.invariant-loop-stmt
invariant-loop-stmt l =
    code_seen l.code
    ++ block_code (numbers (chart_in l.numbering)) (test_of l.lasting) (block_seen (drop l.stmt-index l.stmts))
    ≡ block_code (numbers (chart_in l.numbering)) (test_of l.lasting) (block_seen l.stmts)
