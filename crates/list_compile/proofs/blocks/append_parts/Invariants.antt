use Rattle.std.proofs.Common.{◌≡◌, ◌++◌, drop, map}
use Rattle.checked_chart.specs.Views.{list_seen}
use Rattle.chart_code.specs.Keys.{parts_keys}
use Rattle.chart_code.specs.Bodies.{body}
use Rattle.list_compile.specs.Drafts.{procs_of}
use Rattle.list_compile.specs.Numberings.{chart_in}
use Rattle.list_compile.proofs.blocks.append_parts.Given as goal

-- what is written and what is left are what was there and the parts of the whole list
abbrev pub invariant-loop-trans : goal.invariant-loop-trans
invariant-loop-trans l =
    procs_of l.draft ++ map (body (chart_in l.numbering)) (parts_keys (list_seen (drop l.trans-index l.list)))
    ≡ procs_of l.initial.draft ++ map (body (chart_in l.numbering)) (parts_keys (list_seen l.list))
