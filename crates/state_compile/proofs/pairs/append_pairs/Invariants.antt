use Rattle.std.proofs.Common.{◌≡◌, ◌++◌, ◌-◌, map}
use Rattle.chart_code.specs.Bodies.{body}
use Rattle.chart_code.specs.Ends.{end_of}
use Rattle.chart_code.specs.Orders.{span}
use Rattle.list_compile.specs.Drafts.{procs_of}
use Rattle.list_compile.specs.Numberings.{chart_in}
use Rattle.state_compile.specs.Keyed.{pair_key}
use Rattle.state_compile.proofs.pairs.append_pairs.Given as goal

-- what is written and what is left are what was there and the procedures for all the states
abbrev pub invariant-loop-dest : goal.invariant-loop-dest
invariant-loop-dest l =
    procs_of l.draft ++ map (body (chart_in l.numbering)) (span (pair_key l.key l.state) l.dest (l.dest-end - l.dest))
    ≡ procs_of l.initial.draft
    ++ map (body (chart_in l.numbering))
    (span (pair_key l.key l.state) l.first (end_of (chart_in l.numbering).tree l.state - l.first))
