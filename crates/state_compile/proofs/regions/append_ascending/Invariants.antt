use Rattle.std.proofs.Common.{◌≡◌, ◌++◌, map}
use Rattle.chart_code.specs.Bodies.{body}
use Rattle.chart_code.specs.Orders.{ascending}
use Rattle.list_compile.specs.Drafts.{procs_of}
use Rattle.list_compile.specs.Numberings.{chart_in}
use Rattle.state_compile.specs.Keyed.{keys_of}
use Rattle.state_compile.proofs.regions.append_ascending.Given as goal

-- what was there, and the procedures of the states before this one
abbrev pub invariant-loop-state : goal.invariant-loop-state
invariant-loop-state l =
    procs_of l.draft ≡ procs_of l.initial.draft
    ++ map (body (chart_in l.numbering)) (ascending (keys_of (chart_in l.numbering) l.kind) l.state)
