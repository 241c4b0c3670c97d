use Rattle.std.proofs.Common.{◌≡◌, ◌++◌, map}
use Rattle.chart_code.specs.Orders.{ascending}
use Rattle.chart_code.specs.Keys.{junction_parts_keys}
use Rattle.chart_code.specs.Bodies.{body}
use Rattle.list_compile.specs.Drafts.{procs_of}
use Rattle.list_compile.specs.Numberings.{chart_in}
use Rattle.state_compile.proofs.regions.append_junction_parts.Given as goal

-- what was there, and the procedures of those before this one
abbrev pub invariant-loop-junction : goal.invariant-loop-junction
invariant-loop-junction l =
    procs_of l.draft ≡ procs_of l.initial.draft
    ++ map (body (chart_in l.numbering)) (ascending (junction_parts_keys (chart_in l.numbering)) l.junction)
