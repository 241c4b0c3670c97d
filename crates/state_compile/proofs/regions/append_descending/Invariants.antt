use Rattle.std.proofs.Common.{◌≡◌, ◌++◌, map}
use Rattle.active_config.specs.Tree.{state_count}
use Rattle.chart_code.specs.Bodies.{body}
use Rattle.chart_code.specs.Orders.{descending}
use Rattle.list_compile.specs.Drafts.{procs_of}
use Rattle.list_compile.specs.Numberings.{chart_in}
use Rattle.state_compile.specs.Keyed.{keys_of}
use Rattle.state_compile.proofs.regions.append_descending.Given as goal

-- what is written and what is left are what was there and the whole region
abbrev pub invariant-loop-state : goal.invariant-loop-state
invariant-loop-state l =
    procs_of l.draft
    ++ map (body (chart_in l.numbering)) (descending (keys_of (chart_in l.numbering) l.kind) l.state)
    ≡ procs_of l.initial.draft
    ++ map (body (chart_in l.numbering))
    (descending (keys_of (chart_in l.numbering) l.kind) (state_count (chart_in l.numbering).tree))
