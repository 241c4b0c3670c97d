use Rattle.std.proofs.Common.{◌≡◌, ◌++◌, drop, map}
use Rattle.chart_code.specs.Keys.{JunctionOf}
use Rattle.chart_code.specs.Bodies.{body}
use Rattle.list_compile.specs.Drafts.{procs_of}
use Rattle.list_compile.specs.Numberings.{chart_in}
use Rattle.list_compile.proofs.searches.append_junctions.Given as goal

-- what is written and what is left are what was there and the procedures of all the junctions
abbrev pub invariant-loop-junction : goal.invariant-loop-junction
invariant-loop-junction l =
    procs_of l.draft
    ++ map (body (chart_in l.numbering)) (map (λ j. JunctionOf l.search.state l.search.kind j)
    (drop l.junction-index l.found))
    ≡ procs_of l.initial.draft
    ++ map (body (chart_in l.numbering)) (map (λ j. JunctionOf l.search.state l.search.kind j) l.found)
