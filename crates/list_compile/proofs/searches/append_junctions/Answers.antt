use Rattle.chart_code.specs.Bodies.{body}
use Rattle.chart_code.specs.Keys.{JunctionOf}
use Rattle.list_compile.specs.Drafts.{procs_of}
use Rattle.list_compile.specs.Numberings.{chart_in}
use Rattle.list_compile.proofs.FrontLemmas.{on_err, front_at, front_so_far}
use Rattle.list_compile.proofs.searches.append_junctions.Goals as goal

-- those of the junctions before this one were appended
pub returns-in_err-append_junction-clause-err : goal.returns-in_err-append_junction-clause-err
returns-in_err-append_junction-clause-err c =
    let l = c.loop-junction in
    let s = c.args.search.now in
    let far =
    front_so_far (body (chart_in c.args.numbering.now)) (λ j. JunctionOf s.state s.kind j) c.args.found.now l.junction-index
    (procs_of c.args.draft.now) (procs_of l.draft) l.invariant in
    on_err _ (front_at (procs_of c.args.draft.now) (procs_of l.draft) _ c.in_err-append_junction.ensures.err far)
