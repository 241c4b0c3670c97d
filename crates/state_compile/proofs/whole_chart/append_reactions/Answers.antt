use Rattle.std.proofs.Common.{◌++◌}
use Rattle.chart_code.specs.Bodies.{body}
use Rattle.chart_code.specs.Keys.{all_groups, all_lists, all_processes}
use Rattle.list_compile.specs.Drafts.{procs_of}
use Rattle.list_compile.specs.Numberings.{chart_in}
use Rattle.state_compile.proofs.Spans.{both}
use Rattle.state_compile.proofs.whole_chart.append_reactions.Goals as goal

pub returns : goal.returns
returns c =
    let chart = chart_in c.args.numbering.now in
    let b = body chart in
    both b (all_groups chart) (all_lists chart ++ all_processes chart) (procs_of c.args.draft.now)
    (procs_of c.append_descending.new.draft) _ c.in_ok-append_descending.ensures
    (both b (all_lists chart) (all_processes chart)
    (procs_of c.append_descending.new.draft) (procs_of c.append_descending-2.new.draft) _
    c.in_ok-append_descending-2.ensures c.in_ok-append_descending-3.ensures)
