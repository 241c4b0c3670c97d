use Rattle.std.proofs.Common.{◌++◌}
use Rattle.chart_code.specs.Bodies.{body}
use Rattle.chart_code.specs.Keys.{all_actions, all_state_parts, all_junction_parts}
use Rattle.list_compile.specs.Drafts.{procs_of}
use Rattle.list_compile.specs.Numberings.{chart_in}
use Rattle.state_compile.proofs.Spans.{both}
use Rattle.state_compile.proofs.whole_chart.append_actions_and_parts.Goals as goal

pub returns : goal.returns
returns c =
    let chart = chart_in c.args.numbering.now in
    let b = body chart in
    both b (all_actions chart) (all_state_parts chart ++ all_junction_parts chart) (procs_of c.args.draft.now)
    (procs_of c.append_ascending.new.draft) _ c.in_ok-append_ascending.ensures
    (both b (all_state_parts chart) (all_junction_parts chart)
    (procs_of c.append_ascending.new.draft) (procs_of c.append_ascending-2.new.draft) _
    c.in_ok-append_ascending-2.ensures c.in_ok-append_junction_parts.ensures)
