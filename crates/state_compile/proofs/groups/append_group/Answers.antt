use Rattle.std.proofs.Common.{suc, ◌++◌}
use Rattle.checked_chart.specs.declared.parts.ListKind.TheVariants.{Default}
use Rattle.chart_code.specs.Bodies.{body}
use Rattle.chart_code.specs.Ends.{below_count}
use Rattle.chart_code.specs.Keys.{Leave, Exit, Arrive, Defaults, Take, Enter, search_keys, group_keys}
use Rattle.chart_code.specs.Orders.{span}
use Rattle.list_compile.specs.Drafts.{procs_of}
use Rattle.list_compile.specs.Numberings.{chart_in}
use Rattle.state_compile.proofs.Spans.{all_parts}
use Rattle.state_compile.proofs.groups.append_group.Goals as goal

pub returns : goal.returns
unfolding group_keys
returns c =
    let chart = chart_in c.args.numbering.now in
    let s = c.args.state in
    let n = below_count chart.tree s in
    all_parts (body chart) (Leave s) (Exit s) (Defaults s) (Arrive s s) (span (Arrive s) (suc s) n)
    (search_keys chart s Default) (span (Take s) s (suc n) ++ span (Enter s) s (suc n)) (procs_of c.args.draft.now)
    (procs_of c.append_leaving.new.draft) (procs_of c.append_by_default.new.draft) _ c.in_ok-append_leaving.ensures
    c.in_ok-append_by_default.ensures c.in_ok-append_taking.ensures
