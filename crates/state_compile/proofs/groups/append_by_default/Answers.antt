use Rattle.std.proofs.Common.{◌∷◌, []}
use Rattle.checked_chart.specs.declared.parts.ListKind.TheVariants.{Default}
use Rattle.chart_code.specs.Bodies.{body}
use Rattle.chart_code.specs.Keys.{Defaults, Arrive, search_keys}
use Rattle.list_compile.specs.Drafts.{procs_of}
use Rattle.list_compile.specs.Numberings.{chart_in}
use Rattle.state_compile.proofs.Spans.{both}
use Rattle.state_compile.proofs.groups.append_by_default.Goals as goal

pub returns : goal.returns
returns c =
    let chart = chart_in c.args.numbering.now in
    let b = body chart in
    let s = c.args.state in
    both b (search_keys chart s Default) (Defaults s ∷ Arrive s s ∷ []) (procs_of c.args.draft.now)
    (procs_of c.append_list.new.draft) _ c.in_ok-append_list.ensures.ok
    (both b (Defaults s ∷ []) (Arrive s s ∷ []) (procs_of c.append_list.new.draft)
    (procs_of c.append_defaults.new.draft) _ c.in_ok-append_defaults.ensures c.in_ok-append_arrive.ensures)
