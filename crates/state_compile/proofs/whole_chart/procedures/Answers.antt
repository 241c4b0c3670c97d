use Rattle.std.proofs.Common.{◌∙◌, ap, map}
use Rattle.flow_base.specs.Lists.{items_of}
use Rattle.code_language.specs.Code.{instrs_of}
use Rattle.chart_code.specs.Bodies.{body}
use Rattle.chart_code.specs.Keys.{EndMark, layout, all_actions, all_state_parts, all_junction_parts, all_groups}
use Rattle.chart_code.specs.Keys.{all_lists, all_processes}
use Rattle.list_compile.specs.Drafts.{procs_of}
use Rattle.list_compile.specs.Numberings.{chart_in}
use Rattle.state_compile.proofs.Spans.{all_regions}
use Rattle.state_compile.proofs.whole_chart.procedures.Goals as goal

pub returns : goal.returns
unfolding layout
returns c =
    let chart = chart_in c.args.numbering.now in
    all_regions (body chart) EndMark (all_actions chart) (all_state_parts chart) (all_junction_parts chart)
    (all_groups chart) (all_lists chart) (all_processes chart) _ (procs_of c.append_end_mark.new.draft)
    (procs_of c.append_actions_and_parts.new.draft) _
    (ap (λ l. map (λ is. instrs_of (items_of is)) l) (c.of.ensures ∙ c.new.ensures.items))
    c.in_ok-append_end_mark.ensures c.in_ok-append_actions_and_parts.ensures c.in_ok-append_reactions.ensures
