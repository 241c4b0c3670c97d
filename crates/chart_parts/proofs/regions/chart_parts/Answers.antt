use Rattle.std.proofs.Common.{◌∙◌, sym, subst}
use Rattle.std.specs.List.{AllByRecursion}
use Rattle.flow_base.specs.Lists.{items_of}
use Rattle.active_config.specs.Tree.{state_count}
use Rattle.checked_chart.specs.Chart.{junction_count}
use Rattle.checked_chart.specs.Kept.{chart_of}
use Rattle.chart_code.specs.Orders.{ascending}
use Rattle.chart_parts.specs.declared.part.Part.TheVariants as parts
use Rattle.chart_parts.specs.Parts.{block_parts, state_parts, junction_parts, parts_of, IsPart}
use Rattle.chart_parts.specs.Regions.{last_parts}
use Rattle.chart_parts.proofs.Turns.{whole_chart}
use Rattle.chart_parts.proofs.Within.{all_within}
use Rattle.chart_parts.proofs.regions.chart_parts.Goals as goal

-- both halves are all
pub returns : goal.returns
unfolding parts_of
returns c =
    let chart = chart_of c.args.chart.now in
    let n = state_count chart.tree in
    let all =
    whole_chart parts.EndMark (ascending block_parts n) (ascending (state_parts chart) n)
    (ascending (junction_parts chart) (junction_count chart)) (last_parts chart) (items_of c.of-parts.result)
    (items_of c.append_first.new.out) _ (c.of-parts.ensures ∙ c.new.ensures.items) c.in_ok-append_first.ensures
    c.in_ok-append_last.ensures in
    record {
      parts = all;
      states = subst (λ ps. AllByRecursion (IsPart chart.tree) ps) (sym all) (all_within chart c.shape.ensures.valid);
    }
