use Rattle.std.proofs.Common.{◌≡◌, ◌∙◌, ◌+◌, ◌-◌, suc, ◌∷◌, ◌++◌, ap, arith}
use Rattle.flow_base.specs.Lists.{items_of}
use Rattle.checked_chart.specs.declared.parts.ListKind.TheVariants.{Default}
use Rattle.checked_chart.specs.Kept.{chart_of}
use Rattle.chart_code.specs.Ends.{below_count}
use Rattle.chart_code.specs.Orders.{span}
use Rattle.chart_code.proofs.EndsLemmas.{end_is, end_after}
use Rattle.chart_parts.specs.declared.part.Part.TheVariants as parts
use Rattle.chart_parts.specs.declared.part.Toward.TheVariants.{Arrive, Take, Enter}
use Rattle.chart_parts.specs.Parts.{search_parts, group_parts}
use Rattle.chart_parts.proofs.Turns.{whole_group}
use Rattle.chart_parts.proofs.groups.append_group.Goals as goal

-- the states below a state are few
pub overflow_add-end : goal.overflow_add-end
overflow_add-end c =
    let valid = c.shape-shape.ensures.valid in
    let within = (end_is (chart_of c.args.chart.now).tree valid.tree c.args.state c.requires).within in
    omega (arith, within, valid.limits.states)

pub overflow_add-end-2 : goal.overflow_add-end-2
overflow_add-end-2 c =
    let valid = c.shape-shape.ensures.valid in
    let tree = (chart_of c.args.chart.now).tree in
    let after = end_after tree valid.tree c.args.state c.requires in
    let within = (end_is tree valid.tree c.args.state c.requires).within in
    let same = ap (λ t. below_count t c.args.state) c.shape-shape.ensures.shape in
    omega (arith, after, within, valid.limits.states, c.below_count.ensures, same)

pub returns : goal.returns
unfolding group_parts
returns c =
    let chart = chart_of c.args.chart.now in
    let s = c.args.state in
    let n = below_count chart.tree s in
    let old = items_of c.args.out.now in
    let one = items_of c.append_leaving.new.out in
    let two = items_of c.append_by_default.new.out in
    let end = c.below_count.ensures ∙ ap (λ t. below_count t s) c.shape-shape.ensures.shape in
    let below : s + 1 + c.below_count.result - suc s ≡ n = omega (arith, end) in
    let at : s + 1 + c.below_count.result - s ≡ suc n = omega (arith, end) in
    whole_group (parts.Leave s) (parts.Exit s) (parts.Defaults s) (parts.Way Arrive s s)
    (span (parts.Way Arrive s) (suc s) n) (search_parts chart s Default)
    (span (parts.Way Take s) s (suc n) ++ span (parts.Way Enter s) s (suc n)) old one two _
    (c.in_ok-append_leaving.ensures
    ∙ ap (λ k. old ++ parts.Leave s ∷ parts.Exit s ∷ span (parts.Way Arrive s) (suc s) k) below)
    c.in_ok-append_by_default.ensures
    (c.in_ok-append_taking.ensures
    ∙ ap (λ k. two ++ (span (parts.Way Take s) s k ++ span (parts.Way Enter s) s k)) at)
