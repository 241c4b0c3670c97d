use Rattle.std.proofs.Common.{true, false, take, sym, ap, ◌∙◌}
use Rattle.net_text.specs.declared.net.NetChart.{NetChart}
use Rattle.net_text.proofs.RepeatLemmas.{is_named, repeat_from}
use Rattle.net_text.proofs.repeats.first_repeat.Goals as goal

pub returns-then-has_name-clause-repeat : goal.returns-then-has_name-clause-repeat
returns-then-has_name-clause-repeat c =
    let charts = c.args.charts.now in
    let number = c.loop-number.number in
    let chart = c.index-charts-number.result in
    let name = c.text.ensures ∙ ap (λ (x : NetChart). x.name) (sym c.index-charts-number.is) in
    let named = sym c.if-has_name.true ∙ (c.has_name.ensures ∙ ap (λ n. is_named n (take number charts)) name) in
    sym (repeat_from charts number chart true c.loop-number-test.true c.index-charts-number.is named)
    ∙ c.loop-number.invariant

pub loop-number-preserved : goal.loop-number-preserved
loop-number-preserved c =
    let charts = c.args.charts.now in
    let number = c.loop-number.number in
    let chart = c.index-charts-number.result in
    let name = c.text.ensures ∙ ap (λ (x : NetChart). x.name) (sym c.index-charts-number.is) in
    let named = sym c.if-has_name.false ∙ (c.has_name.ensures ∙ ap (λ n. is_named n (take number charts)) name) in
    sym (repeat_from charts number chart false c.loop-number-test.true c.index-charts-number.is named)
    ∙ c.loop-number.invariant
