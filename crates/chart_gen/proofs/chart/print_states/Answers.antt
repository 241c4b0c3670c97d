use Rattle.std.proofs.Common.{refl, sym, ap, ◌∙◌}
use Rattle.chart_gen.specs.Draws.{after_state, after_states}
use Rattle.chart_gen.proofs.StepLemmas.{no_states, states_lines-more, after_states-more}
use Rattle.chart_gen.proofs.TextLemmas.{lines_more}
use Rattle.chart_gen.proofs.chart.print_states.Goals as goal

pub loop-number-init : goal.loop-number-init
unfolding after_states
loop-number-init c =
    record { text = no_states _ c.args.sizes c.args.region c.args.draws.now.seed; seed = refl }

-- one more state
pub loop-number-preserved : goal.loop-number-preserved
loop-number-preserved c =
    let k = c.loop-number.number in
    let first = c.args.draws.now.seed in
    let seed = c.loop-number.invariant.seed in
    record {
      text = lines_more _ _ _ _ _ _ (states_lines-more c.args.sizes c.args.region k first)
          c.loop-number.invariant.text (rw (c.state-drawn.ensures.state, seed) at c.in_ok-print_state.ensures);
      seed = c.state-drawn.ensures.seed ∙ (ap after_state seed ∙ sym (after_states-more k first));
    }
