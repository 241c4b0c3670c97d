use Rattle.std.proofs.Common.{refl, sym, ap, ◌∙◌}
use Rattle.chart_gen.specs.Draws.{after_event, after_events}
use Rattle.chart_gen.proofs.StepLemmas.{no_events, event_lines-more, after_events-more}
use Rattle.chart_gen.proofs.TextLemmas.{line_more}
use Rattle.chart_gen.proofs.events.print_events.Goals as goal

pub loop-line-init : goal.loop-line-init
unfolding after_events
loop-line-init c = record { text = no_events _ c.args.draws.now.seed; seed = refl }

-- one more line
pub loop-line-preserved : goal.loop-line-preserved
loop-line-preserved c =
    let first = c.args.draws.now.seed in
    let seed = c.loop-line.invariant.seed in
    record {
      text = line_more _ _ _ _ _ _ (event_lines-more c.loop-line._line first)
          c.loop-line.invariant.text (rw (c.event.ensures.event, seed) at c.in_ok-print_event.ensures);
      seed = c.event.ensures.seed ∙ (ap after_event seed ∙ sym (after_events-more c.loop-line._line first));
    }
