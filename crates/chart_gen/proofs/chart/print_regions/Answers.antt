use Rattle.std.proofs.Common.{ℕ, refl, sym, ap, ◌∙◌}
use Rattle.chart_gen.specs.Draws.{after_region, after_states, after_regions}
use Rattle.chart_gen.proofs.StepLemmas.{no_regions, regions_lines-more, after_regions-more}
use Rattle.chart_gen.proofs.TextLemmas.{lines_more}
use Rattle.chart_gen.proofs.chart.print_regions.Goals as goal

pub loop-region-init : goal.loop-region-init
unfolding after_regions
loop-region-init c = record { text = no_regions _ c.args.sizes c.args.draws.now.seed; seed = refl }

-- one more region
pub loop-region-preserved : goal.loop-region-preserved
loop-region-preserved c =
    let m = c.args.sizes.states in
    let i = c.loop-region.region in
    let first = c.args.draws.now.seed in
    let seed = c.loop-region.invariant.seed in
    record {
      text = lines_more _ _ _ _ _ _ (regions_lines-more c.args.sizes i first)
          c.loop-region.invariant.text (rw seed at c.in_ok-print_region.ensures.text);
      seed = c.in_ok-print_region.ensures.seed
          ∙ (ap (λ (s : ℕ). after_states m (after_region s)) seed ∙ sym (after_regions-more m i first));
    }
