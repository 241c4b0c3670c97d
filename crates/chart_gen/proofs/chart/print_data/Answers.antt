use Rattle.std.proofs.Common.{append_assoc, ◌∙◌}
use Rattle.chart_gen.specs.Cases.{datum_declaration}
use Rattle.chart_gen.proofs.StepLemmas.{no_numbers, numbered-more}
use Rattle.chart_gen.proofs.TextLemmas.{line_more}
use Rattle.chart_gen.proofs.chart.print_data.Goals as goal

pub loop-region-init : goal.loop-region-init
loop-region-init c = no_numbers _ datum_declaration

-- one more line
pub loop-region-preserved : goal.loop-region-preserved
loop-region-preserved c =
    line_more _ _ _ _ _ _ (numbered-more datum_declaration c.loop-region.region-counter)
    c.loop-region.invariant (c.in_ok-writeln.ensures.bytes ∙ simp append_assoc)
