use Rattle.resolved_tree.specs.Views.{resolved_of}
use Rattle.chart_check.proofs.PassLemmas.{sound_valid}
use Rattle.chart_check.proofs.pass.chart_from.Goals as goal

pub make-requires : goal.make-requires
make-requires c = record {
  valid = sound_valid (resolved_of c.args.resolved) _ c.requires.resolved c.requires.sound c.in_ok-parts.ensures;
}
