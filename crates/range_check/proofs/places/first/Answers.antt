use Rattle.std.proofs.Common.{◌∙◌, ap}
use Rattle.active_config.specs.Marks.{no_marks}
use Rattle.range_check.proofs.PlaceLemmas.{is_first}
use Rattle.range_check.proofs.places.first.Goals as goal

pub returns : goal.returns
returns c = is_first _ _ (c.in_ok-config.ensures.none ∙ ap no_marks c.shape.ensures.shape) c.in_ok-spans.ensures
