use Rattle.range_spans.proofs.BoxLemmas.{narrowed_box}
use Rattle.range_spans.proofs.laws.a_guard_leaves_the_data.Goals as goal

pub returns : goal.returns
returns c n always box vals marks e x truth h is f = narrowed_box n always e truth x box vals marks h is f
