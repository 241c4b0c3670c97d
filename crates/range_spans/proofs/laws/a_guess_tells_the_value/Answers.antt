use Rattle.range_spans.proofs.BoxLemmas.{guess_holds, truth_may_be}
use Rattle.range_spans.proofs.laws.a_guess_tells_the_value.Goals as goal

pub returns-clause-value : goal.returns-clause-value
returns-clause-value c n always box vals marks e h = guess_holds n always e box vals marks h

pub returns-clause-truth : goal.returns-clause-truth
returns-clause-truth c n always box vals marks e x h is = truth_may_be n always e box vals marks x h is
