use Rattle.range_spans.proofs.BoxLemmas.{freed_box, sets_box}
use Rattle.range_spans.proofs.laws.inputs_stay_in_their_spans.Goals as goal

pub returns-clause-freed : goal.returns-clause-freed
returns-clause-freed c n always box vals h = freed_box n always box vals h

pub returns-clause-set : goal.returns-clause-set
returns-clause-set c n always box v value vals next covers is e h =
    sets_box n always covers box v value vals next is e h
