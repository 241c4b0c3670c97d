use Rattle.chart_reader.proofs.ChildLemmas.{some_children}
use Rattle.chart_reader.proofs.lists.comp_with.Goals as goal

pub returns-in-len1-up : goal.returns-in-len1-up
returns-in-len1-up c = rw c.in-None.is (some_children c.args.children.now c.in-len1-up.len_at_least)
