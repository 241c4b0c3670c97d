use Rattle.std.proofs.Common.{sym, ◌∙◌}
use Rattle.chart_reader.proofs.TransLemmas.{junction_trans_misses}
use Rattle.chart_reader.proofs.reader.Reader.junction_trans.Goals as goal

pub returns-in-Some-2 : goal.returns-in-Some-2
returns-in-Some-2 c = junction_trans_misses _ _ _ (sym c.is_at_one_of.ensures ∙ c.if-is_at_one_of.false)
