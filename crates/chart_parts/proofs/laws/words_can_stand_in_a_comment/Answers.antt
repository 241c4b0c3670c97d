use Rattle.chart_parts.proofs.PlainLemmas.{part_plain}
use Rattle.chart_parts.proofs.laws.words_can_stand_in_a_comment.Goals as goal

pub returns : goal.returns
returns c t n p named of = part_plain t n named p of
