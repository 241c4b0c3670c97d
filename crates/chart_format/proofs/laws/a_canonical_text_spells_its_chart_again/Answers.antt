use Rattle.chart_format.proofs.Formatted.{canonical_keeps}
use Rattle.chart_format.proofs.laws.a_canonical_text_spells_its_chart_again.Goals as goal

pub returns : goal.returns
returns c = canonical_keeps
