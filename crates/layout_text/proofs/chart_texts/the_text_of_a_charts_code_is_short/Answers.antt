use Rattle.code_text.specs.Written.{written_of}
use Rattle.layout_text.proofs.Whole.{text_short}
use Rattle.layout_text.proofs.chart_texts.the_text_of_a_charts_code_is_short.Goals as goal

pub returns : goal.returns
returns x c raw valid same = text_short c valid (written_of raw) same
