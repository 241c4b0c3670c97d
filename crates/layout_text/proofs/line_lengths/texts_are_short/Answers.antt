use Rattle.layout_text.proofs.Texts.{text_size}
use Rattle.layout_text.proofs.line_lengths.texts_are_short.Goals as goal

pub returns : goal.returns
returns x = text_size
