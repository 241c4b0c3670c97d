use Rattle.code_lines.specs.declared.format.Format.TheVariants.{Two}
use Rattle.code_text.specs.Written.{written_of}
use Rattle.code_text.proofs.OutcomeLemmas.{spelled-text}
use Rattle.layout_text.proofs.Spellable.{code_spellable}
use Rattle.layout_text.proofs.Whole.{text_short}
use Rattle.layout_text.proofs.chart_texts.the_text_of_a_charts_code_is_read.Goals as goal

pub returns-clause-spellable : goal.returns-clause-spellable
returns-clause-spellable x c raw valid same = code_spellable c valid (written_of raw) same

pub returns-clause-read : goal.returns-clause-read
returns-clause-read x c raw valid same =
    spelled-text Two (written_of raw) (code_spellable c valid (written_of raw) same)
    (text_short c valid (written_of raw) same)
