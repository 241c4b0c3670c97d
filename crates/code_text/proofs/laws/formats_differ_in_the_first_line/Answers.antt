use Rattle.code_text.proofs.TextLemmas.{code_text-first}
use Rattle.code_text.proofs.laws.formats_differ_in_the_first_line.Goals as goal

pub returns : goal.returns
returns c = code_text-first
