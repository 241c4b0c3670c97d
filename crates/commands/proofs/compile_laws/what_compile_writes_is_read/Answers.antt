use Rattle.commands.proofs.CompiledText.{code_text_of, is_read, same_code}
use Rattle.commands.proofs.compile_laws.what_compile_writes_is_read.Goals as goal

pub returns-clause-read : goal.returns-clause-read
returns-clause-read c = λ chart text compiled. (code_text_of chart text compiled, is_read chart text compiled)

pub returns-clause-only : goal.returns-clause-only
returns-clause-only c = same_code
