use Rattle.c_functions.proofs.FilesCode.{ends-as-code}
use Rattle.c_functions.proofs.function_laws.functions_end_as_code.Goals as goal

pub returns : goal.returns
returns c = ends-as-code
