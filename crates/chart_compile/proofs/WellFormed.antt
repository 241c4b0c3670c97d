-- When the code of a chart is well formed.
use Rattle.std.proofs.Common.{◌≡◌, true, false, None}
use Rattle.code_language.specs.declared.fault.CodeKind.TheVariants as kinds
use Rattle.code_language.specs.declared.limits.TheConstants.{HEIGHT_LIMIT, WORK_LIMIT}
use Rattle.code_language.specs.Code.{Code}
use Rattle.code_language.specs.Measures.{heights, works}
use Rattle.code_language.specs.Tables.{IsTable}
use Rattle.code_language.specs.WellFormed.{IsCode, too_many, starts_known, known_of, procs_fault, first_over}
use Rattle.code_language.proofs.AcceptLemmas.{fault_of_works}

-- code is well formed where each of the tests finds nothing
pub is_code : (k : Code) → too_many k.procedures.procs ≡ false → IsTable k.tree k.names
    → starts_known k.procedures ≡ true → procs_fault (known_of k) 0 k.procedures.procs ≡ None
    → first_over HEIGHT_LIMIT kinds.TooHigh 0 (heights k.procedures.procs) ≡ None
    → first_over WORK_LIMIT kinds.TooMuchWork 0 (works k.procedures.procs) ≡ None → IsCode k
is_code k few table starts procs low little = record {
  few = few;
  table = table;
  sound = fault_of_works k starts procs low None little;
}
