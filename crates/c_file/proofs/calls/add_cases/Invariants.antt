use Rattle.std.proofs.Common.{◌≡◌, ◌++◌, drop}
use Rattle.c_file.specs.Calls.{case_calls}
use Rattle.c_file.proofs.calls.add_cases.Given as goal

-- what was added, and the cases to come, are all
abbrev pub invariant-loop-case : goal.invariant-loop-case
invariant-loop-case l =
    l.calls.items ++ case_calls l.caller (drop l.case-index l.cases) ≡ l.fn.calls.items ++ case_calls l.caller l.cases
