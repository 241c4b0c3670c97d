use Rattle.std.proofs.Common.{◌≡◌, ◌||◌, drop}
use Rattle.c_file.specs.Closing.{passed, finds_new}
use Rattle.c_file.proofs.calls.pass.Given as goal

-- the calls to come give what all give
abbrev pub invariant-loop-call : goal.invariant-loop-call
invariant-loop-call l =
    (passed l.flags (drop l.call-index l.calls) ≡ passed l.fn.flags l.calls)
    × ((l.found || finds_new l.flags (drop l.call-index l.calls)) ≡ finds_new l.fn.flags l.calls)
