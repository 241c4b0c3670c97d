use Rattle.std.proofs.Common.{◌≡◌, ◌<◌, ℕ, List, false, length, take, get_or}
use Rattle.code_passes.specs.Tags.{has_other, shared_from}
use Rattle.code_passes.proofs.tagging.shared_by.Given as goal

-- those so far are made
abbrev pub invariant-loop-proc : goal.invariant-loop-proc
invariant-loop-proc l =
    (numbers : List ℕ) → ((p : ℕ) → p < length l.flags → get_or l.flags p false ≡ has_other p 0 numbers)
    → l.shared.items ≡ shared_from numbers 0 (take l.proc l.tags)
