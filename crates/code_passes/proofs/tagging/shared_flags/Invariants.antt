use Rattle.std.proofs.Common.{◌≡◌, ◌<◌, ℕ, false, length, take, get_or}
use Rattle.code_passes.specs.Tags.{has_other}
use Rattle.code_passes.proofs.tagging.shared_flags.Given as goal

-- the flags tell of the numbers so far
abbrev pub invariant-loop-proc : goal.invariant-loop-proc
invariant-loop-proc l = record {
  size : length l.flags.items ≡ length l.numbers;
  each : (p : ℕ) → p < length l.flags.items → get_or l.flags.items p false ≡ has_other p 0 (take l.proc l.numbers);
}
