use Rattle.std.proofs.Common.{◌≡◌, ℕ, ◌<◌, false, length, get_or, take}
use Rattle.c_functions.specs.Notes.{is_noted}
use Rattle.c_shape.specs.Parts.{procs_seen}
use Rattle.c_shape.proofs.notes.noted_in.Given as goal

-- the procedures that those so far note are marked
abbrev pub invariant-loop-proc : goal.invariant-loop-proc
invariant-loop-proc l = record {
  size : length l.flags.items ≡ length l.procs;
  marked : (b : ℕ) → b < length l.flags.items
      → get_or l.flags.items b false ≡ is_noted (procs_seen (take l.proc-index l.procs)) b;
}
