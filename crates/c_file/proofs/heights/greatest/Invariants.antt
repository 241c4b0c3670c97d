use Rattle.std.proofs.Common.{ℕ, ◌<◌, ◌≤◌, slice_index}
use Rattle.c_file.proofs.heights.greatest.Given as goal

-- the heights before this one are no greater
abbrev pub invariant-loop-height : goal.invariant-loop-height
invariant-loop-height l = (f : ℕ) → f < l.height-index → slice_index l.heights f ≤ l.most
