use Rattle.std.proofs.Common.{◌≡◌}
use Rattle.c_functions.specs.Layout.{or_rank}
use Rattle.c_text.proofs.labels.count_ors.Given as goal

-- those before the state are counted
abbrev pub invariant-loop-state : goal.invariant-loop-state
invariant-loop-state l = l.ors ≡ or_rank l.tree l.state
