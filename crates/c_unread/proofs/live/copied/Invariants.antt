use Rattle.std.proofs.Common.{◌≡◌, take}
use Rattle.c_unread.proofs.live.copied.Given as goal

-- the first so many are copied
abbrev pub invariant-loop-local : goal.invariant-loop-local
invariant-loop-local l = l.made.items ≡ take l.local-index l.live
