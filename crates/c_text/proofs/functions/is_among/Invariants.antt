use Rattle.std.proofs.Common.{◌≡◌, drop}
use Rattle.std.specs.List.{list_any}
use Rattle.c_text.specs.Reading.{same_local}
use Rattle.c_text.proofs.functions.is_among.Given as goal

-- the locals to come give what all give
abbrev pub invariant-loop-other : goal.invariant-loop-other
invariant-loop-other l =
    list_any (same_local l.local) (drop l.other-index l.seen) ≡ list_any (same_local l.local) l.seen
