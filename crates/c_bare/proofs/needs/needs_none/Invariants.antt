use Rattle.std.proofs.Common.{◌≡◌, drop}
use Rattle.c_subset.specs.Trees.{Block}
use Rattle.c_subset.specs.Lines.{lines_in, lines_of}
use Rattle.c_bare.specs.Needs.{needs_none}
use Rattle.c_bare.proofs.needs.needs_none.Given as goal

-- the types to come give what all give
abbrev pub invariant-loop-local : goal.invariant-loop-local
invariant-loop-local l = (b : Block) → lines_in l.lines ≡ lines_of b
    → needs_none l.flags l.local (drop l.local l.types) b ≡ needs_none l.flags 0 l.types b
