use Rattle.std.proofs.Common.{◌≡◌, drop, None}
use Rattle.c_subset.specs.Lines.{lines_in}
use Rattle.c_bare.specs.Scanning.{lines_need}
use Rattle.c_bare.proofs.Lines.{IsWithin}
use Rattle.c_bare.proofs.needs.lines_need.Given as goal

-- the lines to come give what all give, and no more blocks are open than lines were read
abbrev pub invariant-loop-line : goal.invariant-loop-line
invariant-loop-line l = record {
  same : lines_need l.flags l.of l.local (lines_in (drop l.line-index l.lines)) l.since
      ≡ lines_need l.flags l.of l.local (lines_in l.lines) None;
  few : IsWithin l.since l.line-index;
}
