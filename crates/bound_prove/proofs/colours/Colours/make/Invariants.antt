use Rattle.std.proofs.Common.{◌≡◌, length}
use Rattle.bound_prove.proofs.ColourLemmas.{AreWhiteRows}
use Rattle.bound_prove.proofs.colours.Colours.make.Given as goal

-- the rows so far
abbrev pub invariant-loop : goal.invariant-loop
invariant-loop l = record {
  sized : length l.rows.items ≡ l.counter;
  each : AreWhiteRows l.junctions l.states l.rows.items;
}
