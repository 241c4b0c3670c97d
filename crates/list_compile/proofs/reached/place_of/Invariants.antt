use Rattle.std.proofs.Common.{◌≡◌, ◌+◌, drop}
use Rattle.chart_code.specs.ReachedJunctions.{place_of}
use Rattle.list_compile.proofs.reached.place_of.Given as goal

-- the places that were passed, and the place in what is left
abbrev pub invariant-loop-item : goal.invariant-loop-item
invariant-loop-item l = record {
  passed : l.place ≡ l.item-index;
  place : l.place + place_of (drop l.item-index l.found) l.junction ≡ place_of l.found l.junction;
}
