use Rattle.std.proofs.Common.{◌≡◌, length}
use Rattle.bound_prove.proofs.CertLemmas.{AreFirstRows}
use Rattle.bound_prove.proofs.cert.Cert.make.Given as goal

-- the rows so far
abbrev pub invariant-loop : goal.invariant-loop
invariant-loop l = record {
  sized : length l.rows.items ≡ l.counter;
  each : AreFirstRows l.junctions l.states l.first l.rows.items;
}
