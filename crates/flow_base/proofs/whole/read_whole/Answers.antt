use Rattle.std.proofs.Common.{ℕ, ◌++◌, take, refl, arith}
use Rattle.std.proofs.lemmas.List.{length-append, length-take}
use Rattle.flow_base.proofs.Pieces.{one_taken}
use Rattle.flow_base.proofs.whole.read_whole.Goals as goal

-- the piece that found no memory is taken too
pub returns-in_err-extend_from_slice-clause-bounded :
    goal.returns-in_err-extend_from_slice-clause-bounded
returns-in_err-extend_from_slice-clause-bounded g c = record {
  taken = c.pieces.text.items ++ take c.in_ok-count.count c.read.new.buf;
  few = omega (arith, length-append {A = ℕ}, length-take {A = ℕ}, c.in_ok-count.ensures.bound);
  bytes =
      one_taken _ _ _ c.pieces.text.items
      (take c.in_ok-count.count c.read.new.buf) _ c.pieces.invariant.known c.in_ok-count.ensures.bytes.0 refl;
}
