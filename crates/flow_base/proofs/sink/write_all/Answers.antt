use Rattle.std.proofs.Common.{ℕ, arith, rules}
use Rattle.std.proofs.lemmas.List.{length-take, length-drop}
use Rattle.flow_base.proofs.Pieces.{one_more}
use Rattle.flow_base.proofs.sink.write_all.Goals as goal

pub pieces-preserved : goal.pieces-preserved
pieces-preserved g c = record {
  bound = omega (arith, c.in_ok-count.ensures.bound, length-take {A = ℕ}, length-drop {A = ℕ});
  bytes =
      one_more _ _ _ c.pieces.written c.in_ok-count.count c.args.piece.now c.pieces.invariant.bytes c.in_ok-count.ensures.bytes;
  untouched = λ none. absurd (omega arith);
  count = search rules;
}
