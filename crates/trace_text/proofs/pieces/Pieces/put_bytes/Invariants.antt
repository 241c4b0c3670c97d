use Rattle.std.proofs.Common.{List, ℕ, ◌++◌, take}
use Rattle.std.specs.Prelude.{Option}
use Rattle.trace_text.specs.Pieces.{Written}
use Rattle.trace_text.proofs.pieces.Pieces.put_bytes.Given as goal

-- the front of the text up to the index is put
abbrev pub invariant-loop-byte : goal.invariant-loop-byte
invariant-loop-byte g l = (w : Option (List ℕ)) (f : ℕ) (all : List ℕ)
    → Written w (g.O.Sink.wrote l.fn.out) f (g.O.Sink.faults l.fn.out) all l.fn.self
    → Written w (g.O.Sink.wrote l.out) f (g.O.Sink.faults l.out) (all ++ take l.byte-index l.text) l.self
