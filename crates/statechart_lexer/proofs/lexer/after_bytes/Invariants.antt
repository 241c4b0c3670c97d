use Rattle.std.proofs.Common.{◌≡◌, ◌+◌, ◌≤◌, drop}
use Rattle.statechart_lexer.specs.Lex.{after_bytes}
use Rattle.statechart_lexer.proofs.lexer.after_bytes.Given as goal

-- the place after the bytes so far, and then the others
abbrev pub invariant-loop-byte : goal.invariant-loop-byte
invariant-loop-byte l = record {
  so_far : after_bytes l.place (drop l.byte-index l.bytes) ≡ after_bytes l.fn.start l.bytes;
  line : l.place.line ≤ l.fn.start.line + l.byte-index;
  column : l.place.column ≤ l.fn.start.column + l.byte-index;
  some : 1 ≤ l.place.column;
}
