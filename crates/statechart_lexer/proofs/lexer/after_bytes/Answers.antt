use Rattle.std.proofs.Common.{◌+◌, ◌≤◌, arith}
use Rattle.statechart_lexer.proofs.Cuts.{next_place, last_place, next_line, next_column, next_some}
use Rattle.statechart_lexer.proofs.lexer.after_bytes.Goals as goal

pub loop-byte-preserved : goal.loop-byte-preserved
loop-byte-preserved c =
    let far = c.loop-byte.invariant in
    let from_one : 1 ≤ c.args.start.column + c.loop-byte.byte-index = omega (arith, c.requires.some) in
    let line = next_line c.loop-byte.place _ _ _ c.after_byte-place.ensures far.line in
    let column = next_column c.loop-byte.place _ _ _ c.after_byte-place.ensures far.column from_one in
    record {
      so_far = next_place c.loop-byte.place _ _ c.args.bytes.now c.loop-byte.byte-index c.loop-byte-test.true c.after_byte-place.ensures far.so_far;
      line = omega (arith, line);
      column = omega (arith, column);
      some = next_some c.loop-byte.place _ _ c.after_byte-place.ensures far.some;
    }

pub returns-clause-value : goal.returns-clause-value
returns-clause-value c =
    last_place c.loop-byte.place _ c.args.bytes.now c.loop-byte.byte-index (omega (arith, c.loop-byte-test.false))
    c.loop-byte.invariant.so_far
