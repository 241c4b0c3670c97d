use Rattle.std.proofs.Common.{sym, ◌∙◌, arith}
use Rattle.statechart_lexer.proofs.CommentEnds.{at_bad, at_end, goes_on, at_text_end}
use Rattle.statechart_lexer.proofs.comments.comment_rest.Goals as goal

pub returns-then-not-is_allowed-clause-value : goal.returns-then-not-is_allowed-clause-value
returns-then-not-is_allowed-clause-value c =
    at_bad c.args.text.now c.bytes.at _ c.bytes-test.true c.bytes.invariant.so_far (sym c.is_allowed.ensures ∙ c.if-not-is_allowed.true)

pub returns-then-begins_with-clause-value : goal.returns-then-begins_with-clause-value
returns-then-begins_with-clause-value c =
    at_end c.args.text.now c.bytes.at _ c.bytes-test.true c.bytes.invariant.so_far
    (sym c.is_allowed.ensures ∙ c.if-not-is_allowed.false) (sym c.begins_with.ensures ∙ c.if-begins_with.true)

pub bytes-preserved : goal.bytes-preserved
bytes-preserved c = record {
  bound = omega (arith, c.bytes-test.true);
  so_far = goes_on c.args.text.now c.bytes.at _ c.bytes-test.true c.bytes.invariant.so_far
      (sym c.is_allowed.ensures ∙ c.if-not-is_allowed.false) (sym c.begins_with.ensures ∙ c.if-begins_with.false);
}

pub returns-clause-value : goal.returns-clause-value
returns-clause-value c =
    at_text_end c.args.text.now c.bytes.at _ (omega (arith, c.bytes-test.false)) c.bytes.invariant.so_far
