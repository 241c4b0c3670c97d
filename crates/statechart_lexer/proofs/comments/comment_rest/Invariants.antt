use Rattle.std.proofs.Common.{◌≡◌, ◌-◌, ◌≤◌, length, drop}
use Rattle.statechart_lexer.specs.Comments.{comment_rest}
use Rattle.statechart_lexer.proofs.CommentEnds.{later}
use Rattle.statechart_lexer.proofs.comments.comment_rest.Given as goal

-- the comment goes on so far
abbrev pub invariant-bytes : goal.invariant-bytes
invariant-bytes l = record {
  bound : l.at ≤ length l.text;
  so_far : later l.at (comment_rest (drop l.at l.text)) ≡ comment_rest l.text;
}

abbrev pub decreases-bytes : goal.decreases-bytes
decreases-bytes l = length l.text - l.at
