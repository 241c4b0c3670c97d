use Rattle.std.proofs.Common.{sym, ◌∙◌}
use Rattle.c_trees.specs.Blocks.{block_of}
use Rattle.c_loops.proofs.Whole.{plain-is, loop-is}
use Rattle.c_loops.proofs.functions.with_loop.Goals as goal

-- it may not be a loop
pub returns-then-not-may_loop : goal.returns-then-not-may_loop
returns-then-not-may_loop c =
    λ g h. plain-is c.args.function g c.args.number (sym c.may_loop.ensures ∙ c.if-not-may_loop.true) h

-- it may
pub returns : goal.returns
returns c =
    λ g h. loop-is c.args.function c.in_ok-lines.lines g c.args.number (block_of c.in_ok-tree.tree.value)
    c.in_ok-tree.ensures (sym c.may_loop.ensures ∙ c.if-not-may_loop.false) c.in_ok-lines.ensures h
