use Rattle.std.proofs.Common.{◌≡◌, suc, ◌+◌, ◌-◌, ap, arith}
use Rattle.c_text.specs.Statements.{indent}
use Rattle.c_text.proofs.LoopLemmas.{more_printed, none_to_come}
use Rattle.c_text.proofs.statements.print_indent.Goals as goal

pub loop-level-preserved : goal.loop-level-preserved
loop-level-preserved c =
    let more : c.args.depth - c.loop-level.level ≡ suc (c.args.depth - (c.loop-level.level + 1)) = omega arith in
    more_printed _ _ _ _ _ _ (ap indent more) c.in_ok-push_str.ensures.bytes c.loop-level.invariant

pub returns : goal.returns
returns c =
    let none : c.args.depth - c.loop-level.level ≡ 0 = omega arith in
    none_to_come _ _ _ (ap indent none) c.loop-level.invariant
