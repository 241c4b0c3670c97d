use Rattle.std.proofs.Common.{string_bytes}
use Rattle.c_lines.proofs.Letters.{blanks_more}
use Rattle.c_lines.proofs.breaking.print_blanks.Goals as goal

pub loop-preserved : goal.loop-preserved
loop-preserved c =
    blanks_more (string_bytes c.args.out.now) (string_bytes c.loop.out) (string_bytes c.push_str.new.self) c.loop.counter
    c.in_ok-push_str.ensures.bytes c.loop.invariant
