use Rattle.c_inlined.proofs.FileLemmas.{as-they-are, in-turn}
use Rattle.c_inlined.proofs.files.inlined_functions.Goals as goal

pub loop-number-init : goal.loop-number-init
loop-number-init c = λ file are. as-they-are file c.args.functions.items are

pub loop-number-preserved : goal.loop-number-preserved
loop-number-preserved c =
    λ file are. in-turn file c.loop-number.made.items c.in_ok-made.made.items (c.loop-number.invariant file are)
    c.in_ok-made.ensures
