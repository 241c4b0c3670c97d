use Rattle.std.proofs.Common.{◌∙◌, ap, length}
use Rattle.code_merging.proofs.OwnNumbers.{numbers_size}
use Rattle.code_merging.proofs.finding.stand_ins.Goals as goal

-- at first there are as many
pub loop-round-init : goal.loop-round-init
loop-round-init c = ap length c.in_ok-numbers.ensures ∙ numbers_size 0 (length c.args.procs.now)
