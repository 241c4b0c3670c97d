use Rattle.std.proofs.Common.{arith}
use Rattle.range_spans.proofs.SameLemmas.{on_true}
use Rattle.range_worlds.proofs.InsideLemmas.{told}
use Rattle.range_blocks.specs.Cells.{IsFor}
use Rattle.range_blocks.proofs.sends.is_for.Goals as goal

pub returns : goal.returns
returns c =
    on_true {P = IsFor c.args.setting.now c.args.state c.args.event c.args.x.now c.args.cell.now} _
    (λ e. record { state_is = omega arith; event_is = omega arith; from = told _ e c.has_all.ensures })
