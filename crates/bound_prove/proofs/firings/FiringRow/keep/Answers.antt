use Rattle.std.proofs.Common.{Some, refl, arith}
use Rattle.std.specs.Vec.{with_item}
use Rattle.bound_prove.proofs.FiringLemmas.{row_keeps}
use Rattle.bound_prove.proofs.firings.FiringRow.keep.Goals as goal

pub returns : goal.returns
returns c =
    let sized = c.args.self.now.needs.ok.0 in
    row_keeps c.args.self.now (record { needs = with_item c.args.self.now.needs c.args.home (Some c.args.need) })
    c.args.home c.args.need (omega (arith, sized)) refl
