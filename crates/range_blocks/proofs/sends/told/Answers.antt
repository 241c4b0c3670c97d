use Rattle.std.proofs.Common.{◌≡◌, ◌∙◌, ap, sym}
use Rattle.range_rules.specs.declared.cert.Cell.{Cell}
use Rattle.range_worlds.specs.Leads.{cert_in}
use Rattle.range_blocks.specs.Cells.{IsFound}
use Rattle.range_blocks.proofs.SendLemmas.{cell_leads, got_item}
use Rattle.range_blocks.proofs.sends.told.Goals as goal

pub returns-in_ok-ys-in-Some-clause-ends : goal.returns-in_ok-ys-in-Some-clause-ends
returns-in_ok-ys-in-Some-clause-ends c =
    let found : IsFound c.args.setting.now c.args.state c.args.event c.args.x c.in-Some.i = c.in-Some.ensures in
    let same : found.cell ≡ c.index.result.now =
    got_item (cert_in c.args.setting.now).cells.items c.in-Some.i _ _ c.index.ensures found.is in
    cell_leads _ _ _ _ _ _ _ _ found (c.deref.ensures.value ∙ ap (λ (z : Cell). z.ends.items) (sym same))
    c.in_ok-ys-in-Some.ensures
