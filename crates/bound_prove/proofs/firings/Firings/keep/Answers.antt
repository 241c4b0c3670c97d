use Rattle.std.proofs.Common.{◌<◌, length, refl, arith}
use Rattle.std.specs.Vec.{with_item}
use Rattle.bound_prove.proofs.FiringLemmas.{keeps_at}
use Rattle.bound_prove.proofs.Rows.{get_there}
use Rattle.bound_prove.proofs.firings.Firings.keep.Goals as goal

pub returns : goal.returns
returns c =
    let sized = c.args.self.now.rows.ok.0 in
    let e = c.event_index-e.result in
    let lt : e < length c.args.self.now.rows.items = omega (arith, sized) in
    keeps_at c.args.self.now (record { rows = with_item c.args.self.now.rows e c.keep.new.self }) c.args.event
    c.args.home c.args.need c.index_mut-row.result.now c.keep.new.self e c.event_index-e.ensures lt
    (get_there c.args.self.now.rows.items e c.index_mut-row.result.now lt c.index_mut-row.ensures.value) refl
    c.keep.ensures
