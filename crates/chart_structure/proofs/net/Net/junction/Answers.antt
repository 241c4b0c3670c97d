use Rattle.std.proofs.Common.{arith, ◌∙◌}
use Rattle.chart_structure.proofs.NetLemmas.{junctions_are, junction_list_is, junction_dests}
use Rattle.chart_structure.proofs.net.Net.junction.Goals as goal

pub index-requires : goal.index-requires
index-requires c = let e = junctions_are _ _ _ _ c.self.view_is in omega arith

pub returns-clause-list : goal.returns-clause-list
returns-clause-list c =
    let e = junctions_are _ _ _ _ c.self.view_is in
    c.deref.ensures.value ∙ junction_list_is _ _ _ _ c.self.view_is _ c.index.result.now (omega arith) c.index.ensures

pub returns-clause-dests : goal.returns-clause-dests
returns-clause-dests c =
    let e = junctions_are _ _ _ _ c.self.view_is in
    junction_dests _ _ _ _ c.self.view_is c.self.invariant _ _
    (c.deref.ensures.value ∙ junction_list_is _ _ _ _ c.self.view_is _ c.index.result.now
    (omega arith) c.index.ensures)
