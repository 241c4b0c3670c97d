use Rattle.std.proofs.Common.{arith}
use Rattle.chart_structure.proofs.NetLemmas.{junctions_are, junction_name_is}
use Rattle.chart_structure.proofs.net.Net.junction_name.Goals as goal

pub index-requires : goal.index-requires
index-requires c = let e = junctions_are _ _ _ _ c.self.view_is in omega arith

pub returns : goal.returns
returns c =
    let e = junctions_are _ _ _ _ c.self.view_is in
    junction_name_is _ _ _ _ c.self.view_is _ _ (omega arith) c.index.ensures
