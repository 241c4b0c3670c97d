use Rattle.chart_structure.proofs.NetLemmas.{junctions_are}
use Rattle.chart_structure.proofs.net.Net.junction_count.Goals as goal

pub returns : goal.returns
returns c = let e = junctions_are _ _ _ _ c.self.view_is in cc
