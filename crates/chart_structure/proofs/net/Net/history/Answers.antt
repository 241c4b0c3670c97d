use Rattle.std.proofs.Common.{arith}
use Rattle.chart_structure.proofs.NetLemmas.{node_within, history_is}
use Rattle.chart_structure.proofs.net.Net.history.Goals as goal

pub index-requires : goal.index-requires
index-requires c = let h = node_within _ _ _ _ c.self.view_is _ c.self.invariant c.requires in omega arith

pub returns : goal.returns
returns c =
    history_is _ _ _ _ c.self.view_is _ _ (node_within _ _ _ _ c.self.view_is _ c.self.invariant c.requires)
    c.index.ensures
