use Rattle.std.proofs.Common.{arith, ◌≡◌}
use Rattle.checked_chart.specs.declared.parts.ListKind.TheVariants.{Outer, Inner, Default}
use Rattle.chart_structure.specs.Net.{list_of}
use Rattle.chart_structure.proofs.NetLemmas.{node_within, list_is, list_dests}
use Rattle.chart_structure.proofs.net.Net.list.Goals as goal

pub index-node-requires : goal.index-node-requires
index-node-requires c = let h = node_within _ _ _ _ c.self.view_is _ c.self.invariant c.requires in omega arith

pub returns-in-Outer : goal.returns-in-Outer
returns-in-Outer c =
    let f = list_is _ _ _ _ c.self.view_is _ Outer c.index-node.result.now
    (node_within _ _ _ _ c.self.view_is _ c.self.invariant c.requires) c.index-node.ensures in
    let is = c.in-Outer.is in
    let same : c.deref.result.now ≡ list_of c.args.self.now c.args.state c.args.kind = cc in
    record { list = same; dests = list_dests _ _ _ _ c.self.view_is c.self.invariant _ _ _ same }

pub returns-in-Inner : goal.returns-in-Inner
returns-in-Inner c =
    let f = list_is _ _ _ _ c.self.view_is _ Inner c.index-node.result.now
    (node_within _ _ _ _ c.self.view_is _ c.self.invariant c.requires) c.index-node.ensures in
    let is = c.in-Inner.is in
    let same : c.deref-in-Inner.result.now ≡ list_of c.args.self.now c.args.state c.args.kind = cc in
    record { list = same; dests = list_dests _ _ _ _ c.self.view_is c.self.invariant _ _ _ same }

pub returns-in-Default : goal.returns-in-Default
returns-in-Default c =
    let f = list_is _ _ _ _ c.self.view_is _ Default c.index-node.result.now
    (node_within _ _ _ _ c.self.view_is _ c.self.invariant c.requires) c.index-node.ensures in
    let is = c.in-Default.is in
    let same : c.deref-in-Default.result.now ≡ list_of c.args.self.now c.args.state c.args.kind = cc in
    record { list = same; dests = list_dests _ _ _ _ c.self.view_is c.self.invariant _ _ _ same }
