use Rattle.std.proofs.Common.{◌≡◌, ◌<◌, length, ap, ◌∙◌, sym, subst}
use Rattle.active_config.specs.Tree.{state_count}
use Rattle.checked_chart.specs.Chart.{node, no_node}
use Rattle.checked_chart.specs.Kept.{Kept, chart_of}
use Rattle.checked_chart.specs.Valid.{IsValid, IsNode}
use Rattle.checked_chart.specs.Views.{node_seen}
use Rattle.checked_chart.proofs.PartsLemmas.{found_at, within_seen, node_valid}
use Rattle.checked_chart.proofs.chart.Chart.parts.Goals as goal

-- what a state of a valid chart does is valid
pub returns-clause-valid : goal.returns-clause-valid
unfolding chart_of node
returns-clause-valid c =
    let valid = subst (λ k. IsValid (chart_of k)) c.self.view_is c.self.invariant in
    let lt : c.args.state < length c.self.inside.states.items =
    within_seen node_seen c.self.inside.states.items c.args.state
    (subst (λ n. c.args.state < n) (sym c.self.invariant.nodes_sized)
    (subst (λ (k : Kept). c.args.state < state_count k.tree) (sym c.self.view_is) c.requires)) in
    let seen : node_seen c.index.result.now ≡ node (chart_of c.args.self.now) c.args.state =
    sym (found_at node_seen c.self.inside.states.items c.args.state c.index.result.now _ no_node lt c.index.ensures)
    ∙ ap (λ (k : Kept). node (chart_of k) c.args.state) c.self.view_is in
    subst (IsNode (chart_of c.args.self.now)) (sym seen) (node_valid (chart_of c.args.self.now) valid c.args.state)
