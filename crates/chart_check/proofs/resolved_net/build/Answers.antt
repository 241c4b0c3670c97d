use Rattle.std.proofs.Common.{refl, sym, ◌∙◌, subst}
use Rattle.chart_structure.specs.Net.{IsNet}
use Rattle.resolved_tree.specs.Views.{resolved_of}
use Rattle.chart_check.specs.Nets as spec
use Rattle.chart_check.proofs.ResolvedNetLemmas.{is_net, net_made}
use Rattle.chart_check.proofs.resolved_net.build.Goals as goal

pub make-requires : goal.make-requires
unfolding spec.net_of
make-requires c =
    subst IsNet
    (sym (net_made (spec.net_of (resolved_of c.args.resolved.now)) _ _ _
    refl (cc c.in_ok-nodes.ensures) (cc c.in_ok-junctions.ensures)))
    (is_net (resolved_of c.args.resolved.now) c.requires)

pub returns : goal.returns
unfolding spec.net_of
returns c =
    c.make.ensures
    ∙ net_made (spec.net_of (resolved_of c.args.resolved.now)) _ _ _
    refl (cc c.in_ok-nodes.ensures) (cc c.in_ok-junctions.ensures)
