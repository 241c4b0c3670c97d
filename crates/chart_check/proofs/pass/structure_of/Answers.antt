use Rattle.std.proofs.Common.{subst}
use Rattle.resolved_tree.specs.Views.{resolved_of}
use Rattle.chart_structure.specs.Pass.{CountsPairs}
use Rattle.chart_check.proofs.PassLemmas.{few_states, of_net}
use Rattle.chart_check.proofs.pass.structure_of.Goals as goal

pub first_fault-requires : goal.first_fault-requires
first_fault-requires c =
    few_states (resolved_of c.args.resolved.now) c.in_ok-net.net c.requires.resolved c.in_ok-net.ensures

pub returns-clause-fault : goal.returns-clause-fault
returns-clause-fault c =
    of_net (resolved_of c.args.resolved.now) c.in_ok-net.net c.in_ok-found.found.fault c.requires.types
    c.in_ok-net.ensures c.in_ok-found.ensures.first

pub returns-clause-pairs : goal.returns-clause-pairs
returns-clause-pairs c =
    subst (λ n. CountsPairs n c.in_ok-found.found.pairs) c.in_ok-net.ensures c.in_ok-found.ensures.pairs
