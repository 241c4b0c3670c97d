use Rattle.std.proofs.Common.{arith}
use Rattle.actions.specs.World.{world_before}
use Rattle.code_language.specs.Reactions.{program_of, start_machine, react_machine}
use Rattle.code_counts.proofs.Bounded.{end_within}
use Rattle.code_counts.proofs.laws.counts_hold_where_events_end.Goals as goal

pub returns-clause-start : goal.returns-clause-start
returns-clause-start args c k most b w x has starts =
    end_within c (program_of k b) most (start_machine k) (record { world = w; fault = x }) starts
    (λ n. has.start b n (world_before k.tree k.names))

pub returns-clause-reaction : goal.returns-clause-reaction
returns-clause-reaction args c k most b w w' e x has reacts =
    end_within c (program_of k b) most (react_machine k w e) (record { world = w'; fault = x }) reacts
    (λ n. has.reaction b n w e)

pub returns-clause-steps : goal.returns-clause-steps
returns-clause-steps args b most w le within = omega (arith, le, within.1)

pub returns-clause-depth : goal.returns-clause-depth
returns-clause-depth args b most w le within = omega (arith, le, within.1)
