use Rattle.std.proofs.Common.{arith}
use Rattle.actions.specs.World.{world_before, begun}
use Rattle.actions.specs.Work.{from_outside}
use Rattle.actions.specs.declared.event.Event.TheVariants.{Start}
use Rattle.counting_log.proofs.Tells.{logged_match}
use Rattle.counting_log.proofs.Since.{number_is_kept, has_number}
use Rattle.counting_log.proofs.laws.a_counter_is_a_number_of_times.Goals as goal

pub returns-clause-pieces : goal.returns-clause-pieces
returns-clause-pieces x c k b v s e greatest n own =
    logged_match c k b _ (number_is_kept c k b v s e greatest own) n

pub returns-clause-start : goal.returns-clause-start
returns-clause-start x c k b v s e greatest n own first =
    (logged_match c k b _ (number_is_kept c k b v s e greatest own) n).enter 0 0 (from_outside Start)
    (world_before c.tree c.names) _
    (λ clean. has_number v greatest _ _ (world_before c.tree c.names) (omega arith) first)

pub returns-clause-reaction : goal.returns-clause-reaction
returns-clause-reaction x c k b v s e greatest n w log event own h =
    (logged_match c k b _ (number_is_kept c k b v s e greatest own) n).process 0 (from_outside event) (begun w) log h
