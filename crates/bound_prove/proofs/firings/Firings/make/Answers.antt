use Rattle.bound_prove.proofs.FiringLemmas.{empty_pushed, empty_none}
use Rattle.bound_prove.proofs.firings.Firings.make.Goals as goal

pub loop-init : goal.loop-init
loop-init c = rw c.new-rows.ensures.items (λ n r e. absurd cc)

pub loop-preserved : goal.loop-preserved
loop-preserved c = rw c.in_ok-push.ensures.items (empty_pushed _ _ c.loop.invariant c.in_ok-row.ensures)

pub returns : goal.returns
returns c = empty_none (record { rows = c.loop.rows }) c.loop.invariant
