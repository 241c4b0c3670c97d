use Rattle.actions.specs.declared.event.Event.TheVariants.{Named}
use Rattle.bound_prove.specs.declared.need.Part.TheVariants.{Process}
use Rattle.bound_prove.specs.Certs.{cells_of}
use Rattle.bound_prove.proofs.CheckLemmas.{InputsSoFar}
use Rattle.bound_prove.proofs.check.inputs_need.Given as goal

abbrev pub invariant-loop-number : goal.invariant-loop-number
invariant-loop-number l = InputsSoFar (λ e. cells_of l.cert (Named e) Process 0) l.events l.number l.need
