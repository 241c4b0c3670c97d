use Rattle.std.proofs.Common.{ℕ, arith}
use Rattle.actions.specs.declared.event.Event.TheVariants.{Named}
use Rattle.bound_prove.specs.declared.cert.Cert.{Cert}
use Rattle.bound_prove.specs.declared.need.Need.{Need}
use Rattle.bound_prove.specs.declared.need.Part.TheVariants.{Process}
use Rattle.bound_prove.specs.Certs.{cells_of}
use Rattle.bound_prove.proofs.CheckLemmas.{inputs_begin, inputs_go_on, inputs_end}
use Rattle.bound_prove.proofs.check.inputs_need.Goals as goal

-- what an event of that number needs
abbrev work : Cert → ℕ → Need
work k e = cells_of k (Named e) Process 0

pub loop-number-init : goal.loop-number-init
loop-number-init c = inputs_begin (work c.args.cert.now) c.args.events.now

pub loop-number-preserved : goal.loop-number-preserved
loop-number-preserved c =
    inputs_go_on (work c.args.cert.now) c.args.events.now c.loop-number.number c.index-events-number.result
    c.loop-number.need _ _ (omega arith) c.index-events-number.is c.input_need-own.ensures c.or-need.ensures
    c.loop-number.invariant

pub returns : goal.returns
returns c =
    inputs_end (work c.args.cert.now) c.args.events.now c.loop-number.number c.loop-number.need (omega arith)
    c.loop-number.invariant
