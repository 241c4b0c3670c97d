-- The laws of an engine: a program has one start, and an event one outcome. They stand here since a ghost member of an
-- `impl` names only what stands in specs/.
use Rattle.std.proofs.Common.{◌≡◌, Option, ap}
use Rattle.flow_base.specs.declared.fault.Fault.{Fault}
use Rattle.actions.specs.declared.event.Event.{Event}
use Rattle.actions.specs.Runs.{Moment}
use Rattle.actions.specs.World.{World}
use Rattle.sos_rules.proofs.Reactions.{only_start, only_reaction}
use Rattle.sos_interpreter.specs.Engine.{Program, Starts, Reacts}

-- a program has one start
pub rules_one_start : (p : Program) (w w' : World) (f f' : Option Fault)
    → Starts p w f → Starts p w' f' → (w ≡ w') × (f ≡ f')
rules_one_start p w w' f f' a b =
    let e : record { world = w; fault = f } ≡ record { world = w'; fault = f' } = only_start p.chart p.bounds _ _ a b in
    (ap (λ (m : Moment). m.world) e, ap (λ (m : Moment). m.fault) e)

-- an event has one outcome from a world
pub rules_one_reaction : (p : Program) (w : World) (e : Event) (w' w'' : World) (f f' : Option Fault)
    → Reacts p w e w' f → Reacts p w e w'' f' → (w' ≡ w'') × (f ≡ f')
rules_one_reaction p w e w' w'' f f' a b =
    let q : record { world = w'; fault = f } ≡ record { world = w''; fault = f' } =
    only_reaction p.chart p.bounds w e _ _ a b in
    (ap (λ (m : Moment). m.world) q, ap (λ (m : Moment). m.fault) q)
