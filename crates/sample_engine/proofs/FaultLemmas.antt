-- The faults of a reaction name a datum of the chart.
use Rattle.std.proofs.Common.{ℕ, zero, suc, Bool, true, false, cond, nat_le, ℤ, ◌+◌}
use Rattle.std.proofs.Common.{Option, Some, None, Result, Ok, Err, subst, lit<}
use Rattle.flow_base.specs.declared.fault.Fault.{Fault}
use Rattle.flow_base.specs.declared.fault.Fault.TheVariants.{Steps}
use Rattle.fixed_point.specs.declared.fitting.Overflow.{Overflow}
use Rattle.actions.specs.declared.engine.Halt.{Halt}
use Rattle.actions.specs.declared.engine.Halt.TheVariants as halts
use Rattle.actions.specs.declared.event.Event.{Event}
use Rattle.actions.specs.declared.event.Event.TheVariants as events
use Rattle.actions.specs.Data.{datum, keep, kept, assigned}
use Rattle.actions.specs.Engines.{AnswersBy, IsFaultOf, fault_of}
use Rattle.actions.specs.World.{World, begun}
use Rattle.sample_engine.specs.Chart.{Program, chart_names}
use Rattle.sample_engine.specs.Reactions.{Outcome, total, counted, ticked, emitted_where_paid}
use Rattle.sample_engine.specs.Reactions.{round_of, goes_on, worked, Reacted}

-- a tick has none or the overflow of datum 1
ticked_faults : (p : Program) (w : World) → IsFaultOf (chart_names p.scale) (ticked w).fault
unfolding assigned
ticked_faults p w = at (kept (total w.vals) (datum w.vals 1))
  where
    at : (r : Result ℤ Overflow) → IsFaultOf (chart_names p.scale) (counted w (keep w.vals 1 r)).fault
    at (Ok m) = tt
    at (Err o) = lit< tt

-- work has none or that of the steps
round_faults : (p : Program) (w : World) → IsFaultOf (chart_names p.scale) (round_of p.bounds w).fault
round_faults p w = at (nat_le p.bounds.steps w.used)
  where
    at : (full : Bool) → IsFaultOf (chart_names p.scale)
        (emitted_where_paid w (cond full (Err Steps) (Ok (record w { used = w.used + 1 })))).fault
    at true = tt
    at false = tt

goes_on_faults : (p : Program) (w : World) (fault : Option Fault) (next : World → Outcome)
    → IsFaultOf (chart_names p.scale) fault → ((x : World) → IsFaultOf (chart_names p.scale) (next x).fault)
    → IsFaultOf (chart_names p.scale) (goes_on w fault next).fault
goes_on_faults p w None next here after = after w
goes_on_faults p w (Some fault) next here after = here

worked_faults : (p : Program) (rounds : ℕ) (w : World)
    → IsFaultOf (chart_names p.scale) (worked p.bounds rounds w).fault
unfolding worked
worked_faults p zero w = tt
worked_faults p (suc rounds) w =
    goes_on_faults p (round_of p.bounds w).world (round_of p.bounds w).fault (worked p.bounds rounds) (round_faults p w) (worked_faults p rounds)

reaction_faults : (p : Program) (w : World) (e : Event) (w' : World) (f : Option Fault)
    → Reacted p.bounds p.rounds w e (record { world = w'; fault = f }) → IsFaultOf (chart_names p.scale) f
reaction_faults p w events.Start w' f is = absurd is
reaction_faults p w events.Tick w' f is =
    subst (λ (o : Outcome). IsFaultOf (chart_names p.scale) o.fault) is (ticked_faults p (begun w))
reaction_faults p w (events.Named e) w' f is =
    subst (λ (o : Outcome). IsFaultOf (chart_names p.scale) o.fault) is (worked_faults p p.rounds (begun w))

-- so does the fault of an answer
pub answer_faults : (p : Program) (w : World) (e : Event) (w' : World) (answer : Result (Unit {0}) Halt)
    → AnswersBy (λ fault. Reacted p.bounds p.rounds w e (record { world = w'; fault = fault })) answer
    → IsFaultOf (chart_names p.scale) (fault_of answer)
answer_faults p w e w' (Ok done) is = tt
answer_faults p w e w' (Err (halts.Fault fault)) is = reaction_faults p w e w' (Some fault) is
answer_faults p w e w' (Err halts.Memory) is = tt
