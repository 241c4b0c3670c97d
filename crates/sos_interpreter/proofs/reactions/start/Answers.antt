use Rattle.std.proofs.Common.{ℕ, subst}
use Rattle.actions.specs.declared.event.Event.TheVariants.{Start}
use Rattle.actions.specs.World.{World}
use Rattle.sos_rules.specs.Reactions.{from_outside, start_upto}
use Rattle.sos_interpreter.specs.Gives.{Gives}
use Rattle.sos_interpreter.specs.Views.{chart_in, rules_in}
use Rattle.sos_interpreter.proofs.EngineLemmas.{answered_unit, started_fault}
use Rattle.sos_interpreter.proofs.reactions.start.Goals as goal

pub returns-clause-defined : goal.returns-clause-defined
returns-clause-defined c =
    let setting = c.args.setting.now in
    answered_unit (start_upto (chart_in setting) setting.bounds) c.enter.result c.enter.new.world
    (subst (λ (w : World). Gives {A = Unit {0}} (λ _. tt)
    (λ n. (rules_in setting n).enter 0 0 (from_outside Start) w) c.enter.result c.enter.new.world)
    c.requires.first (subst (λ (s : ℕ). Gives {A = Unit {0}} (λ _. tt)
    (λ n. (rules_in setting n).enter s s (from_outside Start) c.args.world.now) c.enter.result
    c.enter.new.world) c.root-root.ensures.root c.enter.ensures.gives))

pub returns-clause-fault : goal.returns-clause-fault
returns-clause-fault c =
    let setting = c.args.setting.now in
    started_fault (chart_in setting) c.root-root.ensures.valid setting.bounds c.enter.result c.enter.new.world
    (answered_unit (start_upto (chart_in setting) setting.bounds) c.enter.result c.enter.new.world
    (subst (λ (w : World). Gives {A = Unit {0}} (λ _. tt)
    (λ n. (rules_in setting n).enter 0 0 (from_outside Start) w) c.enter.result c.enter.new.world)
    c.requires.first (subst (λ (s : ℕ). Gives {A = Unit {0}} (λ _. tt)
    (λ n. (rules_in setting n).enter s s (from_outside Start) c.args.world.now) c.enter.result
    c.enter.new.world) c.root-root.ensures.root c.enter.ensures.gives)))
