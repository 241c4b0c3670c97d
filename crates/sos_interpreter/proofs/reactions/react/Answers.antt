use Rattle.std.proofs.Common.{ℕ, Err, refl, subst}
use Rattle.actions.specs.World.{World}
use Rattle.actions.specs.Work.{Ended}
use Rattle.sos_rules.specs.Reactions.{from_outside, react_upto}
use Rattle.sos_interpreter.specs.Gives.{Gives}
use Rattle.sos_interpreter.specs.Settled.{Settled}
use Rattle.sos_interpreter.specs.Views.{chart_in, rules_in, went_of}
use Rattle.sos_interpreter.proofs.EngineLemmas.{answered, given, reacted_fault}
use Rattle.sos_interpreter.proofs.reactions.react.Goals as goal

pub returns-in-Ok-clause-defined : goal.returns-in-Ok-clause-defined
returns-in-Ok-clause-defined c =
    let setting = c.args.setting.now in
    let event = from_outside c.args.event in
    let end = Ended (went_of c.in-Ok.field-0) c.process.new.world in
    given (react_upto (chart_in setting) setting.bounds c.args.world.now c.args.event) end _
    (subst (λ (w : World). Settled (λ n. (rules_in setting n).process 0 event w) end) c.begin.ensures.begun
    (subst (λ (s : ℕ). Settled (λ n. (rules_in setting n).process s event c.begin.new.self) end)
    c.root-root.ensures.root c.in-Ok.ensures.gives)) refl

pub returns-in-Err-clause-defined : goal.returns-in-Err-clause-defined
returns-in-Err-clause-defined c =
    let setting = c.args.setting.now in
    let event = from_outside c.args.event in
    let end = c.process.new.world in
    answered went_of (react_upto (chart_in setting) setting.bounds c.args.world.now c.args.event) c.in-Err.halt end
    (subst (λ (w : World). Gives went_of (λ n. (rules_in setting n).process 0 event w) (Err c.in-Err.halt) end)
    c.begin.ensures.begun
    (subst (λ (s : ℕ). Gives went_of (λ n. (rules_in setting n).process s event c.begin.new.self)
    (Err c.in-Err.halt) end) c.root-root.ensures.root c.in-Err.ensures.gives))

pub returns-in-Err-clause-fault : goal.returns-in-Err-clause-fault
returns-in-Err-clause-fault c =
    let setting = c.args.setting.now in
    let event = from_outside c.args.event in
    let end = c.process.new.world in
    reacted_fault (chart_in setting) c.root-root.ensures.valid setting.bounds c.args.world.now c.args.event
    (Err c.in-Err.halt) end
    (answered went_of (react_upto (chart_in setting) setting.bounds c.args.world.now c.args.event) c.in-Err.halt end
    (subst (λ (w : World). Gives went_of (λ n. (rules_in setting n).process 0 event w) (Err c.in-Err.halt) end)
    c.begin.ensures.begun
    (subst (λ (s : ℕ). Gives went_of (λ n. (rules_in setting n).process s event c.begin.new.self)
    (Err c.in-Err.halt) end) c.root-root.ensures.root c.in-Err.ensures.gives)))
