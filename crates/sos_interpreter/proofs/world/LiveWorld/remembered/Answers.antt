use Rattle.std.proofs.Common.{ap, ◌∙◌, sym}
use Rattle.active_config.specs.Marks.{last_of}
use Rattle.active_config.specs.Tree.{Tree, comp_of}
use Rattle.actions.specs.World.{World}
use Rattle.checked_chart.specs.Kept.{chart_of}
use Rattle.sos_rules.proofs.MarkedStates.{history_or}
use Rattle.sos_rules.proofs.Memory.{remembered_is_last}
use Rattle.sos_interpreter.proofs.Worlds.{remembers_none, last_is_below}
use Rattle.sos_interpreter.proofs.world.LiveWorld.remembered.Goals as goal

pub last-requires-clause-or : goal.last-requires-clause-or
last-requires-clause-or c =
    ap (λ (t : Tree). comp_of t c.args.state) c.shape.ensures.shape
    ∙ history_or (chart_of c.args.chart.now) c.args.state (sym c.has_history.ensures ∙ c.if-has_history.true)

pub returns-then-has_history-clause-child : goal.returns-then-has_history-clause-child
returns-then-has_history-clause-child c =
    let chart = chart_of c.args.chart.now in
    c.last.ensures.child ∙ ap (λ (w : World). last_of c.args.state w.marks) c.self.view_is
    ∙ sym (remembered_is_last chart c.shape.ensures.valid.tree c.args.state c.args.self.now
    (sym c.has_history.ensures ∙ c.if-has_history.true) c.requires.fits.consistent)

pub returns-then-has_history-clause-below : goal.returns-then-has_history-clause-below
returns-then-has_history-clause-below c =
    let chart = chart_of c.args.chart.now in
    last_is_below chart.tree c.shape.ensures.valid.tree c.args.state c.args.self.now.marks c.requires.fits.consistent
    c.last.result (c.last.ensures.child ∙ ap (λ (w : World). last_of c.args.state w.marks) c.self.view_is)

pub returns-else-has_history-clause-child : goal.returns-else-has_history-clause-child
returns-else-has_history-clause-child c =
    remembers_none (chart_of c.args.chart.now) c.args.state c.args.self.now
    (sym c.has_history.ensures ∙ c.if-has_history.false)
