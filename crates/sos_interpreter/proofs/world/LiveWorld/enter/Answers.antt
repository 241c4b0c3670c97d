use Rattle.std.proofs.Common.{◌≡◌, true, ap, ◌∙◌, sym, subst}
use Rattle.std.specs.Prelude.{IsSomeAnd}
use Rattle.active_config.specs.declared.comp.Comp.TheVariants.{Or}
use Rattle.active_config.specs.Marks.{Configuration, with_last}
use Rattle.active_config.specs.Tree.{Tree, parent_of, comp_of}
use Rattle.actions.specs.World.{World}
use Rattle.actions.specs.Changes.{set_mark, keep_in}
use Rattle.checked_chart.specs.Kept.{chart_of}
use Rattle.sos_interpreter.proofs.Worlds.{remembering_or, entered_kept, entered_plain}
use Rattle.sos_interpreter.proofs.world.LiveWorld.enter.Goals as goal

pub keep-requires-clause-or : goal.keep-requires-clause-or
keep-requires-clause-or c =
    subst (λ (t : Tree). IsSomeAnd (parent_of t c.args.state) (λ p. comp_of t p ≡ Or))
    (sym c.shape-then-is_remembered.ensures.shape)
    (remembering_or (chart_of c.args.chart.now) c.args.state (sym c.is_remembered.ensures ∙ c.if-is_remembered.true))

pub returns-then-is_remembered-clause-entered : goal.returns-then-is_remembered-clause-entered
unfolding keep_in
returns-then-is_remembered-clause-entered c =
    let chart = chart_of c.args.chart.now in
    let marks =
    c.keep.ensures.kept
    ∙ ap (λ (t : Tree). with_last t c.args.state c.mark.new.self) c.shape-then-is_remembered.ensures.shape
    ∙ ap (λ (m : Configuration). with_last chart.tree c.args.state m) c.mark.ensures.marked in
    ap (λ (m : Configuration).
    record { marks = m; vals = c.self.inside.vals; outputs = c.self.inside.outputs.items; used = c.self.inside.used })
    marks
    ∙ ap (λ (w : World). keep_in chart.tree c.args.state (set_mark c.args.state true w)) c.self.view_is
    ∙ sym (entered_kept chart c.args.state c.args.self.now (sym c.is_remembered.ensures ∙ c.if-is_remembered.true))

pub returns-else-is_remembered-clause-entered : goal.returns-else-is_remembered-clause-entered
returns-else-is_remembered-clause-entered c =
    let chart = chart_of c.args.chart.now in
    ap (λ (m : Configuration).
    record { marks = m; vals = c.self.inside.vals; outputs = c.self.inside.outputs.items; used = c.self.inside.used })
    c.mark.ensures.marked
    ∙ ap (λ (w : World). set_mark c.args.state true w) c.self.view_is
    ∙ sym (entered_plain chart c.args.state c.args.self.now (sym c.is_remembered.ensures ∙ c.if-is_remembered.false))
