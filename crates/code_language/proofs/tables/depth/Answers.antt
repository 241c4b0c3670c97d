use Rattle.std.proofs.Common.{◌≡◌, Some, None, sym, ◌∙◌, arith}
use Rattle.active_config.specs.Tree.{parent_of}
use Rattle.code_language.proofs.TableLemmas.{depth_step, depth_end, none_where}
use Rattle.code_language.proofs.tables.depth.Goals as goal

pub loop-parent-preserved : goal.loop-parent-preserved
loop-parent-preserved c =
    let t = c.args.shape.now in
    let e : parent_of t c.loop-parent.at ≡ Some c.in-Some.parent = sym c.parent.ensures.parent ∙ c.in-Some.is in
    let low = c.in-Some.ensures.before in
    let at = c.loop-parent.invariant.0 in
    let room = c.loop-parent.invariant.1 in
    let up = depth_step t c.loop-parent.at c.in-Some.parent c.loop-parent.depth c.requires.tree at e in
    (omega arith, omega arith, sym up ∙ c.loop-parent.invariant.2)

pub returns : goal.returns
returns c =
    let t = c.args.shape.now in
    let e : parent_of t c.loop-parent.at ≡ None = sym c.parent.ensures.parent ∙ none_where c.parent.result c.in_default.not-Some in
    omega (arith, depth_end t c.loop-parent.at e, c.loop-parent.invariant.2)
