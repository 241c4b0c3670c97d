use Rattle.std.proofs.Common.{◌+◌, drop, sym, ap, ◌∙◌, subst, arith}
use Rattle.c_subset.specs.Lines.{line_of, lines_in}
use Rattle.c_bare.specs.Scanning.{lines_need}
use Rattle.c_bare.proofs.Loops.{to-come, decides, passes, none-left}
use Rattle.c_bare.proofs.Lines.{IsWithin, within-after, need-first, need-none}
use Rattle.c_bare.proofs.needs.lines_need.Goals as goal

pub returns-then-line_needs : goal.returns-then-line_needs
returns-then-line_needs c =
    decides _ _ _ _
    (to-come (λ ys. lines_need c.args.flags.now c.args.of c.args.local (lines_in ys) c.loop-line.since)
    c.args.lines.now c.loop-line.line-index c.line-item.result (omega arith) c.line-item.is
    ∙ need-first c.args.flags.now c.args.of c.args.local (line_of c.line-item.result) _ c.loop-line.since)
    (sym c.line_needs.ensures ∙ c.if-line_needs.true) c.loop-line.invariant.same

pub loop-line-preserved : goal.loop-line-preserved
loop-line-preserved c = record {
  same = ap
      (λ o. lines_need c.args.flags.now c.args.of c.args.local
      (lines_in (drop (c.loop-line.line-index + 1) c.args.lines.now)) o) c.since_after-since.ensures
      ∙ passes _ _ _ _
      (to-come (λ ys. lines_need c.args.flags.now c.args.of c.args.local (lines_in ys) c.loop-line.since)
      c.args.lines.now c.loop-line.line-index c.line-item.result (omega arith) c.line-item.is
      ∙ need-first c.args.flags.now c.args.of c.args.local (line_of c.line-item.result) _ c.loop-line.since)
      (sym c.line_needs.ensures ∙ c.if-line_needs.false) c.loop-line.invariant.same;
  few = subst (λ o. IsWithin o (c.loop-line.line-index + 1)) (sym c.since_after-since.ensures)
      (within-after c.args.of c.args.local (line_of c.line-item.result) c.loop-line.since c.loop-line.line-index
      c.loop-line.invariant.few);
}

pub returns : goal.returns
returns c =
    sym (need-none c.args.flags.now c.args.of c.args.local c.loop-line.since)
    ∙ none-left (λ ys. lines_need c.args.flags.now c.args.of c.args.local (lines_in ys) c.loop-line.since)
    c.args.lines.now c.loop-line.line-index _ (omega arith) c.loop-line.invariant.same
