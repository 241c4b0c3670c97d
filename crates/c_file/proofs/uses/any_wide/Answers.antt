use Rattle.std.proofs.Common.{sym, ◌∙◌, arith, map}
use Rattle.std.specs.List.{list_any}
use Rattle.c_subset.specs.Lines.{expr_of}
use Rattle.c_text.proofs.LoopLemmas.{to_come}
use Rattle.c_file.proofs.AskLemmas.{decides, passes, none_left}
use Rattle.c_file.specs.Uses.{is_wide_expr}
use Rattle.c_file.proofs.uses.any_wide.Goals as goal

pub returns-then-is_wide_expr : goal.returns-then-is_wide_expr
returns-then-is_wide_expr c =
    decides _ _ _ _
    (to_come (λ ys. list_any is_wide_expr (map expr_of ys)) c.args.exprs.now c.loop-expr.expr-index
    c.expr-item.result (omega arith) c.expr-item.is)
    (sym c.is_wide_expr.ensures ∙ c.if-is_wide_expr.true) c.loop-expr.invariant

pub loop-expr-preserved : goal.loop-expr-preserved
loop-expr-preserved c =
    passes _ _ _ _
    (to_come (λ ys. list_any is_wide_expr (map expr_of ys)) c.args.exprs.now c.loop-expr.expr-index
    c.expr-item.result (omega arith) c.expr-item.is)
    (sym c.is_wide_expr.ensures ∙ c.if-is_wide_expr.false) c.loop-expr.invariant

pub returns : goal.returns
returns c =
    none_left (λ ys. list_any is_wide_expr (map expr_of ys)) c.args.exprs.now c.loop-expr.expr-index _
    (omega arith) c.loop-expr.invariant
