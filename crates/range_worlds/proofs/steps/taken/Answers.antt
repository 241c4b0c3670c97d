use Rattle.std.proofs.Common.{sym, subst}
use Rattle.actions.specs.Trees.{expr_of}
use Rattle.range_spans.specs.declared.known.Known.{Known}
use Rattle.range_worlds.specs.Steps.{Takes}
use Rattle.range_worlds.proofs.StepLemmas.{truth_taken}
use Rattle.range_worlds.proofs.steps.taken.Goals as goal

pub returns-in_ok-all-in-Truth : goal.returns-in_ok-all-in-Truth
returns-in_ok-all-in-Truth c =
    subst (λ (k : Known). Takes c.args.setting.now c.args.x.now c.args.datum (expr_of c.args.expr.now) k
    c.args.outs.items c.in_ok-all-in-Truth.all.items) (sym c.in-Truth.is)
    (truth_taken _ _ _ _ _ _ _ _ _ c.in_ok-both-in-Truth.ensures c.in_ok-all-in-Truth.ensures)

pub returns-in_ok-all-in-Number : goal.returns-in_ok-all-in-Number
returns-in_ok-all-in-Number c =
    subst (λ (k : Known). Takes c.args.setting.now c.args.x.now c.args.datum (expr_of c.args.expr.now) k
    c.args.outs.items c.in_ok-all-in-Number.all.items) (sym c.in-Number.is) c.in_ok-all-in-Number.ensures
