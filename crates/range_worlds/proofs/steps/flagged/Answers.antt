use Rattle.actions.specs.Trees.{expr_of}
use Rattle.std.proofs.Common.{◌≡◌, Bool, false, sym, subst, rules}
use Rattle.range_worlds.specs.Steps.{Takes, IsPut, only}
use Rattle.range_spans.specs.declared.span.Span.{Span}
use Rattle.range_worlds.proofs.StepLemmas.{none_taken, flag_taken}
use Rattle.range_worlds.proofs.steps.flagged.Goals as goal

pub returns-then-not-may : goal.returns-then-not-may
returns-then-not-may c =
    let off : c.args.may ≡ false = search rules in
    subst (λ (m : Bool). Takes c.args.setting.now c.args.x.now c.args.datum (expr_of c.args.expr.now)
    (only c.args.truth m)
    c.args.outs.items c.args.outs.items) (sym off) (none_taken _ _ _ _ _ _)

pub returns : goal.returns
returns c =
    flag_taken _ _ _ _ _ _ _ _ _ _ c.in_ok-part.ensures
    (subst (λ (p : Span). IsPut c.args.setting.now c.in_ok-part.part c.args.datum p c.in_ok-next.next)
    c.point-value.ensures
    c.in_ok-next.ensures) c.in_ok-all.ensures
