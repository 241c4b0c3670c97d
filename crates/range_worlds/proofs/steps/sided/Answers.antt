use Rattle.std.proofs.Common.{◌≡◌, Bool, false, sym, subst, rules}
use Rattle.actions.specs.Trees.{expr_of}
use Rattle.range_worlds.specs.Steps.{Sides}
use Rattle.range_worlds.proofs.StepLemmas.{none_sided, part_sided}
use Rattle.range_worlds.proofs.steps.sided.Goals as goal

pub returns-then-not-may : goal.returns-then-not-may
returns-then-not-may c =
    let off : c.args.may ≡ false = search rules in
    subst (λ (m : Bool). Sides c.args.setting.now c.args.x.now (expr_of c.args.expr.now) c.args.truth m
    c.args.outs.items c.args.outs.items) (sym off) (none_sided _ _ _ _ _)

pub returns : goal.returns
returns c = part_sided _ _ _ _ _ _ _ _ c.in_ok-part.ensures c.in_ok-all.ensures
