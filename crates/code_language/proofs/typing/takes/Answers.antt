use Rattle.std.proofs.Common.{ap, ◌∙◌}
use Rattle.flow_base.specs.Lists.{items_of}
use Rattle.actions.specs.Sorts.{scope_of, sort_of}
use Rattle.actions.specs.Trees.{expr_of}
use Rattle.actions.specs.declared.names.Var.{Var}
use Rattle.code_language.specs.Code.{code_of}
use Rattle.code_language.specs.WellFormed.{takes}
use Rattle.code_language.proofs.ListLemmas.{test_there}
use Rattle.code_language.proofs.typing.takes.Goals as goal

pub returns-in-Ok : goal.returns-in-Ok
returns-in-Ok c =
    test_there (λ (d : Var). takes d (sort_of (scope_of (code_of c.args.raw.now).names) (expr_of c.args.expr.now)))
    (items_of c.args.raw.now.vars) c.items.result.now c.args.datum c.in-Some.var.now _ c.items.ensures
    c.in-Some.ensures.lookup.3.0 c.in-Some.ensures.lookup.1
    (c.accepts.ensures ∙ ap (takes c.in-Some.var.now) c.in-Ok.ensures.sort)

pub returns-in-Err : goal.returns-in-Err
returns-in-Err c =
    test_there (λ (d : Var). takes d (sort_of (scope_of (code_of c.args.raw.now).names) (expr_of c.args.expr.now)))
    (items_of c.args.raw.now.vars) c.items.result.now c.args.datum c.in-Some.var.now _ c.items.ensures
    c.in-Some.ensures.lookup.3.0 c.in-Some.ensures.lookup.1
    (ap (takes c.in-Some.var.now) c.in-Err.ensures.sort)
