use Rattle.std.proofs.Common.{◌≡◌, ◌∙◌, List, sym, subst, map-id}
use Rattle.std.proofs.lemmas.Iterator.Adapters.{YieldsList-from_vec}
use Rattle.std.proofs.lemmas.Iterator.Consumers.{YieldsList-end}
use Rattle.c_subset.specs.declared.trees.Function.{Function}
use Rattle.c_decided.specs.Views.{plan_of}
use Rattle.c_decided.proofs.Whole.{AreMadeFrom, none_made, one_more_made, functions_made}
use Rattle.c_decided.proofs.file.decided_functions.Goals as goal

pub loop-function-init : goal.loop-function-init
loop-function-init c = none_made (plan_of c.args.plan.now) _ c.new-made.ensures.items

pub loop-function-preserved : goal.loop-function-preserved
loop-function-preserved c =
    one_more_made (plan_of c.args.plan.now) c.in-Ok.number c.loop-function.yielded c.loop-function.made.items
    c.push.new.self.items c.in-Some.function c.in_ok-decided_function.field-0 c.loop-function.invariant
    (c.in-Ok.ensures.1 ∙ c.len.ensures ∙ c.loop-function.made.ok.0) c.in_ok-decided_function.ensures
    c.in_ok-push.ensures.items

pub returns : goal.returns
returns c =
    let end =
    YieldsList-end (YieldsList-from_vec c.args.functions.items (cc) (cc)) c.loop-function.yielded _
    c.loop-function.yielded_by _ c.next.new.self c.in-None.is c.next.ensures.steps in
    let all : c.loop-function.yielded ≡ c.args.functions.items = sym (map-id c.loop-function.yielded) ∙ end.0 in
    λ gs are. functions_made (plan_of c.args.plan.now) c.args.functions.items c.loop-function.made.items gs
    (subst (λ (taken : List Function). AreMadeFrom (plan_of c.args.plan.now) 0 taken c.loop-function.made.items) all
    c.loop-function.invariant) are
