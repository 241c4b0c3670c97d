use Rattle.std.proofs.Common.{◌≡◌, ◌∙◌, List, sym, subst, map-id}
use Rattle.std.proofs.lemmas.Iterator.Adapters.{YieldsList-from_vec}
use Rattle.std.proofs.lemmas.Iterator.Consumers.{YieldsList-end}
use Rattle.c_subset.specs.declared.trees.Function.{Function}
use Rattle.c_passes.specs.Passed.{looped_below}
use Rattle.c_passes.proofs.FunctionLemmas.{AreTurnedSoFar, none_turned, one_more_turned, all_looped}
use Rattle.c_passes.proofs.looping.looped.Goals as goal

pub loop-function-init : goal.loop-function-init
loop-function-init c = none_turned _ _ c.new-made.ensures.items

pub loop-function-preserved : goal.loop-function-preserved
loop-function-preserved c =
    one_more_turned _ _ _ _ _ _ _ c.loop-function.invariant (c.len-number.ensures ∙ c.loop-function.made.ok.0)
    c.in_ok-looped_function.ensures c.in_ok-push.ensures.items

pub returns : goal.returns
returns c =
    let end =
    YieldsList-end (YieldsList-from_vec {s = c.into_iter-function-iterator.result} c.args.functions.items (cc) (cc)) c.loop-function.yielded c.loop-function.function-iterator
    c.loop-function.yielded_by c.next.result c.next.new.self c.in-None.is c.next.ensures.steps in
    let all : c.loop-function.yielded ≡ c.args.functions.items = sym (map-id c.loop-function.yielded) ∙ end.0 in
    all_looped c.args.procs c.args.functions.items c.loop-function.made.items
    (subst (λ (taken : List Function). AreTurnedSoFar (looped_below c.args.procs) taken c.loop-function.made.items) all
    c.loop-function.invariant)
