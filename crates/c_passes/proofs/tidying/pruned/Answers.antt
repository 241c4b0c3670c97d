use Rattle.std.proofs.Common.{◌≡◌, ◌∙◌, List, refl, sym, subst, map-id}
use Rattle.std.proofs.lemmas.Iterator.Adapters.{YieldsList-from_vec}
use Rattle.std.proofs.lemmas.Iterator.Consumers.{YieldsList-end}
use Rattle.c_subset.specs.declared.trees.Function.{Function}
use Rattle.c_pruned.specs.Pruned.{pruned_of}
use Rattle.c_passes.proofs.FunctionLemmas.{AreTurnedSoFar, none_turned, one_more_turned, all_mapped}
use Rattle.c_passes.proofs.tidying.pruned.Goals as goal

pub loop-function-init : goal.loop-function-init
loop-function-init c = none_turned (λ i g. pruned_of g) _ c.new-made.ensures.items

pub loop-function-preserved : goal.loop-function-preserved
loop-function-preserved c =
    one_more_turned (λ i g. pruned_of g) _ _ _ _ _ _ c.loop-function.invariant refl c.in_ok-pruned_function.ensures
    c.in_ok-push.ensures.items

pub returns : goal.returns
returns c =
    let end =
    YieldsList-end (YieldsList-from_vec {s = c.into_iter-function-iterator.result} c.args.functions.items (cc) (cc)) c.loop-function.yielded c.loop-function.function-iterator
    c.loop-function.yielded_by c.next.result c.next.new.self c.in-None.is c.next.ensures.steps in
    let all : c.loop-function.yielded ≡ c.args.functions.items = sym (map-id c.loop-function.yielded) ∙ end.0 in
    all_mapped pruned_of c.args.functions.items c.loop-function.made.items
    (subst (λ (taken : List Function). AreTurnedSoFar (λ i g. pruned_of g) taken c.loop-function.made.items) all
    c.loop-function.invariant)
