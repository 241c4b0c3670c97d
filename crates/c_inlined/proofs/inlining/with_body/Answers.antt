use Rattle.std.proofs.Common.{rules, ◌≡◌, ◌∙◌, sym, ap}
use Rattle.std.proofs.lemmas.Result.{IfOk-weaker}
use Rattle.flow_base.specs.Lists.{items_of}
use Rattle.c_subset.specs.Lines.{exprs_of}
use Rattle.c_trees.specs.Blocks.{block_of}
use Rattle.c_trees.specs.declared.trees.Tree.{Tree}
use Rattle.c_inlined.specs.Continued.{can_go_on}
use Rattle.c_inlined.proofs.Converting.{type-is}
use Rattle.c_inlined.proofs.ReplacingLemmas.{stays, opens, hands-on, as-many}
use Rattle.c_inlined.proofs.inlining.with_body.Goals as goal

pub returns-then-is_same-2 : goal.returns-then-is_same-2
returns-then-is_same-2 c =
    let call = c.args.call in
    let caller = c.args.caller in
    IfOk-weaker c.with_parameters.result _ _
    (λ made sets. λ gs g a is there body rest last. hands-on gs caller.number caller.result caller.base call.of
    call.local call.function g (exprs_of (items_of call.args)) a (block_of c.args.body.value) (block_of made.value)
    c.items.result.now c.requires.other there (as-many (items_of call.args) c.args.function.now g c.requires.same is)
    (c.items.ensures ∙ is.parameters)
    (sym is.result ∙ type-is c.args.function.now.result caller.result
    (sym c.is_same-then-is_same.ensures ∙ c.if-is_same-2.true))
    (type-is call.of caller.result (sym c.is_same.ensures ∙ c.if-is_same.true))
    (last c.if-call.true) body sets) c.with_parameters.ensures

pub returns-then-can_go_on : goal.returns-then-can_go_on
returns-then-can_go_on c =
    let call = c.args.call in
    let caller = c.args.caller in
    IfOk-weaker c.opened.result _ _
    (λ made opened. λ gs g a is there body rest last. opens gs caller.number caller.result caller.base call.of
    call.local call.function g (exprs_of (items_of call.args)) a (block_of c.args.rest.value)
    (block_of c.args.body.value) (block_of made.value) c.requires.other there
    (as-many (items_of call.args) c.args.function.now g c.requires.same is) body
    (ap (λ (tree : Tree). can_go_on (block_of tree)) (sym c.deref.ensures) ∙ sym c.can_go_on.ensures
    ∙ c.if-can_go_on.true) rest (opened g is body)) c.opened.ensures

pub returns : goal.returns
returns c =
    let call = c.args.call in
    let caller = c.args.caller in
    IfOk-weaker c.stays.result _ _
    (λ made same. λ gs g a is there body rest last. stays gs caller.number caller.result caller.base call.of
    call.local call.function (exprs_of (items_of call.args)) a (block_of c.args.rest.value) (block_of made.value) rest
    same) c.stays.ensures
