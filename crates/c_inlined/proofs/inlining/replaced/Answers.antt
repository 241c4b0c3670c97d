use Rattle.std.proofs.Common.{◌≡◌, ◌∙◌, refl, sym, ap, length}
use Rattle.std.proofs.lemmas.Result.{IfOk-weaker}
use Rattle.flow_base.specs.Lists.{items_of}
use Rattle.c_subset.specs.Lines.{exprs_of, lines_in}
use Rattle.c_trees.specs.Blocks.{block_of}
use Rattle.c_inlined.proofs.ReplacingLemmas.{stays, found, there}
use Rattle.c_inlined.proofs.inlining.replaced.Goals as goal

pub returns-then-not-may_replace : goal.returns-then-not-may_replace
returns-then-not-may_replace c =
    let call = c.args.call in
    let caller = c.args.caller in
    IfOk-weaker c.stays.result _ _
    (λ made same. λ gs are a rest last. stays gs caller.number caller.result caller.base call.of call.local
    call.function (exprs_of (items_of call.args)) a (block_of c.args.rest.value) (block_of made.value) rest same)
    c.stays.ensures

pub with_body-requires-clause-same : goal.with_body-requires-clause-same
with_body-requires-clause-same c =
    ap length (sym c.items-args.ensures)
    ∙ c.if-not-may_replace.ensures.same refl c.index-functions-call.result
    (found c.args.functions.now c.args.call.function c.index-functions-call.result
    (c.if-not-may_replace.ensures.there refl) c.index-functions-call.is)

pub returns-in-Ok : goal.returns-in-Ok
returns-in-Ok c =
    IfOk-weaker c.with_body.result _ _
    (λ made makes. λ gs are a rest last.
    let h =
    there c.args.functions.now gs are c.args.call.function c.index-functions-call.result
    (found c.args.functions.now c.args.call.function c.index-functions-call.result
    (c.if-not-may_replace.ensures.there refl) c.index-functions-call.is) in
    makes gs h.0 a h.2 h.1 (c.in-Ok.ensures h.0.body (ap lines_in c.items.ensures ∙ h.2.lines)) rest last)
    c.with_body.ensures

pub returns-in-Err-Number : goal.returns-in-Err-Number
returns-in-Err-Number c =
    let call = c.args.call in
    let caller = c.args.caller in
    IfOk-weaker c.stays-in-Err-Number.result _ _
    (λ made same. λ gs are a rest last. stays gs caller.number caller.result caller.base call.of call.local
    call.function (exprs_of (items_of call.args)) a (block_of c.args.rest.value) (block_of made.value) rest same)
    c.stays-in-Err-Number.ensures
