use Rattle.std.proofs.Common.{◌∙◌, refl}
use Rattle.std.proofs.lemmas.List.{nil_from_length}
use Rattle.checked_chart.specs.Views.{block_seen, list_seen}
use Rattle.range_check.specs.declared.processing.Processed.{Processed}
use Rattle.range_check.proofs.ProcessLemmas.{process_leads, inside_leads, leaf_processed, or_processed, and_processed}
use Rattle.range_check.proofs.ProcessLemmas.{none_processed, first_processed, no_more_processed, next_processed}
use Rattle.range_check.proofs.processing.+processing.Goals as goal

pub process-returns : goal.process-returns
process-returns t c =
    let own : Processed = record { stay = c.in_ok-found.found.stop; outs = c.in_ok-outs.outs } in
    process_leads c.args.setting.now c.args.state c.args.now (list_seen c.list-list.result.now) _ _
    c.in_ok-found.found own c.in_ok-inner.inner c.in_ok-all.all c.list-list.ensures.list c.in_ok-found.ensures
    c.in_ok-outs.ensures refl c.in_ok-left.ensures c.in_ok-inner.ensures c.in_ok-all.ensures.first
    c.in_ok-all.ensures.second

pub go_on_inside-returns : goal.go_on_inside-returns
go_on_inside-returns t c =
    inside_leads c.args.setting.now c.args.state c.args.now (block_seen c.block-action.result.now)
    (list_seen c.list-list.result.now) _ _ _ _ _ c.in_ok-ran.ran c.in_ok-found.found c.stays-kept.result
    c.in_ok-inner.inner c.in_ok-all.all c.block-action.ensures.block c.list-list.ensures.list c.in_ok-ran.ensures
    c.in_ok-found.ensures c.in_ok-taken.ensures c.in_ok-left.ensures c.in_ok-inner.ensures c.in_ok-early.ensures
    c.in_ok-own.ensures c.stays-kept.ensures c.in_ok-all.ensures.first c.in_ok-all.ensures.second

pub process_children-returns-in-Leaf : goal.process_children-returns-in-Leaf
process_children-returns-in-Leaf t c =
    leaf_processed c.args.setting.now c.args.state c.args.now _ c.stays.result c.in-Leaf.ensures c.stays.ensures

pub process_children-returns-in_ok-all-in-Or : goal.process_children-returns-in_ok-all-in-Or
process_children-returns-in_ok-all-in-Or t c =
    or_processed c.args.setting.now c.args.state c.args.now _ c.in_ok-all-in-Or.all _ c.in-Or.ensures
    (c.deref.ensures.value ∙ c.in_ok-inner-in-Or.ensures) c.in_ok-all-in-Or.ensures

pub process_children-returns-in_ok-all-in-And : goal.process_children-returns-in_ok-all-in-And
process_children-returns-in_ok-all-in-And t c =
    and_processed c.args.setting.now c.args.state c.args.now _ c.in_ok-all-in-And.all _ c.in-And.ensures
    (c.deref-in-And.ensures.value ∙ c.in_ok-regions-in-And.ensures) c.in_ok-all-in-And.ensures

pub process_first-returns-in-None : goal.process_first-returns-in-None
process_first-returns-in-None t c =
    none_processed c.args.setting.now c.args.state c.args.states.now c.args.now _ c.stays.result
    (nil_from_length c.args.states.now c.in-None.ensures.cases) c.stays.ensures

pub process_first-returns-in_ok-all-in-Some : goal.process_first-returns-in_ok-all-in-Some
process_first-returns-in_ok-all-in-Some t c =
    first_processed c.args.setting.now c.args.state c.args.states.now c.in-Some.rest.now c.in-Some.first.now c.args.now
    _ _ _ c.in_ok-inner-in-Some.inner c.in_ok-own-in-Some.own c.in_ok-others-in-Some.others c.in_ok-all-in-Some.all
    c.in-Some.ensures.cases.0 c.in_ok-parts-in-Some.ensures c.in_ok-inner-in-Some.ensures c.in_ok-own-in-Some.ensures
    c.in_ok-others-in-Some.ensures c.in_ok-all-in-Some.ensures.first c.in_ok-all-in-Some.ensures.second

pub process_each-returns-in-None : goal.process_each-returns-in-None
process_each-returns-in-None t c =
    no_more_processed c.args.setting.now c.args.states.now c.args.now _ c.stays.result
    (nil_from_length c.args.states.now c.in-None.ensures.cases) c.stays.ensures

pub process_each-returns-in_ok-outs-in-Some : goal.process_each-returns-in_ok-outs-in-Some
process_each-returns-in_ok-outs-in-Some t c =
    let all : Processed = record { stay = c.in_ok-others-in-Some.others.stay; outs = c.in_ok-outs-in-Some.outs } in
    next_processed c.args.setting.now c.args.states.now c.in-Some.rest.now c.in-Some.first.now c.args.now _ _ _ _
    c.in_ok-inner-in-Some.inner c.in_ok-others-in-Some.others all c.in-Some.ensures.cases.0
    c.in_ok-parts-in-Some.ensures c.in_ok-inner-in-Some.ensures c.in_ok-left-in-Some.ensures
    c.in_ok-others-in-Some.ensures refl c.in_ok-outs-in-Some.ensures
