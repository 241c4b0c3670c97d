use Rattle.std.proofs.Common.{◌+◌, List, [], None, map, drop, sym, ap, ◌∙◌}
use Rattle.actions.specs.declared.names.EventDecl.{EventDecl}
use Rattle.actions.specs.declared.names.Var.{Var}
use Rattle.code_language.specs.Acceptance.{Named, named, named_of, names_of_both}
use Rattle.code_language.proofs.ListLemmas.{drop_at, drop_past}
use Rattle.code_language.proofs.RepeatLemmas.{all_new, free_new-first, name_again, name_first}
use Rattle.code_language.proofs.repeats.are_both_first.Goals as goal

-- the names of data and events, which stand in no state
abbrev left : List Var → List EventDecl → List Named
left vars events = map (named None) (names_of_both vars events)

pub loop-var-init : goal.loop-var-init
loop-var-init c =
    ap (λ keys. all_new (map named_of keys) (left c.args.vars.now c.args.events.now)) c.requires
    ∙ free_new-first (names_of_both c.args.vars.now c.args.events.now)

pub returns-then-not-branch : goal.returns-then-not-branch
returns-then-not-branch c =
    let xs = c.args.vars.now in
    let i = c.loop-var.var-index in
    let x = c.var-item.result in
    let at = ap (λ vars. left vars c.args.events.now) (drop_at xs i x c.loop-var-test.true c.var-item.is) in
    sym (sym c.loop-var.invariant
    ∙ name_again (map named_of c.loop-var.seen.keys) (left (drop i xs) c.args.events.now)
    (left (drop (i + 1) xs) c.args.events.now) (named None x.name) _ c.in_ok-is_first.ensures.first at
    c.if-not-branch.true)

pub loop-var-preserved : goal.loop-var-preserved
loop-var-preserved c =
    let xs = c.args.vars.now in
    let i = c.loop-var.var-index in
    let x = c.var-item.result in
    let at = ap (λ vars. left vars c.args.events.now) (drop_at xs i x c.loop-var-test.true c.var-item.is) in
    name_first (map named_of c.loop-var.seen.keys) (map named_of c.is_first.new.seen.keys)
    (left (drop i xs) c.args.events.now) (left (drop (i + 1) xs) c.args.events.now) (named None x.name) _
    c.in_ok-is_first.ensures.first at c.if-not-branch.false (c.in_ok-is_first.ensures.seen c.if-not-branch.false)
    ∙ c.loop-var.invariant

pub loop-event-init : goal.loop-event-init
loop-event-init c =
    sym (ap (λ vars. all_new (map named_of c.loop-var.seen.keys) (left vars c.args.events.now))
    (drop_past c.args.vars.now c.loop-var.var-index c.loop-var-test.false)) ∙ c.loop-var.invariant

pub returns-then-not-branch-2 : goal.returns-then-not-branch-2
returns-then-not-branch-2 c =
    let xs = c.args.events.now in
    let i = c.loop-event.event-index in
    let x = c.event-item.result in
    let at = ap (left []) (drop_at xs i x c.loop-event-test.true c.event-item.is) in
    sym (sym c.loop-event.invariant
    ∙ name_again (map named_of c.loop-event.seen.keys) (left [] (drop i xs)) (left [] (drop (i + 1) xs))
    (named None x.name) _ c.in_ok-is_first-2.ensures.first at c.if-not-branch-2.true)

pub loop-event-preserved : goal.loop-event-preserved
loop-event-preserved c =
    let xs = c.args.events.now in
    let i = c.loop-event.event-index in
    let x = c.event-item.result in
    let at = ap (left []) (drop_at xs i x c.loop-event-test.true c.event-item.is) in
    name_first (map named_of c.loop-event.seen.keys) (map named_of c.is_first-in-loop-event.new.seen.keys)
    (left [] (drop i xs)) (left [] (drop (i + 1) xs)) (named None x.name) _
    c.in_ok-is_first-2.ensures.first at c.if-not-branch-2.false
    (c.in_ok-is_first-2.ensures.seen c.if-not-branch-2.false)
    ∙ c.loop-event.invariant

pub returns : goal.returns
returns c =
    sym (ap (λ events. all_new (map named_of c.loop-event.seen.keys) (left [] events))
    (drop_past c.args.events.now c.loop-event.event-index c.loop-event-test.false)) ∙ c.loop-event.invariant
