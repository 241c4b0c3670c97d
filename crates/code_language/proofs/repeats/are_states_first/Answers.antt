use Rattle.std.proofs.Common.{◌+◌, map, drop, sym, ap, ◌∙◌}
use Rattle.code_language.specs.Acceptance.{named_of, state_named}
use Rattle.code_language.proofs.ListLemmas.{drop_at, drop_past}
use Rattle.code_language.proofs.RepeatLemmas.{all_new, all_new-first, name_again, name_first}
use Rattle.code_language.proofs.repeats.are_states_first.Goals as goal

pub loop-state-init : goal.loop-state-init
loop-state-init c =
    ap (λ keys. all_new (map named_of keys) (map state_named c.args.states.now)) c.requires
    ∙ all_new-first (map state_named c.args.states.now)

pub returns-then-not-branch : goal.returns-then-not-branch
returns-then-not-branch c =
    let xs = c.args.states.now in
    let i = c.loop-state.state-index in
    let x = c.state-item.result in
    let at = ap (map state_named) (drop_at xs i x c.loop-state-test.true c.state-item.is) in
    sym (sym c.loop-state.invariant
    ∙ name_again (map named_of c.loop-state.seen.keys) (map state_named (drop i xs)) (map state_named (drop (i + 1) xs))
    (state_named x) _ c.in_ok-is_first.ensures.first at c.if-not-branch.true)

pub loop-state-preserved : goal.loop-state-preserved
loop-state-preserved c =
    let xs = c.args.states.now in
    let i = c.loop-state.state-index in
    let x = c.state-item.result in
    let at = ap (map state_named) (drop_at xs i x c.loop-state-test.true c.state-item.is) in
    name_first (map named_of c.loop-state.seen.keys) (map named_of c.is_first.new.seen.keys) (map state_named (drop i xs))
    (map state_named (drop (i + 1) xs)) (state_named x) _ c.in_ok-is_first.ensures.first at c.if-not-branch.false
    (c.in_ok-is_first.ensures.seen c.if-not-branch.false)
    ∙ c.loop-state.invariant

pub returns : goal.returns
returns c =
    sym (ap (λ l. all_new (map named_of c.loop-state.seen.keys) (map state_named l))
    (drop_past c.args.states.now c.loop-state.state-index c.loop-state-test.false)) ∙ c.loop-state.invariant
