use Rattle.std.proofs.Common.{◌==◌, ◌≡◌, ◌∙◌, arith, false, map, subst}
use Rattle.std.proofs.lemmas.Bool.Decides.{nat_tests}
use Rattle.std.proofs.lemmas.List.{nil_from_length}
use Rattle.checked_chart.specs.Views.{block_seen, list_seen}
use Rattle.range_blocks.specs.Ends.{ran_ends, rules_in}
use Rattle.range_worlds.specs.Leads.{Among, Leads, now_at}
use Rattle.range_moves.proofs.EnterLemmas.{enter_leads, leaf_entered, or_entered, and_entered, no_more_entered}
use Rattle.range_moves.proofs.EnterLemmas.{next_entered, below_entered, no_child_entered, child_entered}
use Rattle.range_moves.proofs.EnterLemmas.{defaults_lead, none_returned, first_returned, default_leads}
use Rattle.range_moves.proofs.EnterLemmas.{next_fires}
use Rattle.range_moves.proofs.entries.+entering.Goals as goal

pub enter-returns : goal.enter-returns
enter-returns t c =
    enter_leads c.args.setting.now c.args.state c.args.target (block_seen c.block-action.result.now) c.args.now _ _ _ _
    _ _ _ c.in_ok-ran.ran c.block-action.ensures.block c.in_ok-parts.ensures c.in_ok-active.ensures
    c.in_ok-ran.ensures c.in_ok-inner.ensures c.in_ok-early.ensures c.in_ok-all.ensures

pub enter_inside-returns-in-Leaf : goal.enter_inside-returns-in-Leaf
enter_inside-returns-in-Leaf t c =
    leaf_entered c.args.setting.now c.args.state c.args.target c.args.now _ c.in-Leaf.ensures

pub enter_inside-returns-in_ok-ys-in-Or : goal.enter_inside-returns-in_ok-ys-in-Or
enter_inside-returns-in_ok-ys-in-Or t c =
    or_entered c.args.setting.now c.args.state c.args.target c.args.now _ _ c.in-Or.ensures c.in_ok-ys-in-Or.ensures

pub enter_inside-returns-in_ok-ys-in-And : goal.enter_inside-returns-in_ok-ys-in-And
enter_inside-returns-in_ok-ys-in-And t c =
    and_entered c.args.setting.now c.args.state c.args.target c.args.now _ _ c.deref.result.now c.in-And.ensures
    (c.deref.ensures.value ∙ c.in_ok-regions-in-And.ensures) c.in_ok-ys-in-And.ensures

pub enter_each-returns-in-None : goal.enter_each-returns-in-None
enter_each-returns-in-None t c =
    no_more_entered c.args.setting.now c.args.states.now c.args.target c.args.now _
    (nil_from_length c.args.states.now c.in-None.ensures.cases)

pub enter_each-returns-in_ok-all-in-Some : goal.enter_each-returns-in_ok-all-in-Some
enter_each-returns-in_ok-all-in-Some t c =
    next_entered c.args.setting.now c.args.states.now c.in-Some.rest.now c.in-Some.first.now c.args.target
    c.in_ok-inner-in-Some.inner c.args.now _ _ _ c.in-Some.ensures.cases.0 c.in_ok-inner-in-Some.ensures
    c.in_ok-ys-in-Some.ensures c.in_ok-all-in-Some.ensures

pub enter_toward-returns : goal.enter_toward-returns
enter_toward-returns t c =
    let apart : (c.args.state == c.args.target) ≡ false = grind (arith, nat_tests, c.if-state-target.false) in
    below_entered c.args.setting.now c.args.state c.args.target c.args.now _ _ apart c.in_ok-ys-2.ensures

pub enter_child-returns-in-None : goal.enter_child-returns-in-None
enter_child-returns-in-None t c =
    no_child_entered c.args.setting.now c.args.state c.args.target c.args.now _ c.in_ok-child.child
    c.in_ok-child.ensures c.in-None.is

pub enter_child-returns-in_ok-ys-in-Some : goal.enter_child-returns-in_ok-ys-in-Some
enter_child-returns-in_ok-ys-in-Some t c =
    child_entered c.args.setting.now c.args.state c.args.target c.in-Some.child c.args.now _ _ c.in_ok-child.child
    c.in_ok-child.ensures c.in-Some.is c.in_ok-ys-in-Some.ensures

pub defaults-returns : goal.defaults-returns
defaults-returns t c =
    defaults_lead c.args.setting.now c.args.state c.args.now _ _ _ (c.deref.ensures.value ∙ c.in_ok-states.ensures)
    c.in_ok-ys.ensures

pub return_first-returns-in_ok-ys-in-None : goal.return_first-returns-in_ok-ys-in-None
return_first-returns-in_ok-ys-in-None t c =
    none_returned c.args.setting.now c.args.state c.args.now c.args.states.now _ _
    (nil_from_length c.args.states.now c.in-None.ensures.cases) c.in_ok-ys-in-None.ensures

pub return_first-returns-in_ok-all-in-Some : goal.return_first-returns-in_ok-all-in-Some
return_first-returns-in_ok-all-in-Some t c =
    first_returned c.args.setting.now c.args.state c.args.now c.args.states.now c.in-Some.rest.now c.in-Some.first.now _
    _ _ _ _ _ c.in-Some.ensures.cases.0 c.in_ok-parts-in-Some.ensures c.in_ok-back-in-Some.ensures
    c.in_ok-others-in-Some.ensures c.in_ok-all-in-Some.ensures

pub default_search-returns : goal.default_search-returns
default_search-returns t c =
    default_leads c.args.setting.now c.args.state c.args.now (list_seen c.list-list.result.now) _ _ _ _ _
    c.in_ok-found.found c.list-list.ensures.list c.in_ok-found.ensures c.in_ok-inner.ensures c.in_ok-none.ensures
    c.in_ok-still.ensures c.in_ok-all.ensures

pub enter_fires-returns-in_ok-all-in-Some : goal.enter_fires-returns-in_ok-all-in-Some
enter_fires-returns-in_ok-all-in-Some t c =
    next_fires c.args.setting.now c.args.fires.items _ c.in-Some.firing c.args.state c.args.now _ _ _ _
    c.in_ok-ran-in-Some.ran c.in-Some.ensures.items
    (subst (λ z. Leads c.args.setting.now (Among c.args.setting.now c.in-Some.firing.worlds.items)
    (λ b n depth. (rules_in c.args.setting.now b n).play c.args.state (map (λ a. block_seen a.now) z)
    (now_at c.args.now depth)) (ran_ends c.args.setting.now c.in_ok-ran-in-Some.ran)) c.deref.ensures.value
    c.in_ok-ran-in-Some.ensures) c.in_ok-inner-in-Some.ensures c.in_ok-own-in-Some.ensures
    c.in_ok-others-in-Some.ensures c.in_ok-all-in-Some.ensures
