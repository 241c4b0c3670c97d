use Rattle.std.proofs.Common.{◌∙◌, arith}
use Rattle.std.proofs.lemmas.List.{nil_from_length}
use Rattle.range_moves.proofs.ExitLemmas.{exit_leads, leaf_left, or_left, and_left, active_left, none_left, first_left}
use Rattle.range_moves.proofs.ExitLemmas.{no_more_left, last_left}
use Rattle.range_moves.proofs.exits.+leaving.Goals as goal

pub exit-returns : goal.exit-returns
exit-returns t c =
    exit_leads c.args.setting.now c.args.state c.args.now _ _ _ _ _ _ c.in_ok-parts.ensures c.in_ok-inner.ensures
    c.in_ok-left.ensures c.in_ok-all.ensures

pub exit_children-returns-in-Leaf : goal.exit_children-returns-in-Leaf
exit_children-returns-in-Leaf t c = leaf_left c.args.setting.now c.args.state c.args.now _ c.in-Leaf.ensures

pub exit_children-returns-in_ok-ys-in-Or : goal.exit_children-returns-in_ok-ys-in-Or
exit_children-returns-in_ok-ys-in-Or t c =
    or_left c.args.setting.now c.args.state c.args.now _ _ c.in-Or.ensures c.in_ok-ys-in-Or.ensures

pub exit_children-returns-in_ok-ys-in-And : goal.exit_children-returns-in_ok-ys-in-And
exit_children-returns-in_ok-ys-in-And t c =
    and_left c.args.setting.now c.args.state c.args.now _ _ _ c.in-And.ensures c.in_ok-regions-in-And.ensures
    c.in_ok-ys-in-And.ensures

pub exit_active-returns : goal.exit_active-returns
exit_active-returns t c =
    active_left c.args.setting.now c.args.state c.args.now _ _ _ (c.deref.ensures.value ∙ c.in_ok-inner.ensures)
    c.in_ok-ys.ensures

pub exit_first-returns-in-None : goal.exit_first-returns-in-None
exit_first-returns-in-None t c =
    none_left c.args.setting.now c.args.states.now c.args.now _
    (nil_from_length c.args.states.now c.in-None.ensures.cases)

pub exit_first-returns-in_ok-all-in-Some : goal.exit_first-returns-in_ok-all-in-Some
exit_first-returns-in_ok-all-in-Some t c =
    first_left c.args.setting.now c.args.states.now c.in-Some.rest.now c.in-Some.first.now c.args.now _ _ _ _ _ _
    c.in-Some.ensures.cases.0 c.in_ok-parts-in-Some.ensures c.in_ok-left-in-Some.ensures
    c.in_ok-others-in-Some.ensures c.in_ok-all-in-Some.ensures

pub exit_each-returns-in-None : goal.exit_each-returns-in-None
exit_each-returns-in-None t c =
    no_more_left c.args.setting.now c.args.states.items c.args.now _
    (nil_from_length c.args.states.items (omega (arith, c.in-None.ensures.cases, c.args.states.ok.0)))

pub exit_each-returns-in_ok-all-in-Some : goal.exit_each-returns-in_ok-all-in-Some
exit_each-returns-in_ok-all-in-Some t c =
    last_left c.args.setting.now c.args.states.items _ c.in-Some.last c.args.now _ _ _ c.in-Some.ensures.items
    c.in_ok-ys-in-Some.ensures c.in_ok-all-in-Some.ensures
