use Rattle.std.proofs.Common.{◌∙◌, ◌<◌, ℕ, List, [], ◌∷◌, ◌++◌, subst, sym, ap, append_assoc}
use Rattle.std.proofs.Common.{append-nil}
use Rattle.std.specs.List.{AllByRecursion}
use Rattle.flow_base.specs.Lists.{items_of}
use Rattle.active_config.specs.Tree.{state_count, children_from}
use Rattle.active_config.proofs.SiblingLemmas.{children_of-from}
use Rattle.checked_chart.proofs.Walks.{stands_first, stands_next, from_some, from_none, ahead_falls}
use Rattle.state_compile.proofs.children.children.Goals as goal

-- one more that is below n
below_more : (n x : ℕ) (xs : List ℕ) → AllByRecursion (λ y. y < n) xs → x < n → AllByRecursion (λ y. y < n) (xs ++ x ∷ [])
below_more n x [] a h = (h, tt)
below_more n x (y ∷ xs) a h = (a.0, below_more n x xs a.1 h)

pub loop-next-init : goal.loop-next-init
loop-next-init c =
    let t = c.args.shape.now in
    let s = c.args.state in
    let empty = c.of-list.ensures ∙ c.new.ensures.items in
    record {
      stands = stands_first t c.requires.tree s c.first_child-next.result c.first_child-next.ensures.child;
      same =
          ap (λ l. l ++ children_from t s c.first_child-next.result) empty
          ∙ ap (children_from t s) c.first_child-next.ensures.child ∙ sym (children_of-from t s);
      within = subst (λ l. AllByRecursion (λ y. y < state_count t) l) (sym empty) tt;
    }

pub loop-next-smaller : goal.loop-next-smaller
loop-next-smaller c =
    ahead_falls c.args.shape.now c.in-Some.child c.loop-next.next _ c.in-Some.is
    (c.loop-next.invariant.stands.child c.in-Some.child c.in-Some.is).within c.next_sibling-next.ensures.after

pub loop-next-preserved : goal.loop-next-preserved
loop-next-preserved c =
    let t = c.args.shape.now in
    let s = c.args.state in
    let x = c.in-Some.child in
    let inv = c.loop-next.invariant in
    let old = items_of c.loop-next.list in
    let step = c.in_ok-push.ensures.ok in
    let one = from_some t s x c.loop-next.next c.next_sibling-next.result c.in-Some.is inv.stands
    c.next_sibling-next.ensures.sibling in
    record {
      stands =
          stands_next t c.requires.tree s x c.loop-next.next _ c.in-Some.is inv.stands
          c.next_sibling-next.ensures.sibling;
      same =
          ap (λ l. l ++ children_from t s c.next_sibling-next.result) step
          ∙ append_assoc old (x ∷ []) (children_from t s c.next_sibling-next.result)
          ∙ ap (λ l. old ++ l) (sym one) ∙ inv.same;
      within =
          subst (λ l. AllByRecursion (λ y. y < state_count t) l) (sym step)
          (below_more (state_count t) x old inv.within (inv.stands.child x c.in-Some.is).within);
    }

pub returns-clause-children : goal.returns-clause-children
returns-clause-children c =
    let t = c.args.shape.now in
    let s = c.args.state in
    let old = items_of c.loop-next.list in
    sym (append-nil old) ∙ ap (λ l. old ++ l) (sym (from_none t s c.loop-next.next c.in_default.is))
    ∙ c.loop-next.invariant.same

pub next_sibling-next-requires : goal.next_sibling-next-requires
next_sibling-next-requires c = (c.loop-next.invariant.stands.child c.in-Some.child c.in-Some.is).within
