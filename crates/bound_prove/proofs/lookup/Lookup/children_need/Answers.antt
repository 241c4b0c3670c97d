use Rattle.bound_prove.proofs.Evaluations.{nothing_looked}
use Rattle.bound_prove.proofs.Pieces.{children_at, children_ok}
use Rattle.bound_prove.proofs.lookup.Lookup.children_need.Goals as goal

pub returns-in-Leaf : goal.returns-in-Leaf
returns-in-Leaf c =
    children_at c.args.self.now _ _ c.args.part c.args.s _ _ _ c.in-Leaf.ensures
    (nothing_looked c.args.self.now _ _ _ _ c.nothing_needed.ensures (λ m. tt))

pub returns-in-Or : goal.returns-in-Or
returns-in-Or c =
    children_ok c.args.self.now _ _ c.args.part c.args.s _ _ _ c.in-Or.ensures c.one_child.ensures

pub returns-in-And : goal.returns-in-And
returns-in-And c =
    children_ok c.args.self.now _ _ c.args.part c.args.s _ _ _ c.in-And.ensures c.all_children.ensures
