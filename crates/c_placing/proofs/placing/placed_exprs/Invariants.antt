use Rattle.std.proofs.Common.{◌≡◌, take}
use Rattle.flow_base.specs.Lists.{items_of}
use Rattle.c_subset.specs.Lines.{exprs_of}
use Rattle.c_placing.specs.Placing.{placed_exprs}
use Rattle.c_placing.proofs.placing.placed_exprs.Given as goal

-- the expressions so far are placed
abbrev pub invariant-loop-expr : goal.invariant-loop-expr
invariant-loop-expr l =
    exprs_of (items_of l.made) ≡ placed_exprs l.base (exprs_of (take l.expr-index l.exprs))
