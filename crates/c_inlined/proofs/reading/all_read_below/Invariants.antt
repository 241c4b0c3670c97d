use Rattle.std.proofs.Common.{◌≡◌, drop}
use Rattle.c_subset.specs.Lines.{exprs_of}
use Rattle.c_inlined.specs.Inlined.{all_read_below}
use Rattle.c_inlined.proofs.reading.all_read_below.Given as goal

-- the expressions to come give what all give
abbrev pub invariant-loop-expr : goal.invariant-loop-expr
invariant-loop-expr l =
    all_read_below l.base (exprs_of (drop l.expr-index l.exprs)) ≡ all_read_below l.base (exprs_of l.exprs)
