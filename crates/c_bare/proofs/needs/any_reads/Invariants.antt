use Rattle.std.proofs.Common.{◌≡◌, drop}
use Rattle.c_subset.specs.Lines.{exprs_of}
use Rattle.c_bare.specs.Needs.{any_reads}
use Rattle.c_bare.proofs.needs.any_reads.Given as goal

-- the expressions to come give what all give
abbrev pub invariant-loop-expr : goal.invariant-loop-expr
invariant-loop-expr l =
    any_reads l.of l.local (exprs_of (drop l.expr-index l.exprs)) ≡ any_reads l.of l.local (exprs_of l.exprs)
