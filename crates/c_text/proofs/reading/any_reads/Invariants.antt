use Rattle.std.proofs.Common.{◌≡◌, drop}
use Rattle.std.specs.List.{list_any}
use Rattle.c_subset.specs.Lines.{exprs_of}
use Rattle.c_text.specs.Reading.{reads}
use Rattle.c_text.proofs.reading.any_reads.Given as goal

-- the expressions to come give what all give
abbrev pub invariant-loop-expr : goal.invariant-loop-expr
invariant-loop-expr l =
    list_any (reads l.local) (exprs_of (drop l.expr-index l.exprs)) ≡ list_any (reads l.local) (exprs_of l.exprs)
