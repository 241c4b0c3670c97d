use Rattle.std.proofs.Common.{◌≡◌, drop, map}
use Rattle.std.specs.List.{list_any}
use Rattle.c_subset.specs.Lines.{expr_of}
use Rattle.c_file.specs.Uses.{is_wide_expr}
use Rattle.c_file.proofs.uses.any_wide.Given as goal

-- the expressions to come give what all give
abbrev pub invariant-loop-expr : goal.invariant-loop-expr
invariant-loop-expr l =
    list_any is_wide_expr (map expr_of (drop l.expr-index l.exprs)) ≡ list_any is_wide_expr (map expr_of l.exprs)
