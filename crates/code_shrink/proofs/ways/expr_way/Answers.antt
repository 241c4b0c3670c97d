use Rattle.actions.specs.Trees.{expr_of}
use Rattle.actions.specs.Values.{scope_at}
use Rattle.code_shrink.proofs.SlideLemmas.{typed_sort}
use Rattle.code_shrink.proofs.ways.expr_way.Goals as goal

-- the test has a sort
pub truth_of_constant-requires : goal.truth_of_constant-requires
truth_of_constant-requires c =
    typed_sort (scope_at c.args.vals.now c.args.marks.now) c.args.over (expr_of c.args.expr.now) c.requires
