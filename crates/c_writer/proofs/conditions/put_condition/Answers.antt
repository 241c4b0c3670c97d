use Rattle.std.proofs.Common.{◌≡◌, true, subst}
use Rattle.actions.specs.Trees.{expr_of}
use Rattle.code_language.specs.Code.{cond_of}
use Rattle.code_language.specs.WellFormed.{cond_typed}
use Rattle.c_shape.specs.FileShapes.{shape_seen}
use Rattle.c_writer.specs.Fine.{known_in}
use Rattle.c_writer.proofs.FineLemmas.{test_sorted}
use Rattle.c_writer.proofs.conditions.put_condition.Goals as goal

pub write_test-requires-clause-sorted : goal.write_test-requires-clause-sorted
write_test-requires-clause-sorted c =
    let K = shape_seen c.args.shape.now in
    (test_sorted K (expr_of c.in-Test.expr)
    (subst (λ y. cond_typed (known_in K) (cond_of y) ≡ true) c.in-Test.is c.requires.typed)).sorted

pub write_test-requires-clause-operators : goal.write_test-requires-clause-operators
write_test-requires-clause-operators c =
    let K = shape_seen c.args.shape.now in
    (test_sorted K (expr_of c.in-Test.expr)
    (subst (λ y. cond_typed (known_in K) (cond_of y) ≡ true) c.in-Test.is c.requires.typed)).operators
