use Rattle.std.proofs.Common.{◌≡◌, length, IsTrue}
use Rattle.std.specs.List.{AllByRecursion}
use Rattle.flow_base.specs.Lists.{items_of}
use Rattle.actions.specs.Data.{is_mantissa_of}
use Rattle.library_tests.proofs.data.declare.Given as goal

abbrev pub invariant-loop-sort : goal.invariant-loop-sort
invariant-loop-sort l =
    AllByRecursion (λ v. IsTrue (is_mantissa_of v.sort v.init)) (items_of l.vars) × (length (items_of l.vars) ≡ l.sort-index)
