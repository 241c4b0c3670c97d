use Rattle.std.proofs.Common.{◌≡◌, ◌<◌, ℕ, true, Some, slice_get}
use Rattle.c_subset.specs.declared.trees.Function as declared_function
use Rattle.c_subset.specs.Trees.{Function}
use Rattle.c_subset.specs.Lines.{IsFunction}
use Rattle.c_bare.specs.Bare.{is_needless}
use Rattle.c_bare.proofs.search.are_needless.Given as goal

-- each function so far is needless
abbrev pub invariant-loop-number : goal.invariant-loop-number
invariant-loop-number l = (k : ℕ) → k < l.number → (f : declared_function.Function) → slice_get l.functions k ≡ Some f
    → (g : Function) → IsFunction f g → is_needless l.flags k g ≡ true
