-- Statements without what nobody needs: parts of an `if`, and what stands after it.
use Rattle.std.specs.Prelude.{Bool, true, false, ◌&&◌, Option, Some, None, map, if◌then◌else◌}
use Rattle.c_subset.specs.Trees.{CExpr, Both, Function, File}
use Rattle.c_subset.specs.Trees.{Block, End, Set, Store, StoreAt, Call, Select, If, While, Return}
use Rattle.c_trees.specs.Blocks.{is_end}
use Rattle.c_trees.specs.Sizes.{is_short}
use Rattle.c_pruned.specs.Tests.{truth_of, negated}
use Rattle.c_pruned.specs.Ends.{always_returns, then_on, followed_by}

-- ---- one `if`

-- if (e) { a }: where all of a is an `if` without a second part, one test does for both
abbrev pub only_if : CExpr → Block → Block → Block
only_if e (If f a b c) rest =
    if is_end b && is_end c then If (Both e f) a End rest else If e (If f a b c) End rest
only_if e other rest = If e other End rest

-- if (e) { a } else { b }, where neither part always returns: an empty first part goes
abbrev pub falling_if : CExpr → Block → Block → Block → Block
falling_if e a b rest =
    if is_end a then only_if (negated e) b rest
    else if is_end b then only_if e a rest
    else If e a b rest

-- a part that always returns comes first, and the other one stands after it
abbrev pub flat_if : CExpr → Block → Block → Block → Block
flat_if e a b rest =
    if always_returns a then only_if e a (then_on b rest)
    else if always_returns b then only_if (negated e) b (followed_by a rest)
    else falling_if e a b rest

-- both parts are the same: the part, once
abbrev pub are_same : Block → Block → Bool
are_same a b = is_end a && is_end b

-- a test that needn't be made: both parts are the same
abbrev pub tested_if : CExpr → Block → Block → Block → Block
tested_if e a b rest = if are_same a b then then_on a rest else flat_if e a b rest

-- the part that is taken, where that is known
abbrev pub decided_if : Option Bool → CExpr → Block → Block → Block → Block
decided_if (Some true) e a b rest = then_on a rest
decided_if (Some false) e a b rest = then_on b rest
decided_if None e a b rest = tested_if e a b rest

-- ---- statements

-- Statements without what nobody needs, from the innermost to the outermost
unfoldable pub pruned : Block → Block
pruned End = End
pruned (Set t i e rest) = Set t i e (pruned rest)
pruned (Store f e rest) = Store f e (pruned rest)
pruned (StoreAt a i e rest) = StoreAt a i e (pruned rest)
pruned (Call t i f args rest) = Call t i f args (pruned rest)
pruned (Select t i e cases args rest) = Select t i e cases args (pruned rest)
pruned (If e a b rest) = decided_if (truth_of e) e (pruned a) (pruned b) (pruned rest)
pruned (While e a rest) = While e (pruned a) (pruned rest)
pruned (Return e) = Return e

-- a function, if it isn't long
abbrev pub pruned_of : Function → Function
pruned_of f = record f { body = if is_short f.body then pruned f.body else f.body }

-- each function of a file
abbrev pub with_pruned : File → File
with_pruned file = record file { functions = map pruned_of file.functions }

-- an `if` whose parts and rest are pruned; other statements stay
abbrev pub simplified : Block → Block
simplified (If e a b rest) = decided_if (truth_of e) e a b rest
simplified other = other
