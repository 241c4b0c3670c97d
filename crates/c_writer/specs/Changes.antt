-- The plans of instructions that change a state.
use Rattle.std.specs.Prelude.{ℕ}
use Rattle.active_config.specs.Tree.{parent_of}
use Rattle.c_subset.specs.declared.trees.CType.{CType}
use Rattle.c_subset.specs.declared.trees.CType.TheVariants.{Unsigned}
use Rattle.c_subset.specs.declared.trees.Width.TheVariants.{W16}
use Rattle.c_functions.specs.States.{or_parent}
use Rattle.c_functions.specs.Statements.{Block}
use Rattle.c_functions.specs.Statements as plan
use Rattle.c_functions.specs.Written.{takes_check, bare_check, set_block, unset_block}
use Rattle.c_functions.specs.Plans.{Shape}

-- the type of the numbers of children
abbrev pub child_type : CType
child_type = Unsigned W16

-- a state becomes active
abbrev pub set_plan : Shape → ℕ → Block
set_plan K s = set_block K.numbers s (or_parent K.tree (parent_of K.tree s))

-- a state becomes inactive
abbrev pub unset_plan : Shape → ℕ → Block
unset_plan K s = unset_block s (or_parent K.tree (parent_of K.tree s))

-- a state becomes active where its parent takes it
abbrev pub mark_plan : Shape → ℕ → Block → Block
mark_plan K s rest =
    plan.If (plan.Simple (takes_check K.tree K.numbers (parent_of K.tree s))) (set_plan K s) plan.End rest

-- a state becomes inactive where it is bare
abbrev pub clear_plan : Shape → ℕ → Block → Block
clear_plan K s rest = plan.If (plan.Simple (bare_check K.tree K.numbers s)) (unset_plan K s) plan.End rest
