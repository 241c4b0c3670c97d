-- What is appended for plans, tests and instructions.
use Rattle.std.specs.Prelude.{◌≡◌, ◌++◌, List}
use Rattle.c_subset.specs.Trees.{CExpr, Block}
use Rattle.c_subset.specs.Trees as c
use Rattle.c_subset.specs.declared.trees.Line.{Line}
use Rattle.c_subset.specs.Lines.{lines_in, lines_of}
use Rattle.c_functions.specs.Statements.{Test}
use Rattle.c_functions.specs.Statements as plan
use Rattle.c_functions.specs.Plans.{Shape, if_c, plan_c}

-- what was appended is the C of the statements that a plan has before others
abbrev pub PlanAppends : Shape → List Line → List Line → (plan.Block → plan.Block) → Type 0
PlanAppends K old new before =
    (a : plan.Block) → lines_in new ++ lines_of (plan_c K a) ≡ lines_in old ++ lines_of (plan_c K (before a))

-- what was appended comes before an `if` of that expression, which tests what the plan tests
abbrev pub TestAppends : Shape → List Line → List Line → Test → CExpr → Type 0
TestAppends K old new test e =
    (x y rest : Block)
    → lines_in new ++ lines_of (c.If e x y rest) ≡ lines_in old ++ lines_of (if_c K test x y rest)
