-- Pieces of the functions of a file that have no name there.
use Rattle.std.specs.Prelude.{ℕ, pos}
use Rattle.c_subset.specs.Helpers.{is_low}
use Rattle.c_subset.specs.Trees.{CExpr, Block}
use Rattle.c_subset.specs.Trees as c
use Rattle.c_subset.specs.declared.trees.Arithmetic.TheVariants.{Less}
use Rattle.c_subset.specs.declared.trees.CType.{CType}
use Rattle.c_subset.specs.declared.trees.Comparison.{Comparison}
use Rattle.c_subset.specs.declared.trees.Comparison.TheVariants.{IsEqual, IsUnequal, IsBelow}
use Rattle.c_subset.specs.declared.trees.Division.TheVariants.{Quotient}
use Rattle.c_functions.specs.Layout.{on_c, bare_c}
use Rattle.c_functions.specs.Plans.{Shape, layout, word, number}
use Rattle.c_writer.specs.declared.helpers.Home.{Home}
use Rattle.c_writer.specs.declared.helpers.Home.TheVariants.{On, Bare}

-- what is told of a state
abbrev pub test_at : Shape → Home → ℕ → CExpr
test_at K On = on_c K.tree (layout K) K.numbers
test_at K Bare = bare_c K.tree (layout K) K.numbers

-- if (x0 == s) return test;
abbrev pub home_case : Shape → Home → ℕ → Block → Block
home_case K home s rest =
    c.If (c.Compare IsEqual (c.Local word 0) (number s)) (c.Return (test_at K home s)) c.End rest

-- <
abbrev pub below : Comparison
below = IsBelow

-- (a < 0) != (b < 0)
abbrev pub signs_differ : CExpr → CExpr → CExpr → CExpr
signs_differ a b nothing = c.Compare IsUnequal (c.Compare IsBelow a nothing) (c.Compare IsBelow b nothing)

-- the floor of the quotient of the parameters of a type
abbrev pub floor : CType → CExpr
floor t =
    c.Choose t (is_low (c.Local t 0) (c.Local t 1) (c.Const t (pos 0)))
    (c.Calc Less (c.Divide Quotient (c.Local t 0) (c.Local t 1)) (c.Const t (pos 1)))
    (c.Divide Quotient (c.Local t 0) (c.Local t 1))
