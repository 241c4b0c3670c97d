-- Tests of an `if`: what counts of their value is whether it is true.
use Rattle.std.specs.Prelude.{ℤ, pos, negsuc, ◌==◌, Bool, true, false, ◌&&◌, Option, Some, None, if◌then◌else◌}
use Rattle.c_subset.specs.declared.trees.Comparison.{Comparison}
use Rattle.c_subset.specs.declared.trees.Comparison.TheVariants.{IsEqual, IsUnequal, IsBelow, IsAtMost, IsAbove}
use Rattle.c_subset.specs.declared.trees.Comparison.TheVariants.{IsAtLeast}
use Rattle.c_subset.specs.Trees.{CExpr, Const, Bang, Compare, Both, Either}

-- ---- constants

-- whether a number is true, of 0 and 1, which are so in each type
abbrev pub truth_of_number : ℤ → Option Bool
truth_of_number (pos n) = if n == 0 then Some false else if n == 1 then Some true else None
truth_of_number (negsuc n) = None

-- whether a test is true, where it is one of these constants
abbrev pub truth_of : CExpr → Option Bool
truth_of (Const t z) = truth_of_number z
truth_of other = None

-- ---- the other way round

-- the comparison that holds where that one doesn't
abbrev pub opposite : Comparison → Comparison
opposite IsEqual = IsUnequal
opposite IsUnequal = IsEqual
opposite IsBelow = IsAtLeast
opposite IsAtMost = IsAbove
opposite IsAbove = IsAtMost
opposite IsAtLeast = IsBelow

-- it is !e or a comparison
abbrev pub is_simple : CExpr → Bool
is_simple (Bang e) = true
is_simple (Compare op a b) = true
is_simple other = false

-- the test that is true where that one isn't, where it is a simple one; else !e
abbrev pub flipped : CExpr → CExpr
flipped (Bang e) = e
flipped (Compare op a b) = Compare (opposite op) a b
flipped other = Bang other

-- the test that is true where that one isn't
abbrev pub negated : CExpr → CExpr
negated (Both a b) =
    if is_simple a && is_simple b then Either (flipped a) (flipped b) else Bang (Both a b)
negated (Either a b) =
    if is_simple a && is_simple b then Both (flipped a) (flipped b) else Bang (Either a b)
negated other = flipped other
