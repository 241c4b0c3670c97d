-- The trees of the code as contracts see them.
use Rattle.std.specs.Prelude.{Bool, true, false}
use Rattle.flow_base.specs.Lists.{items_of}
use Rattle.c_subset.specs.Lines.{expr_of, exprs_of}
use Rattle.c_subset.specs.Trees.{Block}
use Rattle.c_subset.specs.Trees as c
use Rattle.c_trees.specs.declared.trees.Tree.{Tree}
use Rattle.c_trees.specs.declared.trees.Tree.TheVariants as trees

-- statements of the code
abbrev pub block_of : Tree → Block
block_of trees.End = c.End
block_of (trees.Set' t k e p rest) = c.Set t k (expr_of e) (block_of rest)
block_of (trees.Store' f e p rest) = c.Store f (expr_of e) (block_of rest)
block_of (trees.StoreAt' a i e p rest) = c.StoreAt a (expr_of i) (expr_of e) (block_of rest)
block_of (trees.Call' t k f args p rest) = c.Call t k f (exprs_of (items_of args)) (block_of rest)
block_of (trees.Select' t k e cases args p rest) =
    c.Select t k (expr_of e) (items_of cases) (exprs_of (items_of args)) (block_of rest)
block_of (trees.If' e p a q b r rest) = c.If (expr_of e) (block_of a) (block_of b) (block_of rest)
block_of (trees.While' e p a q rest) = c.While (expr_of e) (block_of a) (block_of rest)
block_of (trees.Return e) = c.Return (expr_of e)

-- no statements
abbrev pub is_end : Block → Bool
is_end c.End = true
is_end (c.Set t i e rest) = false
is_end (c.Store f e rest) = false
is_end (c.StoreAt a i e rest) = false
is_end (c.Call t i f args rest) = false
is_end (c.Select t i e cases args rest) = false
is_end (c.If e a b rest) = false
is_end (c.While e a rest) = false
is_end (c.Return e) = false
