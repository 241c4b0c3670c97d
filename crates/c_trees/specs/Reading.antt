-- Lines as statements. They are read from the last to the first, with what is read so far of each block that is open.
use Rattle.std.specs.Prelude.{Bool, true, false, List, [], ◌∷◌, if◌then◌else◌}
use Rattle.c_subset.specs.Trees.{CExpr, Block}
use Rattle.c_subset.specs.Trees as c
use Rattle.c_subset.specs.Lines.{Line, Set, Store, StoreAt, Call, Select, If, Else, While, Close, Return}
use Rattle.c_trees.specs.declared.reading.Stack.{Stack}
use Rattle.c_trees.specs.declared.reading.Stack.TheVariants as stacks
use Rattle.c_trees.specs.Blocks.{block_of}

-- what is read of a block, and whether it is the first part of an `if` with a second one
pub record Open : Type 0 where
  pub block : Block
  pub has_else : Bool

-- the blocks that are open, the innermost first
abbrev pub opens_of : Stack → List Open
opens_of stacks.Empty = []
opens_of (stacks.Top' tree has_else p below) =
    record { block = block_of tree.value; has_else = has_else } ∷ opens_of below

-- a statement without parts before others
abbrev pub step : Line → Block → Block
step (Set t k e) rest = c.Set t k e rest
step (Store f e) rest = c.Store f e rest
step (StoreAt a i e) rest = c.StoreAt a i e rest
step (Call t k f args) rest = c.Call t k f args rest
step (Select t k e cases args) rest = c.Select t k e cases args rest
step (If e) rest = rest
step Else rest = rest
step (While e) rest = rest
step Close rest = rest
step (Return e) rest = c.Return e

-- before the innermost block
abbrev pub on_top : Line → List Open → List Open
on_top l [] = []
on_top l (top ∷ opens) = record { block = step l top.block; has_else = top.has_else } ∷ opens

-- an `if` with both parts before what comes after it
abbrev pub close_after : CExpr → Block → Block → List Open → List Open
close_after e first second [] = []
close_after e first second (rest ∷ opens) =
    record { block = c.If e first second rest.block; has_else = rest.has_else } ∷ opens

-- if (e) { .. } else { .. }
abbrev pub close_both : CExpr → Block → List Open → List Open
close_both e first [] = []
close_both e first (second ∷ opens) = close_after e first second.block opens

-- if (e) { .. }, with a second part or without one
abbrev pub close_if : CExpr → List Open → List Open
close_if e [] = []
close_if e (first ∷ opens) =
    if first.has_else then close_both e first.block opens else close_after e first.block c.End opens

-- a loop before what comes after it
abbrev pub close_loop : CExpr → Block → List Open → List Open
close_loop e first [] = []
close_loop e first (rest ∷ opens) =
    record { block = c.While e first rest.block; has_else = rest.has_else } ∷ opens

-- while (e) { .. }
abbrev pub close_while : CExpr → List Open → List Open
close_while e [] = []
close_while e (first ∷ opens) = close_loop e first.block opens

-- a line before those that were read
abbrev pub read_line : Line → List Open → List Open
read_line (Set t k e) opens = on_top (Set t k e) opens
read_line (Store f e) opens = on_top (Store f e) opens
read_line (StoreAt a i e) opens = on_top (StoreAt a i e) opens
read_line (Call t k f args) opens = on_top (Call t k f args) opens
read_line (Select t k e cases args) opens = on_top (Select t k e cases args) opens
read_line (If e) opens = close_if e opens
read_line Else opens = record { block = c.End; has_else = true } ∷ opens
read_line (While e) opens = close_while e opens
read_line Close opens = record { block = c.End; has_else = false } ∷ opens
read_line (Return e) opens = on_top (Return e) opens

-- Lines before those that were read
unfoldable pub read_lines : List Line → List Open → List Open
read_lines [] opens = opens
read_lines (l ∷ ls) opens = read_line l (read_lines ls opens)

-- what is read of the innermost block
abbrev pub innermost : List Open → Block
innermost [] = c.End
innermost (top ∷ opens) = top.block

-- lines as statements
abbrev pub statements_of : List Line → Block
statements_of ls = innermost (read_lines ls (record { block = c.End; has_else = false } ∷ []))
