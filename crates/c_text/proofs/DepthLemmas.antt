-- The depth of lines.
use Rattle.std.proofs.Common.{ℕ, ◌+◌, ◌≤◌, arith}
use Rattle.c_subset.specs.Lines.{Line, Set, Store, StoreAt, Call, Select, If, Else, While, Close, Return}
use Rattle.c_text.specs.Statements.{depth_after}

-- a line adds at most one
pub one_deeper : (d : ℕ) (x : Line) → depth_after d x ≤ d + 1
one_deeper d (Set t k e) = omega arith
one_deeper d (Store f e) = omega arith
one_deeper d (StoreAt a i e) = omega arith
one_deeper d (Call t k f args) = omega arith
one_deeper d (Select t k e cases args) = omega arith
one_deeper d (If e) = omega arith
one_deeper d Else = omega arith
one_deeper d (While e) = omega arith
one_deeper d Close = omega arith
one_deeper d (Return e) = omega arith
