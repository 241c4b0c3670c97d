-- Statements with other numbers for their locals, a line at a time.
use Rattle.std.specs.Prelude.{ℕ, ◌+◌}
use Rattle.c_subset.specs.Lines.{Line, Set, Store, StoreAt, Call, Select, If, Else, While, Close, Return}
use Rattle.c_placing.specs.Placing.{placed_expr, placed_exprs}

-- a line whose locals have numbers from a base on
abbrev pub placed_line : ℕ → Line → Line
placed_line n (Set t i e) = Set t (n + i) (placed_expr n e)
placed_line n (Store f e) = Store f (placed_expr n e)
placed_line n (StoreAt a i e) = StoreAt a (placed_expr n i) (placed_expr n e)
placed_line n (Call t i f args) = Call t (n + i) f (placed_exprs n args)
placed_line n (Select t i e cases args) = Select t (n + i) (placed_expr n e) cases (placed_exprs n args)
placed_line n (If e) = If (placed_expr n e)
placed_line n Else = Else
placed_line n (While e) = While (placed_expr n e)
placed_line n Close = Close
placed_line n (Return e) = Return (placed_expr n e)
