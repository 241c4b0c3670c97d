-- How statements end, and statements one after another.
use Rattle.std.specs.Prelude.{Bool, true, false, ◌&&◌, ◌||◌, if◌then◌else◌}
use Rattle.c_subset.specs.Trees.{Block, End, Set, Store, StoreAt, Call, Select, If, While, Return}

-- Whether statements end by `return`, if they end
unfoldable pub always_returns : Block → Bool
always_returns End = false
always_returns (Set t i e rest) = always_returns rest
always_returns (Store f e rest) = always_returns rest
always_returns (StoreAt a i e rest) = always_returns rest
always_returns (Call t i f args rest) = always_returns rest
always_returns (Select t i e cases args rest) = always_returns rest
always_returns (If e a b rest) = (always_returns a && always_returns b) || always_returns rest
always_returns (While e a rest) = always_returns rest
always_returns (Return e) = true

-- Statements, and others after them
unfoldable pub followed_by : Block → Block → Block
followed_by End rest = rest
followed_by (Set t i e a) rest = Set t i e (followed_by a rest)
followed_by (Store f e a) rest = Store f e (followed_by a rest)
followed_by (StoreAt r i e a) rest = StoreAt r i e (followed_by a rest)
followed_by (Call t i f args a) rest = Call t i f args (followed_by a rest)
followed_by (Select t i e cases args a) rest = Select t i e cases args (followed_by a rest)
followed_by (If e x y a) rest = If e x y (followed_by a rest)
followed_by (While e x a) rest = While e x (followed_by a rest)
followed_by (Return e) rest = Return e

-- statements, and others after them where that can be reached
abbrev pub then_on : Block → Block → Block
then_on a rest = if always_returns a then a else followed_by a rest
