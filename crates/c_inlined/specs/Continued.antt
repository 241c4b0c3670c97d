-- Statements that go on with others where they return.
use Rattle.std.specs.Prelude.{Bool, true, false, ◌&&◌, ◌||◌, if◌then◌else◌}
use Rattle.c_subset.specs.Trees.{CExpr}
use Rattle.c_subset.specs.Trees.{Block, End, Set, Store, StoreAt, Call, Select, If, While, Return}

-- Statements before others; nothing comes after a `return`
unfoldable pub before : Block → Block → Block
before End rest = rest
before (Set t i e a) rest = Set t i e (before a rest)
before (Store f e a) rest = Store f e (before a rest)
before (StoreAt r i e a) rest = StoreAt r i e (before a rest)
before (Call t i f args a) rest = Call t i f args (before a rest)
before (Select t i e cases args a) rest = Select t i e cases args (before a rest)
before (If e a b c) rest = If e a b (before c rest)
before (While e a b) rest = While e a (before b rest)
before (Return e) rest = Return e

-- ---- when statements can go on

-- Whether no statement returns
unfoldable pub never_returns : Block → Bool
never_returns End = true
never_returns (Set t i e rest) = never_returns rest
never_returns (Store f e rest) = never_returns rest
never_returns (StoreAt a i e rest) = never_returns rest
never_returns (Call t i f args rest) = never_returns rest
never_returns (Select t i e cases args rest) = never_returns rest
never_returns (If e a b rest) = never_returns a && (never_returns b && never_returns rest)
never_returns (While e a rest) = never_returns a && never_returns rest
never_returns (Return e) = false

-- Whether they return, whatever happens
unfoldable pub always_returns : Block → Bool
always_returns End = false
always_returns (Set t i e rest) = always_returns rest
always_returns (Store f e rest) = always_returns rest
always_returns (StoreAt a i e rest) = always_returns rest
always_returns (Call t i f args rest) = always_returns rest
always_returns (Select t i e cases args rest) = always_returns rest
always_returns (If e a b rest) = (always_returns a && always_returns b) || always_returns rest
always_returns (While e a rest) = always_returns rest
always_returns (Return e) = true

-- no part of an `if` returns
abbrev pub neither_returns : Block → Block → Bool
neither_returns a b = never_returns a && never_returns b

-- one of its parts always returns
abbrev pub one_returns : Block → Block → Bool
one_returns a b = always_returns a || always_returns b

-- Whether statements can go on where they return: no turn of a `while` returns, and where a part of an `if` may return,
-- one of both always does, so that what comes after the `if` belongs to the other one alone
unfoldable pub can_go_on : Block → Bool
can_go_on End = true
can_go_on (Set t i e rest) = can_go_on rest
can_go_on (Store f e rest) = can_go_on rest
can_go_on (StoreAt a i e rest) = can_go_on rest
can_go_on (Call t i f args rest) = can_go_on rest
can_go_on (Select t i e cases args rest) = can_go_on rest
can_go_on (If e a b rest) =
    (neither_returns a b || (one_returns a b && (can_go_on a && can_go_on b))) && can_go_on rest
can_go_on (While e a rest) = never_returns a && can_go_on rest
can_go_on (Return e) = true

-- ---- how they do

-- Statements that go on with `next e` where they return e, and with `after` where they fall through. What comes after
-- an `if` in which a part may return belongs to its parts.
unfoldable pub continued : (CExpr → Block) → Block → Block → Block
continued next End after = after
continued next (Set t i e rest) after = Set t i e (continued next rest after)
continued next (Store f e rest) after = Store f e (continued next rest after)
continued next (StoreAt a i e rest) after = StoreAt a i e (continued next rest after)
continued next (Call t i f args rest) after = Call t i f args (continued next rest after)
continued next (Select t i e cases args rest) after = Select t i e cases args (continued next rest after)
continued next (If e a b rest) after =
    if neither_returns a b then If e a b (continued next rest after)
    else If e (continued next a (continued next rest after)) (continued next b (continued next rest after)) End
continued next (While e a rest) after = While e a (continued next rest after)
continued next (Return e) after = next e
