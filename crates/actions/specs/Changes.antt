-- What rules and code do to a world. The changes that both use are `unfoldable`, so that a proof
-- which compares code with rules needs only that both use them.
use Rattle.std.specs.Prelude.{ℕ, List, Result, Ok, Err, Bool, true, false, if◌then◌else◌}
use Rattle.flow_base.specs.declared.bounds.Bounds.{Bounds}
use Rattle.flow_base.specs.declared.fault.Fault.{Fault}
use Rattle.active_config.specs.Tree.{Tree}
use Rattle.active_config.specs.Marks.{can_mark, is_bare, with_mark, with_last}
use Rattle.actions.specs.Data.{Datum, assigned}
use Rattle.actions.specs.Exprs.{Expr}
use Rattle.actions.specs.Values.{Valued, value_of, flag_of}
use Rattle.actions.specs.World.{World, paid}

-- one step is paid
unfoldable pub paid_in : Bounds → World → Result World Fault
paid_in b w = paid b w

-- a world with these data
abbrev pub with_data : Result (List Datum) Fault → World → Result World Fault
with_data (Ok vals) w = Ok (record w { vals = vals })
with_data (Err x) w = Err x

-- a datum takes a value, where there is one
abbrev pub assigned_value : ℕ → Valued → World → Result World Fault
assigned_value v (Ok x) w = with_data (assigned w.vals v x) w
assigned_value v (Err x) w = Err x

-- a datum takes the value of an expression
unfoldable pub assigned_in : ℕ → Expr → World → Result World Fault
assigned_in v e w = assigned_value v (value_of w.vals w.marks e) w

-- a value as a flag
abbrev pub truth : Valued → Result Bool Fault
truth (Ok x) = Ok (flag_of x)
truth (Err x) = Err x

-- whether an expression is true
unfoldable pub truth_of : Expr → World → Result Bool Fault
truth_of e w = truth (value_of w.vals w.marks e)

-- a state becomes active or inactive
abbrev pub set_mark : ℕ → Bool → World → World
set_mark s on w = record w { marks = with_mark s on w.marks }

-- a state becomes active where it can
unfoldable pub mark_in : Tree → ℕ → World → World
mark_in t s w = if can_mark t s w.marks then set_mark s true w else w

-- a state becomes inactive where it is bare
unfoldable pub clear_in : Tree → ℕ → World → World
clear_in t s w = if is_bare t s w.marks then set_mark s false w else w

-- the parent of a state remembers it
unfoldable pub keep_in : Tree → ℕ → World → World
keep_in t s w = record w { marks = with_last t s w.marks }
