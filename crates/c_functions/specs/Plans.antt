-- The C of a plan: which statements are written for it, over the struct and the locals of its function.
use Rattle.std.specs.Prelude.{ℕ, ◌+◌, pos, List, [], ◌∷◌, length, map, slice_index_or, Option}
use Rattle.std.specs.Prelude.{Some, None, Bool, true, false, ◌||◌, if◌then◌else◌}
use Rattle.flow_base.specs.declared.bounds.Bounds.{Bounds}
use Rattle.flow_base.specs.declared.fault.Fault.{Fault}
use Rattle.flow_base.specs.declared.fault.Fault.TheVariants as faults
use Rattle.fixed_point.specs.declared.fitting.Mode.TheVariants.{Saturate}
use Rattle.active_config.specs.Tree.{Tree}
use Rattle.actions.specs.declared.event.Event.{Event}
use Rattle.actions.specs.declared.event.Event.TheVariants as events
use Rattle.actions.specs.declared.names.Sort.TheVariants as sorts
use Rattle.actions.specs.Exprs.{Expr}
use Rattle.actions.specs.Names.{Names}
use Rattle.actions.specs.Sorts.{scope_of, sort_of}
use Rattle.actions.specs.World.{Declaration, of_names}
use Rattle.c_subset.specs.declared.trees.Width.{Width}
use Rattle.c_subset.specs.declared.trees.Width.TheVariants.{W8, W16, W32, W64, W128}
use Rattle.c_subset.specs.declared.trees.CType.{CType}
use Rattle.c_subset.specs.declared.trees.CType.TheVariants.{Unsigned, Truth}
use Rattle.c_subset.specs.declared.trees.Arithmetic.TheVariants.{Plus, Less}
use Rattle.c_subset.specs.declared.trees.Comparison.TheVariants.{IsEqual, IsBelow}
use Rattle.c_subset.specs.declared.trees.Comparison.TheVariants.{IsAtLeast}
use Rattle.c_subset.specs.Trees.{CExpr, Const, Field, Element, Local, Bang, Calc, Compare, Both, Block}
use Rattle.c_subset.specs.declared.trees.Case.{Case}
use Rattle.c_subset.specs.Trees as c
use Rattle.c_functions.specs.declared.function_offsets.TheConstants.{BARE_OFFSET, NOTED_OFFSET, QUOTIENTS_OFFSET}
use Rattle.c_functions.specs.declared.function_offsets.TheConstants.{INIT_OFFSET, START_OFFSET, REACT_OFFSET}
use Rattle.c_functions.specs.Assigning.{stores_of, assigned_block}
use Rattle.c_functions.specs.Code.{written}
use Rattle.c_functions.specs.Events.{leading_events, running_number}
use Rattle.c_functions.specs.Translation.{Flat, flat, sort_in}
use Rattle.c_functions.specs.Statements.{Check, Test}
use Rattle.c_functions.specs.Statements as plan
use Rattle.c_functions.specs.Layout.{Layout, layout_after, number_test, bit_test, on_c, put_number, put_bit}

-- Which faults are tested: whether the steps and the depth are, which isn't needed where no event overruns the bound;
-- and of each procedure whether its result is compared with BAD after a call, which isn't needed where the procedure
-- never fails
pub record Tests : Type 0 where
  pub steps : Bool
  pub depth : Bool
  pub after : ℕ → Bool

-- all faults are tested
abbrev pub all_tests : Tests
all_tests = record { steps = true; depth = true; after = λ p. true }

-- what the C is written for: the tree, the numbers of states as children, what is declared, the bounds of a run, which
-- faults are tested, how many entries out[] has, how many procedures there are, which of them may stand in note[], and
-- how many entries that has
pub record Shape : Type 0 where
  pub tree : Tree
  pub numbers : ℕ → ℕ
  pub names : Names
  pub bounds : Bounds
  pub tests : Tests
  pub outputs : ℕ
  pub procs : ℕ
  pub noted : List ℕ
  pub notes : ℕ

-- ---- where things stand

-- the first fields are those of data, one for each; then comes that of the steps used
abbrev pub used_field : Shape → ℕ
used_field K = length K.names.vars

-- that of how many entries of out[] are in use
abbrev pub outs_field : Shape → ℕ
outs_field K = length K.names.vars + 1

-- that of how many entries of note[] are in use
abbrev pub noted_field : Shape → ℕ
noted_field K = length K.names.vars + 2

-- that of the fault
abbrev pub fault_field : Shape → ℕ
fault_field K = length K.names.vars + 3

-- that of the fault's datum
abbrev pub fault_datum_field : Shape → ℕ
fault_datum_field K = length K.names.vars + 4

-- that which tells whether a run goes on
abbrev pub ready_field : Shape → ℕ
ready_field K = length K.names.vars + 5

-- and then those of states
abbrev pub layout : Shape → Layout
layout K = layout_after K.tree (length K.names.vars + 6)

-- the array out[]
abbrev pub out_row : ℕ
out_row = 0

-- the array note[]
abbrev pub note_row : ℕ
note_row = 1

-- the first functions are those of procedures, one for each; then comes that which tells whether a state is active
abbrev pub on_function : Shape → ℕ
on_function K = K.procs

-- that which tells whether a state is active and none of its children is
abbrev pub bare_function : Shape → ℕ
bare_function K = K.procs + BARE_OFFSET

-- that which calls noted procedures
abbrev pub noted_function : Shape → ℕ
noted_function K = K.procs + NOTED_OFFSET

-- the widths in ascending order
abbrev pub width_place : Width → ℕ
width_place W8 = 0
width_place W16 = 1
width_place W32 = 2
width_place W64 = 3
width_place W128 = 4

-- flow_divW for each width
abbrev pub helper : Shape → Width → ℕ
helper K w = K.procs + QUOTIENTS_OFFSET + width_place w

-- that which stores the first values
abbrev pub init_function : Shape → ℕ
init_function K = K.procs + INIT_OFFSET

-- the start
abbrev pub start_function : Shape → ℕ
start_function K = K.procs + START_OFFSET

-- the reaction
abbrev pub react_function : Shape → ℕ
react_function K = K.procs + REACT_OFFSET

-- ---- words

-- uint32_t, the type of counters, parameters and results
abbrev pub word : CType
word = Unsigned W32

-- a constant of that type
abbrev pub number : ℕ → CExpr
number i = Const word (pos i)

-- the first parameter of a procedure: the event
abbrev pub event_local : CExpr
event_local = Local word 0

-- the second one: how deep the event was sent
abbrev pub depth_local : CExpr
depth_local = Local word 1

-- the third one: the first entry of note[] that it may play
abbrev pub base_local : CExpr
base_local = Local word 2

-- the fourth one: the home
abbrev pub home_local : CExpr
home_local = Local word 3

-- the last one: the result of the last call
abbrev pub result_local : CExpr
result_local = Local word 4

-- a local of a procedure that plays: the entry of note[] that it plays next
abbrev pub cursor_local : CExpr
cursor_local = Local word 5

-- what a function of the home gave
abbrev pub tested_local : CExpr
tested_local = Local Truth 6

-- expressions use locals from this number on
abbrev pub first_free : ℕ
first_free = 7

-- an event as a number: its own, then that of a tick, and that of the start
abbrev pub event_number : Names → Event → ℕ
event_number n (events.Named e) = e
event_number n events.Tick = length n.events
event_number n events.Start = length n.events + 1

-- a fault as a number; 0 is none
abbrev pub fault_number : Option Fault → ℕ
fault_number None = 0
fault_number (Some faults.Depth) = 1
fault_number (Some faults.Steps) = 2
fault_number (Some (faults.Overflow v)) = 3
fault_number (Some faults.Zero) = 4

-- the number of the datum of a fault, 0 where it has none
abbrev pub fault_datum : Option Fault → ℕ
fault_datum None = 0
fault_datum (Some faults.Depth) = 0
fault_datum (Some faults.Steps) = 0
fault_datum (Some (faults.Overflow v)) = v
fault_datum (Some faults.Zero) = 0

-- what is told of a number that is no event: no fault of a run
abbrev pub refused_number : ℕ
refused_number = 5

-- what `ready` holds while a run goes on: numbers below it are those of events that a run takes, and it isn't 0
abbrev pub leading : Shape → ℕ
leading K = running_number (leading_events K.names.events)

-- what `ready` holds where a run had that fault or none; before the start it is 0, too
abbrev pub ready_of : Shape → Option Fault → ℕ
ready_of K None = leading K
ready_of K (Some x) = 0

-- what a function returns after a fault: no result of code
abbrev pub bad : ℕ
bad = 4294967295

-- ---- pieces of statements

-- m->f = m->f + 1u;
abbrev pub count_up : ℕ → Block → Block
count_up f rest = c.Store f (Calc Plus (Field f) (number 1)) rest

-- m->f = m->f - 1u;
abbrev pub count_down : ℕ → Block → Block
count_down f rest = c.Store f (Calc Less (Field f) (number 1)) rest

-- m->fault = ..; m->fault_datum = ..; m->ready = 0u; before other statements
abbrev pub tell_fault : Shape → ℕ → ℕ → Block → Block
tell_fault K fault datum rest =
    c.Store (fault_field K) (number fault)
    (c.Store (fault_datum_field K) (number datum) (c.Store (ready_field K) (number 0) rest))

-- the fault and its datum are told, and that the run is over; return BAD;
abbrev pub faulted : Shape → Fault → Block
faulted K x = tell_fault K (fault_number (Some x)) (fault_datum (Some x)) (c.Return (number bad))

-- if (m->used >= STEPS) fault, else m->used = m->used + 1u; where steps aren't tested they aren't counted
abbrev pub pay_c : Shape → Block → Block
pay_c K rest =
    if K.tests.steps
    then c.If (Compare IsAtLeast (Field (used_field K)) (number K.bounds.steps)) (faulted K faults.Steps) c.End
    (count_up (used_field K) rest)
    else rest

-- if (depth >= DEPTH) fault, where the depth is tested
abbrev pub deep_c : Shape → Block → Block
deep_c K rest =
    if K.tests.depth
    then c.If (Compare IsAtLeast depth_local (number K.bounds.depth)) (faulted K faults.Depth) c.End rest
    else rest

-- if (r == BAD) return BAD;
abbrev pub unless_bad : Block → Block
unless_bad rest = c.If (Compare IsEqual result_local (number bad)) (c.Return (number bad)) c.End rest

-- r = pN(m, ..); and the test of what it gave
abbrev pub called_c : ℕ → List CExpr → Block → Block
called_c p args rest = c.Call word 4 p args (unless_bad rest)

-- the same of the function of a procedure, where its result is tested
abbrev pub procedure_call : Shape → ℕ → List CExpr → Block → Block
procedure_call K p args rest = c.Call word 4 p args (if K.tests.after p then unless_bad rest else rest)

-- h = on(m, home); or h = bare(m, home);
abbrev pub ask_home : ℕ → Block → Block
ask_home f rest = c.Call Truth 6 f (home_local ∷ []) rest

-- a case for each of these procedures
abbrev pub cases_of : List ℕ → List Case
cases_of noted = map (λ p. record { label = p; function = p }) noted

-- one turn of `while`: a step is paid, and the note at the cursor is called
abbrev pub turn_c : Shape → Block
turn_c K =
    pay_c K (c.Set word 5 (Calc Plus cursor_local (number 1))
    (called_c (noted_function K)
    (event_local ∷ depth_local ∷ Field (noted_field K) ∷ home_local ∷ result_local
    ∷ Element note_row (Calc Less cursor_local (number 1)) ∷ [])
    (ask_home (bare_function K) c.End)))

-- if (cursor < base) cursor = base; h = bare(m, home); while (cursor < m->noted && h) { .. h = bare(m, home); }
abbrev pub play_c : Shape → Block → Block
play_c K rest =
    c.If (Compare IsBelow cursor_local base_local) (c.Set word 5 base_local c.End) c.End
    (ask_home (bare_function K)
    (c.While (Both (Compare IsBelow cursor_local (Field (noted_field K))) tested_local) (turn_c K) rest))

-- ---- expressions

-- what is declared of a datum
abbrev pub declared_at : Names → ℕ → Declaration
declared_at n v = slice_index_or (of_names n) v (record { sort = sorts.Flag; mode = Saturate })

-- the C of an expression
abbrev pub expression_c : Shape → Expr → Flat
expression_c K x = flat (scope_of K.names) (on_c K.tree (layout K) K.numbers) first_free x

-- m->v = x; with the tests of its faults
abbrev pub assign_c : Shape → ℕ → Expr → Block → Block
assign_c K v x rest =
    assigned_block (helper K) (faulted K) v
    (stores_of v (declared_at K.names v).sort (declared_at K.names v).mode (sort_in (sort_of (scope_of K.names) x))
    (expression_c K x)) rest

-- ---- plans

-- a test without arithmetic
abbrev pub check_c : Shape → Check → CExpr
check_c K plan.Yes = Const Truth (pos 1)
check_c K plan.No = Const Truth (pos 0)
check_c K (plan.Chosen p i) = number_test (layout K) ((layout K).chosen p) i
check_c K (plan.Flag s) = bit_test (layout K) s
check_c K (plan.Kept p i) = number_test (layout K) ((layout K).kept p) i
check_c K (plan.IsEvent e) = Compare IsEqual event_local (number e)
check_c K (plan.IsResult x) = Compare IsEqual result_local (number x)
check_c K (plan.Both a b) = Both (check_c K a) (check_c K b)
check_c K (plan.Not a) = Bang (check_c K a)

-- `if` over two parts
abbrev pub if_c : Shape → Test → Block → Block → Block → Block
if_c K (plan.Simple a) x y rest = c.If (check_c K a) x y rest
if_c K plan.HomeOn x y rest = ask_home (on_function K) (c.If tested_local x y rest)
if_c K plan.HomeBare x y rest = ask_home (bare_function K) (c.If tested_local x y rest)
if_c K (plan.Arithmetic e) x y rest =
    written (helper K) (faulted K) (expression_c K e).code (c.If (expression_c K e).expr x y rest)

-- whether a plan plays: a `Play` stands in it, in a part of an `if`, or after one
unfoldable pub plays : plan.Block → Bool
plays plan.End = false
plays (plan.Choose p i rest) = plays rest
plays (plan.Mark s b rest) = plays rest
plays (plan.Keep p i rest) = plays rest
plays (plan.Store v x rest) = plays rest
plays (plan.Put e rest) = plays rest
plays (plan.Pay rest) = plays rest
plays (plan.Deep rest) = plays rest
plays (plan.SetHome s rest) = plays rest
plays (plan.SetBase rest) = plays rest
plays (plan.Push p rest) = plays rest
plays (plan.Pop rest) = plays rest
plays (plan.Call p rest) = plays rest
plays (plan.Send e p rest) = plays rest
plays (plan.Play rest) = true
plays (plan.If t a b rest) = plays a || (plays b || plays rest)
plays (plan.Return r) = false
plays plan.ReturnResult = false

-- The statements of a plan
unfoldable pub plan_c : Shape → plan.Block → Block
plan_c K plan.End = c.End
plan_c K (plan.Choose p i rest) = put_number (layout K) ((layout K).chosen p) i (plan_c K rest)
plan_c K (plan.Mark s b rest) = put_bit (layout K) s b (plan_c K rest)
plan_c K (plan.Keep p i rest) = put_number (layout K) ((layout K).kept p) i (plan_c K rest)
plan_c K (plan.Store v x rest) = assign_c K v x (plan_c K rest)
plan_c K (plan.Put e rest) =
    c.StoreAt out_row (Field (outs_field K)) (number e) (count_up (outs_field K) (plan_c K rest))
plan_c K (plan.Pay rest) = pay_c K (plan_c K rest)
plan_c K (plan.Deep rest) = deep_c K (plan_c K rest)
plan_c K (plan.SetHome s rest) = c.Set word 3 (number s) (plan_c K rest)
plan_c K (plan.SetBase rest) = c.Set word 2 (Field (noted_field K)) (plan_c K rest)
plan_c K (plan.Push p rest) =
    c.StoreAt note_row (Field (noted_field K)) (number p) (count_up (noted_field K) (plan_c K rest))
plan_c K (plan.Pop rest) = count_down (noted_field K) (plan_c K rest)
plan_c K (plan.Call p rest) =
    procedure_call K p (event_local ∷ depth_local ∷ base_local ∷ home_local ∷ result_local ∷ []) (plan_c K rest)
plan_c K (plan.Send e p rest) =
    procedure_call K p
    (number e ∷ Calc Plus depth_local (number 1) ∷ Field (noted_field K) ∷ number 0 ∷ result_local ∷ []) (plan_c K rest)
plan_c K (plan.Play rest) = play_c K (plan_c K rest)
plan_c K (plan.If t a b rest) = if_c K t (plan_c K a) (plan_c K b) (plan_c K rest)
plan_c K (plan.Return r) = c.Return (number r)
plan_c K plan.ReturnResult = c.Return result_local
