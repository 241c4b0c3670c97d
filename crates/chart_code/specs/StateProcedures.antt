-- The instructions of each kind of procedure of a state. Each takes as an argument what follows, and the case that it
-- depends on.
use Rattle.std.specs.Prelude.{◌==◌, ℕ, suc, List, [], ◌∷◌, reverse, Option, Some, None, Bool, true, false}
use Rattle.active_config.specs.declared.comp.Comp.{Comp}
use Rattle.active_config.specs.declared.comp.Comp.TheVariants.{Leaf, Or, And}
use Rattle.active_config.specs.Tree.{Tree, parent_of, comp_of, children_of}
use Rattle.actions.specs.Exprs.{Expr, Stmt, Assign, Send, SendTo, Emit}
use Rattle.actions.specs.World.{Life, On, Bare}
use Rattle.checked_chart.specs.declared.parts.ListKind.TheVariants.{Outer, Inner, Default}
use Rattle.checked_chart.specs.Homes.{child_toward, path_in}
use Rattle.sos_rules.specs.Parts.{Went, Stay, Out}
use Rattle.code_language.specs.Instrs.{Cond, Instr}
use Rattle.code_language.specs.Instrs as instrs
use Rattle.chart_code.specs.Numbers.{Numbers}

-- what a procedure that processes a state returns: 1 for Stay, and 3 + h for Out h; 0 says that a search found nothing,
-- and 2 that it came to an empty junction
abbrev pub went_result : Went → ℕ
went_result Stay = 1
went_result (Out h) = suc (suc (suc h))

-- goes on where the condition holds, else returns
abbrev pub require : Cond → List Instr → List Instr
require c rest = instrs.Unless 1 c ∷ instrs.Skip 1 ∷ instrs.Ret 1 ∷ rest

-- goes on where it doesn't hold, else returns
abbrev pub refuse : Cond → List Instr → List Instr
refuse c rest = instrs.Unless 1 c ∷ instrs.Ret 1 ∷ rest

-- after a search: goes on where it found no firing, or came to an empty junction; else returns with the result as it is
abbrev pub unless_found : List Instr → List Instr
unless_found rest = instrs.Unless 1 (instrs.Result 2) ∷ instrs.Skip 1 ∷ instrs.Pass ∷ rest

-- a call of a procedure without a note
abbrev pub call : ℕ → Instr
call p = instrs.Call p None

-- the end mark: a search that comes to an empty junction returns 2
abbrev pub end_code : List Instr
end_code = instrs.Ret 2 ∷ []

-- ---- blocks and guards

-- the condition of a life, where the frame's home is its state
abbrev pub life_test : Life → Cond
life_test (On s) = instrs.OnHome
life_test (Bare s) = instrs.BareHome

-- the state of a life
abbrev pub state_of_life : Life → ℕ
state_of_life (On s) = s
state_of_life (Bare s) = s

-- a block: after each send the life is tested
abbrev pub block_code : Numbers → Cond → List Stmt → List Instr
block_code N alive [] = instrs.Ret 1 ∷ []
block_code N alive (Assign v e ∷ rest) = instrs.Assign v e ∷ block_code N alive rest
block_code N alive (Emit e ∷ rest) = instrs.Emit e ∷ block_code N alive rest
block_code N alive (Send e ∷ rest) = instrs.Send e ∷ require alive (block_code N alive rest)
block_code N alive (SendTo e s ∷ rest) = instrs.SendTo e s (N.process s) ∷ require alive (block_code N alive rest)

-- a guard: 1 where it is true, else 0
abbrev pub guard_code : Expr → List Instr
guard_code e = instrs.Unless 1 (instrs.Test e) ∷ instrs.Ret 1 ∷ instrs.Ret 0 ∷ []

-- ---- exit

-- the first of these states that is active has its procedure called
abbrev pub active_code : (ℕ → ℕ) → List ℕ → List Instr
active_code proc [] = instrs.Ret 1 ∷ []
active_code proc (x ∷ xs) = instrs.Unless 2 (instrs.On x) ∷ call (proc x) ∷ instrs.Ret 1 ∷ active_code proc xs

-- each of these states has its procedure called
abbrev pub each_code : (ℕ → ℕ) → List ℕ → List Instr
each_code proc [] = instrs.Ret 1 ∷ []
each_code proc (x ∷ xs) = call (proc x) ∷ each_code proc xs

-- the children of a state are exited
abbrev pub leave_code : Numbers → Tree → ℕ → Comp → List Instr
leave_code N t s Leaf = instrs.Ret 1 ∷ []
leave_code N t s Or = active_code N.exit (children_of t s)
leave_code N t s And = each_code N.exit (reverse (children_of t s))

-- a state is left
abbrev pub exit_code : Numbers → ℕ → List Instr
exit_code N s =
    instrs.Home s ∷ require instrs.OnHome (call (N.leave s) ∷ require instrs.BareHome
    (call (N.exit_action s) ∷ instrs.Clear s ∷ instrs.Ret 1 ∷ []))

-- ---- enter

-- on the path from s to d: by default where it ends at s, else into the child towards d
abbrev pub toward_code : Numbers → ℕ → ℕ → Bool → Option ℕ → List Instr
toward_code N s d true o = call (N.defaults s) ∷ instrs.Ret 1 ∷ []
toward_code N s d false None = instrs.Ret 1 ∷ []
toward_code N s d false (Some x) = call (N.enter x d) ∷ instrs.Ret 1 ∷ []

-- each of these children of an AND is entered, the one that contains d on the path to d, the others by default
abbrev pub enters_code : Numbers → Tree → ℕ → List ℕ → List Instr
enters_code N t d [] = instrs.Ret 1 ∷ []
enters_code N t d (x ∷ xs) = call (N.enter x (path_in t x d)) ∷ enters_code N t d xs

-- a parent that can take one more active child
abbrev pub takes_test : ℕ → Comp → Cond
takes_test p Leaf = instrs.On p
takes_test p Or = instrs.Bare p
takes_test p And = instrs.On p

-- a state is entered where its parent can take it
abbrev pub parent_test : Tree → Option ℕ → List Instr → List Instr
parent_test t None rest = rest
parent_test t (Some p) rest = require (takes_test p (comp_of t p)) rest

-- what is inside a state that was entered
abbrev pub inside_code : Numbers → Tree → ℕ → ℕ → Comp → List Instr
inside_code N t s d Leaf = instrs.Ret 1 ∷ []
inside_code N t s d Or = toward_code N s d (s == d) (child_toward t s d)
inside_code N t s d And = enters_code N t d (children_of t s)

-- a parent with history remembers s
abbrev pub keep_code : Bool → ℕ → List Instr → List Instr
keep_code true s rest = instrs.Keep s ∷ rest
keep_code false s rest = rest

-- the entry action, and what is inside
abbrev pub active_entry_code : Numbers → Tree → ℕ → ℕ → List Instr
active_entry_code N t s d = call (N.entry s) ∷ require instrs.BareHome (inside_code N t s d (comp_of t s))

-- s becomes active, a parent with history remembers it, and then the entry action
abbrev pub entry_code : Numbers → Tree → ℕ → ℕ → Bool → List Instr
entry_code N t s d remembered = instrs.Mark s ∷ keep_code remembered s (active_entry_code N t s d)

-- a state that is off is entered
abbrev pub enter_code : Numbers → Tree → ℕ → ℕ → Bool → List Instr
enter_code N t s d remembered =
    instrs.Home s ∷ refuse instrs.OnHome (parent_test t (parent_of t s) (entry_code N t s d remembered))

-- the first of these children that its parent remembers is entered by default; where there is none, what follows
abbrev pub return_code : Numbers → List ℕ → List Instr → List Instr
return_code N [] rest = rest
return_code N (x ∷ xs) rest =
    instrs.Unless 2 (instrs.Last x) ∷ call (N.enter x x) ∷ instrs.Ret 1 ∷ return_code N xs rest

-- the default list is searched
abbrev pub search_code : Numbers → ℕ → List Instr
search_code N s = call (N.search s Default) ∷ instrs.Ret 1 ∷ []

-- an OR is entered by default: xs are the children that it may enter again by history; where none of them is
-- remembered, its default list is searched
abbrev pub defaults_code : Numbers → ℕ → List ℕ → List Instr
defaults_code N s xs = instrs.Home s ∷ return_code N xs (search_code N s)

-- ---- firing

-- the rest of a firing with home s and destination d, once the active child of s is left
abbrev pub arrive_code : Numbers → Tree → ℕ → ℕ → List Instr
arrive_code N t s d =
    instrs.Home s ∷ instrs.Play ∷ require instrs.BareHome (toward_code N s d (s == d) (child_toward t s d))

-- a firing with home s and destination d
abbrev pub take_code : Numbers → ℕ → ℕ → List Instr
take_code N s d = call (N.leave s) ∷ call (N.arrive s d) ∷ instrs.Ret 1 ∷ []

-- ---- process

-- the active child of an OR is processed; a firing with s as its home ends there, and any other is passed on
abbrev pub active_child_code : Numbers → ℕ → List ℕ → List Instr
active_child_code N s [] = instrs.Ret 1 ∷ []
active_child_code N s (x ∷ xs) =
    instrs.Unless 4 (instrs.On x) ∷ call (N.process x) ∷ instrs.Unless 1 (instrs.Result (went_result (Out s))) ∷
    instrs.Ret 1 ∷ instrs.Pass ∷ active_child_code N s xs

-- each active child of an AND is processed, until a firing leads out of one
abbrev pub regions_code : Numbers → List ℕ → List Instr
regions_code N [] = instrs.Ret 1 ∷ []
regions_code N (x ∷ xs) =
    instrs.Unless 4 (instrs.On x) ∷ call (N.process x) ∷ instrs.Unless 1 (instrs.Result 1) ∷ instrs.Skip 1 ∷ instrs.Pass
    ∷ regions_code N xs

-- the children of a state are processed
abbrev pub children_code : Numbers → Tree → ℕ → Comp → List Instr
children_code N t s Leaf = instrs.Ret 1 ∷ []
children_code N t s Or = active_child_code N s (children_of t s)
children_code N t s And = regions_code N (children_of t s)

-- an active state is processed: its outer list, its during action, its inner list, and its children
abbrev pub process_code : Numbers → Tree → ℕ → List Instr
process_code N t s =
    instrs.Home s ∷ call (N.search s Outer) ∷ unless_found (call (N.during s) ∷ require instrs.OnHome
    (call (N.search s Inner) ∷ unless_found (children_code N t s (comp_of t s))))
