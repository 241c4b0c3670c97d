-- The rules for actions, sends, and the search of a list of transitions.
use Rattle.std.specs.Prelude.{ℕ, nat_le, List, [], ◌∷◌, Option, Some, None, Bool, true, false}
use Rattle.flow_base.specs.declared.bounds.Bounds.{Bounds}
use Rattle.flow_base.specs.declared.fault.Fault.TheVariants as faults
use Rattle.active_config.specs.Marks.{is_on}
use Rattle.active_config.specs.Tree.{Tree}
use Rattle.actions.specs.declared.event.Event.{Event}
use Rattle.actions.specs.Exprs.{Expr, Stmt, Assign, Send, SendTo, Emit}
use Rattle.actions.specs.World.{World, emitted, Life, Bare, lives}
use Rattle.actions.specs.Changes.{paid_in, assigned_in, truth_of}
use Rattle.actions.specs.Work.{Work, ◌>>=◌, ◌>>◌, give, nothing, fault, test, change, change_or_fault, flag_or_fault}
use Rattle.actions.specs.Work.{choose, End, Done, Cut, if_done, Now, is_event, deeper}
use Rattle.checked_chart.specs.declared.parts.Dest.{Dest}
use Rattle.checked_chart.specs.declared.parts.Dest.TheVariants.{State, Junction}
use Rattle.checked_chart.specs.Chart.{Chart, Trans, junction}
use Rattle.sos_rules.specs.Parts.{Found, Fire, DeadEnd, No, Stop, Parts}

-- ---- actions

-- a datum takes the value of an expression
abbrev pub assign : ℕ → Expr → Work (Unit {0})
assign v e w = change_or_fault (assigned_in v e w) w

-- one step is paid
abbrev pub pay : Bounds → Work (Unit {0})
pay b w = change_or_fault (paid_in b w) w

-- directly after a send the condition of its life is tested: where it no longer holds, the action is cut, that is, it
-- returns early
abbrev pub while_alive : Tree → Life → Work End
while_alive t life = do
  alive ← test (λ w. lives t life w.marks)
  choose alive (give Done) (give Cut)

-- who receives an event that is sent: the whole chart, or a state
abbrev pub receiver : Option ℕ → ℕ
receiver None = 0
receiver (Some s) = s

-- a state receives an event where it is active; the whole chart always does
abbrev pub receives : Option ℕ → World → Bool
receives None w = true
receives (Some s) w = is_on s w.marks

-- ---- guards

-- whether the transition's event is the current one; a transition without event is enabled at every event
abbrev pub event_fits : Option ℕ → Event → Bool
event_fits None event = true
event_fits (Some e) event = is_event e event

-- whether the guard, if any, is true
abbrev pub guard_holds : Option Expr → Work Bool
guard_holds None = give true
guard_holds (Some g) = λ w. flag_or_fault (truth_of g w) w

-- the guard is evaluated only where the event fits
abbrev pub is_enabled : Trans → Now → Work Bool
is_enabled t now = choose (event_fits t.event now.event) (guard_holds t.guard) (give false)

module _ (c : Chart) (b : Bounds) where
  -- one statement: an emit costs one step
  abbrev pub statement : Parts → Life → Stmt → Now → Work End
  statement p life (Assign v e) now = assign v e >> give Done
  statement p life (Emit e) now = do
    pay b
    change (emitted e)
    give Done
  statement p life (Send e) now = p.send e None now >> while_alive c.tree life
  statement p life (SendTo e s) now = p.send e (Some s) now >> while_alive c.tree life

  -- statements in order, until one is cut
  abbrev pub block_rule : Parts → Life → List Stmt → Now → Work End
  block_rule p life [] now = give Done
  block_rule p life (s ∷ rest) now = do
    end ← statement p life s now
    if_done end Cut (p.block life rest now)

  -- At the greatest depth a send is a fault. Else it costs one step, and the receiver is processed one level deeper
  -- with the event.
  abbrev pub send_rule : Parts → ℕ → Option ℕ → Now → Work (Unit {0})
  send_rule p e to now = choose (nat_le b.depth now.depth) (fault faults.Depth) (do
    pay b
    heard ← test (receives to)
    choose heard (p.process (receiver to) (deeper e now) >> nothing) nothing)

  -- after a junction's list: the action is put before those of a firing; where nothing was found, the rest of the list
  -- that led to the junction is searched, and no change of the world is undone
  abbrev pub after_junction : Parts → Life → List Stmt → List Trans → Now → Found → Work Found
  after_junction p life action rest now (Fire d actions) = give (Fire d (action ∷ actions))
  after_junction p life action rest now DeadEnd = give DeadEnd
  after_junction p life action rest now No = p.search life rest now
  after_junction p life action rest now Stop = give Stop

  -- a junction's list; an empty one ends the search
  abbrev pub visit : Parts → Life → List Stmt → List Trans → Now → List Trans → Work Found
  visit p life action rest now [] = give DeadEnd
  visit p life action rest now (t ∷ ts) = p.search life (t ∷ ts) now >>= after_junction p life action rest now

  -- where a transition leads: a visit of a junction costs one step
  abbrev pub at_dest : Parts → Life → List Stmt → List Trans → Now → Dest → Work Found
  at_dest p life action rest now (State d) = give (Fire d (action ∷ []))
  at_dest p life action rest now (Junction j) = pay b >> visit p life action rest now (junction c j)

  -- after the condition action: where it was cut the search stops
  abbrev pub after_condition : Parts → Life → Trans → List Trans → Now → End → Work Found
  after_condition p life t rest now Cut = give Stop
  after_condition p life t rest now Done = at_dest p life t.action rest now t.dest

  -- a list of transitions in order: where one isn't enabled, the rest is searched
  abbrev pub search_rule : Parts → Life → List Trans → Now → Work Found
  search_rule p life [] now = give No
  search_rule p life (t ∷ rest) now = do
    enabled ← is_enabled t now
    choose enabled (p.block life t.condition now >>= after_condition p life t rest now) (p.search life rest now)

  -- the transition actions of a firing with this home, in the order of the path; each that isn't empty costs one step
  abbrev pub play_rule : Parts → ℕ → List (List Stmt) → Now → Work End
  play_rule p s [] now = give Done
  play_rule p s ([] ∷ actions) now = p.play s actions now
  play_rule p s ((x ∷ xs) ∷ actions) now = do
    pay b
    end ← p.block (Bare s) (x ∷ xs) now
    if_done end Cut (p.play s actions now)
