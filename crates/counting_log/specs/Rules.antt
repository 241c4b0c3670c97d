-- The rules with counters once more, over work with a log: each state that is entered, each time that the chart is
-- processed and each assignment of the chart is noted. The log changes nothing of a run: it is there to say what a
-- counter has counted.
use Rattle.std.specs.Prelude.{◌==◌, ℕ, zero, suc, nat_le, List, [], ◌∷◌, reverse, Option, Some, None, Bool, false}
use Rattle.flow_base.specs.declared.bounds.Bounds.{Bounds}
use Rattle.flow_base.specs.declared.fault.Fault.TheVariants as faults
use Rattle.active_config.specs.declared.comp.Comp.{Comp}
use Rattle.active_config.specs.declared.comp.Comp.TheVariants.{Leaf, Or, And}
use Rattle.active_config.specs.Marks.{is_on, is_bare, active_child, can_mark}
use Rattle.active_config.specs.Tree.{Tree, comp_of, children_of}
use Rattle.actions.specs.Changes.{set_mark}
use Rattle.actions.specs.Exprs.{Expr, Stmt, Assign, Send, SendTo, Emit}
use Rattle.actions.specs.World.{emitted, Life, On, Bare, lives}
use Rattle.actions.specs.Work.{End, Done, Cut, Now, deeper, fault}
use Rattle.checked_chart.specs.declared.parts.Dest.{Dest}
use Rattle.checked_chart.specs.declared.parts.Dest.TheVariants.{State, Junction}
use Rattle.checked_chart.specs.declared.parts.ListKind.TheVariants.{Outer}
use Rattle.checked_chart.specs.Chart.{Chart, Trans, node, junction}
use Rattle.checked_chart.specs.Homes.{home_of, child_toward, path_in}
use Rattle.sos_rules.specs.Moves.{entered_in, remembered}
use Rattle.sos_rules.specs.Parts.{Found, Fire, DeadEnd, No, Stop, Went, Stay, Out}
use Rattle.sos_rules.specs.Searches as rules
use Rattle.sos_rules.specs.Searches.{receiver, receives, event_fits, guard_holds}
use Rattle.counting_rules.specs.Counters.{Counters, reset, count, of_root}
use Rattle.counting_log.specs.Log.{Entered, Processed, Assigned}
use Rattle.counting_log.specs.Work.{Work, ◌>>=◌, ◌>>◌, Unfinished, lift, note, give, nothing, test, look, change, choose}
use Rattle.counting_log.specs.Work.{if_some, if_done}

-- ---- the pieces of work

-- those of a run, over work with a log
pub record Parts : Type 0 where
  pub block : Life → List Stmt → Now → Work End
  pub send : ℕ → Option ℕ → Now → Work (Unit {0})
  pub search : Life → List Trans → Now → Work Found
  pub exit : ℕ → Now → Work (Unit {0})
  pub exit_each : List ℕ → Now → Work (Unit {0})
  pub enter : ℕ → ℕ → Now → Work (Unit {0})
  pub enter_each : List ℕ → ℕ → Now → Work (Unit {0})
  pub defaults : ℕ → Now → Work (Unit {0})
  pub play : ℕ → List (List Stmt) → Now → Work End
  pub take : ℕ → ℕ → List (List Stmt) → Now → Work (Unit {0})
  pub process : ℕ → Now → Work Went
  pub process_each : List ℕ → Now → Work Went

-- no piece of work is over
abbrev pub no_parts : Parts
no_parts = record {
  block = λ _ _ _ _ _. Unfinished;
  send = λ _ _ _ _ _. Unfinished;
  search = λ _ _ _ _ _. Unfinished;
  exit = λ _ _ _ _. Unfinished;
  exit_each = λ _ _ _ _. Unfinished;
  enter = λ _ _ _ _ _. Unfinished;
  enter_each = λ _ _ _ _ _. Unfinished;
  defaults = λ _ _ _ _. Unfinished;
  play = λ _ _ _ _ _. Unfinished;
  take = λ _ _ _ _ _ _. Unfinished;
  process = λ _ _ _ _. Unfinished;
  process_each = λ _ _ _ _. Unfinished;
}

-- ---- what is noted

-- a datum takes the value of an expression, which is noted
abbrev pub assign : ℕ → Expr → Work (Unit {0})
assign v e = lift (rules.assign v e) >> note (Assigned v)

-- the counters of a state that is entered become 0, and that it was entered is noted
abbrev pub reset_noted : Counters → ℕ → Work (Unit {0})
reset_noted k s = lift (reset (k.resets s)) >> note (Entered s)

-- that the chart is processed with the current event is noted, and its counters count the event
abbrev pub count_noted : Counters → Bounds → Now → Work (Unit {0})
count_noted k b now = note (Processed now.event) >> lift (count b k.counted now)

-- ---- the rules

-- one step is paid
abbrev pub pay : Bounds → Work (Unit {0})
pay b = lift (rules.pay b)

-- directly after a send the condition of its life is tested: where it no longer holds, the action is cut
abbrev pub while_alive : Tree → Life → Work End
while_alive t life = do
  alive ← test (λ w. lives t life w.marks)
  choose alive (give Done) (give Cut)

-- the guard is evaluated only where the event fits
abbrev pub is_enabled : Trans → Now → Work Bool
is_enabled t now = choose (event_fits t.event now.event) (lift (guard_holds t.guard)) (give false)

-- work that is done where a state is bare
abbrev pub if_bare : Tree → ℕ → Work (Unit {0}) → Work (Unit {0})
if_bare t s m = do
  bare ← test (λ w. is_bare t s w.marks)
  choose bare m nothing

-- an answer of a child of an OR: a firing whose home is the OR ends at the OR, and any other is passed on
abbrev pub from_child : ℕ → Went → Work Went
from_child s Stay = give Stay
from_child s (Out h) = choose (h == s) (give Stay) (give (Out h))

module _ (c : Chart) (k : Counters) (b : Bounds) where
  -- one statement: an emit costs one step
  abbrev pub statement : Parts → Life → Stmt → Now → Work End
  statement p life (Assign v e) now = assign v e >> give Done
  statement p life (Emit e) now = do
    pay b
    change (emitted e)
    give Done
  statement p life (Send e) now = p.send e None now >> while_alive c.tree life
  statement p life (SendTo e s) now = p.send e (Some s) now >> while_alive c.tree life

  -- statements in order, until one is cut
  abbrev pub block_rule : Parts → Life → List Stmt → Now → Work End
  block_rule p life [] now = give Done
  block_rule p life (s ∷ rest) now = do
    end ← statement p life s now
    if_done end Cut (p.block life rest now)

  -- At the greatest depth a send is a fault. Else it costs one step, and the receiver is processed one level deeper
  -- with the event.
  abbrev pub send_rule : Parts → ℕ → Option ℕ → Now → Work (Unit {0})
  send_rule p e to now = choose (nat_le b.depth now.depth) (lift (fault faults.Depth)) (do
    pay b
    heard ← test (receives to)
    choose heard (p.process (receiver to) (deeper e now) >> nothing) nothing)

  -- after a junction's list: the action is put before those of a firing; where nothing was found, the rest of the list
  -- that led to the junction is searched, and no change of the world is undone
  abbrev pub after_junction : Parts → Life → List Stmt → List Trans → Now → Found → Work Found
  after_junction p life action rest now (Fire d actions) = give (Fire d (action ∷ actions))
  after_junction p life action rest now DeadEnd = give DeadEnd
  after_junction p life action rest now No = p.search life rest now
  after_junction p life action rest now Stop = give Stop

  -- a junction's list; an empty one ends the search
  abbrev pub visit : Parts → Life → List Stmt → List Trans → Now → List Trans → Work Found
  visit p life action rest now [] = give DeadEnd
  visit p life action rest now (t ∷ ts) = p.search life (t ∷ ts) now >>= after_junction p life action rest now

  -- where a transition leads: a visit of a junction costs one step
  abbrev pub at_dest : Parts → Life → List Stmt → List Trans → Now → Dest → Work Found
  at_dest p life action rest now (State d) = give (Fire d (action ∷ []))
  at_dest p life action rest now (Junction j) = pay b >> visit p life action rest now (junction c j)

  -- after the condition action: where it was cut the search stops
  abbrev pub after_condition : Parts → Life → Trans → List Trans → Now → End → Work Found
  after_condition p life t rest now Cut = give Stop
  after_condition p life t rest now Done = at_dest p life t.action rest now t.dest

  -- a list of transitions in order: where one isn't enabled, the rest is searched
  abbrev pub search_rule : Parts → Life → List Trans → Now → Work Found
  search_rule p life [] now = give No
  search_rule p life (t ∷ rest) now = do
    enabled ← is_enabled t now
    choose enabled (p.block life t.condition now >>= after_condition p life t rest now) (p.search life rest now)

  -- the transition actions of a firing with this home, in the order of the path; each that isn't empty costs one step
  abbrev pub play_rule : Parts → ℕ → List (List Stmt) → Now → Work End
  play_rule p s [] now = give Done
  play_rule p s ([] ∷ actions) now = p.play s actions now
  play_rule p s ((x ∷ xs) ∷ actions) now = do
    pay b
    end ← p.block (Bare s) (x ∷ xs) now
    if_done end Cut (p.play s actions now)

  -- ---- leaving

  -- the active child of a state is left, if there is one
  abbrev pub exit_active : Parts → ℕ → Now → Work (Unit {0})
  exit_active p s now = do
    x ← look (λ w. active_child c.tree s w.marks)
    if_some x nothing (λ x. p.exit x now)

  -- an AND's children are left in reverse order, and of an OR the active one
  abbrev pub exit_children : Parts → ℕ → Now → Comp → Work (Unit {0})
  exit_children p s now Leaf = nothing
  exit_children p s now Or = exit_active p s now
  exit_children p s now And = p.exit_each (reverse (children_of c.tree s)) now

  -- An active state is left: first its children, then its exit action runs while it is bare, and where that wasn't cut
  -- and the state is bare, it becomes inactive.
  abbrev pub exit_rule : Parts → ℕ → Now → Work (Unit {0})
  exit_rule p s now = do
    on ← test (λ w. is_on s w.marks)
    choose on (do
      exit_children p s now (comp_of c.tree s)
      if_bare c.tree s (do
        end ← p.block (Bare s) (node c s).exit now
        if_done end tt (if_bare c.tree s (change (set_mark s false))))) nothing

  -- states are left one after another
  abbrev pub exit_each_rule : Parts → List ℕ → Now → Work (Unit {0})
  exit_each_rule p [] now = nothing
  exit_each_rule p (x ∷ xs) now = do
    p.exit x now
    p.exit_each xs now

  -- ---- entering

  -- enters what is inside s on the path to d, which is s or a state below it: by default where d is s, else the child
  -- towards d
  abbrev pub enter_toward : Parts → ℕ → ℕ → Now → Work (Unit {0})
  enter_toward p s d now =
      choose (s == d) (p.defaults s now) (if_some (child_toward c.tree s d) nothing (λ x. p.enter x d now))

  -- below a state that was entered: an OR enters one child, an AND all of them in order
  abbrev pub enter_inside : Parts → ℕ → ℕ → Now → Comp → Work (Unit {0})
  enter_inside p s d now Leaf = nothing
  enter_inside p s d now Or = enter_toward p s d now
  enter_inside p s d now And = p.enter_each (children_of c.tree s) d now

  -- A state that can become active does so, and its parent remembers it where the parent has history. Then its entry
  -- action runs while it is bare, and where that wasn't cut, what is inside is entered.
  abbrev pub enter_rule : Parts → ℕ → ℕ → Now → Work (Unit {0})
  enter_rule p s d now = do
    can ← test (λ w. can_mark c.tree s w.marks)
    choose can (do
      change (entered_in c s)
      reset_noted k s
      end ← p.block (Bare s) (node c s).entry now
      if_done end tt (enter_inside p s d now (comp_of c.tree s))) nothing

  -- regions are entered one after another, the one that contains d on the path to d, the others by default
  abbrev pub enter_each_rule : Parts → List ℕ → ℕ → Now → Work (Unit {0})
  enter_each_rule p [] d now = nothing
  enter_each_rule p (x ∷ xs) d now = do
    p.enter x (path_in c.tree x d) now
    p.enter_each xs d now

  -- after the search of a default list: the actions of a firing run, and where none was cut, its destination is entered
  abbrev pub after_default : Parts → ℕ → Now → Found → Work (Unit {0})
  after_default p s now (Fire d actions) = do
    end ← p.play s actions now
    if_done end tt (if_some (child_toward c.tree s d) nothing (λ x. p.enter x d now))
  after_default p s now DeadEnd = nothing
  after_default p s now No = nothing
  after_default p s now Stop = nothing

  -- the default list of an OR is searched while the OR is bare
  abbrev pub default_search : Parts → ℕ → Now → Work (Unit {0})
  default_search p s now = p.search (Bare s) (node c s).default now >>= after_default p s now

  -- a remembered child is entered by default; where there is none, the default list decides
  abbrev pub defaults_rule : Parts → ℕ → Now → Work (Unit {0})
  defaults_rule p s now = do
    x ← look (remembered c s)
    if_some x (default_search p s now) (λ x. p.enter x x now)

  -- ---- taking a firing

  -- A firing with home s and destination d: the active child of s is left; where s is bare then, the actions run; and
  -- where none was cut and s is bare, the destination is entered.
  abbrev pub take_rule : Parts → ℕ → ℕ → List (List Stmt) → Now → Work (Unit {0})
  take_rule p s d actions now = do
    exit_active p s now
    if_bare c.tree s (do
      end ← p.play s actions now
      if_done end tt (if_bare c.tree s (enter_toward p s d now)))

  -- the children: of an OR the active one, if any, of an AND each in order
  abbrev pub process_children : Parts → ℕ → Now → Comp → Work Went
  process_children p s now Leaf = give Stay
  process_children p s now Or = do
    x ← look (λ w. active_child c.tree s w.marks)
    if_some x (give Stay) (λ x. p.process x now >>= from_child s)
  process_children p s now And = p.process_each (children_of c.tree s) now

  -- after the inner list: a firing is taken with the state as its home, and ends the processing
  abbrev pub after_inner : Parts → ℕ → Now → Found → Work Went
  after_inner p s now (Fire d actions) = p.take s d actions now >> give Stay
  after_inner p s now DeadEnd = process_children p s now (comp_of c.tree s)
  after_inner p s now No = process_children p s now (comp_of c.tree s)
  after_inner p s now Stop = give Stay

  -- the during action, and where it wasn't cut, the inner list
  abbrev pub go_on_inside : Parts → ℕ → Now → Work Went
  go_on_inside p s now = do
    end ← p.block (On s) (node c s).during now
    if_done end Stay (do
      of_root s (count_noted k b now) nothing
      p.search (On s) (node c s).inner now >>= after_inner p s now)

  -- after the outer list: a firing is taken with its home, and leads out of the state
  abbrev pub after_outer : Parts → ℕ → Now → Found → Work Went
  after_outer p s now (Fire d actions) =
      p.take (home_of c.tree s Outer d) d actions now >> give (Out (home_of c.tree s Outer d))
  after_outer p s now DeadEnd = go_on_inside p s now
  after_outer p s now No = go_on_inside p s now
  after_outer p s now Stop = give Stay

  -- an active state: first its outer list
  abbrev pub process_rule : Parts → ℕ → Now → Work Went
  process_rule p s now = p.search (On s) (node c s).outer now >>= after_outer p s now

  -- after a region: a firing that led out of it ends the processing of the AND
  abbrev pub after_region : Parts → List ℕ → Now → Went → Work Went
  after_region p xs now Stay = p.process_each xs now
  after_region p xs now (Out h) = give (Out h)

  -- each region that is active when its turn comes
  abbrev pub process_each_rule : Parts → List ℕ → Now → Work Went
  process_each_rule p [] now = give Stay
  process_each_rule p (x ∷ xs) now = do
    on ← test (λ w. is_on x w.marks)
    choose on (p.process x now >>= after_region p xs now) (p.process_each xs now)

  -- ---- all

  -- each piece of work, defined by its rule over the pieces of work that the rules call
  abbrev pub logged_rules : Parts → Parts
  logged_rules p = record {
    block = block_rule p;
    send = send_rule p;
    search = search_rule p;
    exit = exit_rule p;
    exit_each = exit_each_rule p;
    enter = enter_rule p;
    enter_each = enter_each_rule p;
    defaults = defaults_rule p;
    play = play_rule p;
    take = take_rule p;
    process = process_rule p;
    process_each = process_each_rule p;
  }

  -- what derivations of at most a height give: each rule uses parts of a lower height
  abbrev pub logged_upto : ℕ → Parts
  logged_upto zero = no_parts
  logged_upto (suc n) = logged_rules (logged_upto n)
