-- The rules for leaving states, for entering them, and for taking a firing.
use Rattle.std.specs.Prelude.{◌==◌, ℕ, List, [], ◌∷◌, reverse, Option, Bool, true, false}
use Rattle.std.specs.List.{find}
use Rattle.active_config.specs.declared.comp.Comp.{Comp}
use Rattle.active_config.specs.declared.comp.Comp.TheVariants.{Leaf, Or, And}
use Rattle.active_config.specs.Marks.{is_on, is_bare, active_child, can_mark, is_last}
use Rattle.active_config.specs.Tree.{Tree, comp_of, children_of}
use Rattle.actions.specs.Exprs.{Stmt}
use Rattle.actions.specs.World.{World, Bare}
use Rattle.actions.specs.Changes.{set_mark, keep_in}
use Rattle.actions.specs.Work.{Work, ◌>>=◌, ◌>>◌, nothing, test, look, change, choose, if_some, if_done, Now}
use Rattle.checked_chart.specs.Chart.{Chart, node, is_remembered, may_return}
use Rattle.checked_chart.specs.Homes.{child_toward, path_in}
use Rattle.sos_rules.specs.Parts.{Found, Fire, DeadEnd, No, Stop, Parts}

-- a parent with history remembers the state
abbrev pub keep_if : Bool → Tree → ℕ → World → World
keep_if true t s w = keep_in t s w
keep_if false t s w = w

-- a state becomes active, and a parent with history remembers it
unfoldable pub entered_in : Chart → ℕ → World → World
entered_in c s w = keep_if (is_remembered c s) c.tree s (set_mark s true w)

-- work that is done where a state is bare
abbrev pub if_bare : Tree → ℕ → Work (Unit {0}) → Work (Unit {0})
if_bare t s m = do
  bare ← test (λ w. is_bare t s w.marks)
  choose bare m nothing

module _ (c : Chart) where
  -- ---- leaving

  -- the active child of a state is left, if there is one
  abbrev pub exit_active : Parts → ℕ → Now → Work (Unit {0})
  exit_active p s now = do
    x ← look (λ w. active_child c.tree s w.marks)
    if_some x nothing (λ x. p.exit x now)

  -- an AND's children are left in reverse order, and of an OR the active one
  abbrev pub exit_children : Parts → ℕ → Now → Comp → Work (Unit {0})
  exit_children p s now Leaf = nothing
  exit_children p s now Or = exit_active p s now
  exit_children p s now And = p.exit_each (reverse (children_of c.tree s)) now

  -- An active state is left: first its children, then its exit action runs while it is bare, and where that wasn't cut
  -- and the state is bare, it becomes inactive.
  abbrev pub exit_rule : Parts → ℕ → Now → Work (Unit {0})
  exit_rule p s now = do
    on ← test (λ w. is_on s w.marks)
    choose on (do
      exit_children p s now (comp_of c.tree s)
      if_bare c.tree s (do
        end ← p.block (Bare s) (node c s).exit now
        if_done end tt (if_bare c.tree s (change (set_mark s false))))) nothing

  -- states are left one after another
  abbrev pub exit_each_rule : Parts → List ℕ → Now → Work (Unit {0})
  exit_each_rule p [] now = nothing
  exit_each_rule p (x ∷ xs) now = do
    p.exit x now
    p.exit_each xs now

  -- ---- entering

  -- enters what is inside s on the path to d, which is s or a state below it: by default where d is s, else the child
  -- towards d
  abbrev pub enter_toward : Parts → ℕ → ℕ → Now → Work (Unit {0})
  enter_toward p s d now =
      choose (s == d) (p.defaults s now) (if_some (child_toward c.tree s d) nothing (λ x. p.enter x d now))

  -- below a state that was entered: an OR enters one child, an AND all of them in order
  abbrev pub enter_inside : Parts → ℕ → ℕ → Now → Comp → Work (Unit {0})
  enter_inside p s d now Leaf = nothing
  enter_inside p s d now Or = enter_toward p s d now
  enter_inside p s d now And = p.enter_each (children_of c.tree s) d now

  -- A state that can become active does so, and its parent remembers it where the parent has history. Then its entry
  -- action runs while it is bare, and where that wasn't cut, what is inside is entered.
  abbrev pub enter_rule : Parts → ℕ → ℕ → Now → Work (Unit {0})
  enter_rule p s d now = do
    can ← test (λ w. can_mark c.tree s w.marks)
    choose can (do
      change (entered_in c s)
      end ← p.block (Bare s) (node c s).entry now
      if_done end tt (enter_inside p s d now (comp_of c.tree s))) nothing

  -- regions are entered one after another, the one that contains d on the path to d, the others by default
  abbrev pub enter_each_rule : Parts → List ℕ → ℕ → Now → Work (Unit {0})
  enter_each_rule p [] d now = nothing
  enter_each_rule p (x ∷ xs) d now = do
    p.enter x (path_in c.tree x d) now
    p.enter_each xs d now

  -- after the search of a default list: the actions of a firing run, and where none was cut, its destination is entered
  abbrev pub after_default : Parts → ℕ → Now → Found → Work (Unit {0})
  after_default p s now (Fire d actions) = do
    end ← p.play s actions now
    if_done end tt (if_some (child_toward c.tree s d) nothing (λ x. p.enter x d now))
  after_default p s now DeadEnd = nothing
  after_default p s now No = nothing
  after_default p s now Stop = nothing

  -- the default list of an OR is searched while the OR is bare
  abbrev pub default_search : Parts → ℕ → Now → Work (Unit {0})
  default_search p s now = p.search (Bare s) (node c s).default now >>= after_default p s now

  -- the child that a state with history remembers, if any
  abbrev pub remembered : ℕ → World → Option ℕ
  remembered s w = find (λ x. is_last c.tree x w.marks) (may_return c s)

  -- a remembered child is entered by default; where there is none, the default list decides
  abbrev pub defaults_rule : Parts → ℕ → Now → Work (Unit {0})
  defaults_rule p s now = do
    x ← look (remembered s)
    if_some x (default_search p s now) (λ x. p.enter x x now)

  -- ---- taking a firing

  -- A firing with home s and destination d: the active child of s is left; where s is bare then, the actions run; and
  -- where none was cut and s is bare, the destination is entered.
  abbrev pub take_rule : Parts → ℕ → ℕ → List (List Stmt) → Now → Work (Unit {0})
  take_rule p s d actions now = do
    exit_active p s now
    if_bare c.tree s (do
      end ← p.play s actions now
      if_done end tt (if_bare c.tree s (enter_toward p s d now)))
