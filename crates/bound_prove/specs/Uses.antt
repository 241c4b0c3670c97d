-- Which cells a cell looks up: P holds of each of them.
use Rattle.std.specs.Prelude.{◌≡◌, ℕ, List, true}
use Rattle.std.specs.List.{AllByRecursion}
use Rattle.active_config.specs.declared.comp.Comp.{Comp}
use Rattle.active_config.specs.declared.comp.Comp.TheVariants.{Leaf, Or, And}
use Rattle.active_config.specs.Tree.{comp_of, children_of}
use Rattle.actions.specs.declared.event.Event.{Event}
use Rattle.actions.specs.declared.event.Event.TheVariants.{Named}
use Rattle.actions.specs.Exprs.{Stmt, Assign, Send, SendTo, Emit}
use Rattle.checked_chart.specs.declared.parts.Dest.{Dest}
use Rattle.checked_chart.specs.declared.parts.Dest.TheVariants.{State, Junction}
use Rattle.checked_chart.specs.declared.parts.ListKind.TheVariants.{Outer, Inner}
use Rattle.checked_chart.specs.Chart.{Chart, Trans, node, junction}
use Rattle.checked_chart.specs.Homes.{home_of}
use Rattle.sos_rules.specs.Searches.{event_fits}
use Rattle.bound_prove.specs.declared.need.Part.{Part}
use Rattle.bound_prove.specs.declared.need.Part.TheVariants as parts
use Rattle.bound_prove.specs.Reaches.{Reaches}

-- a property of cells
abbrev pub OfCells : Type 1
OfCells = Event → Part → ℕ → Type 0

-- a statement looks up what an event that it sends does
abbrev pub StmtUses : OfCells → Stmt → Type 0
StmtUses P (Assign v x) = Unit {0}
StmtUses P (Emit o) = Unit {0}
StmtUses P (Send e) = P (Named e) parts.Process 0
StmtUses P (SendTo e s) = P (Named e) parts.Process s

-- each of its statements does
abbrev pub BlockUses : OfCells → List Stmt → Type 0
BlockUses P block = AllByRecursion (StmtUses P) block

module _ (P : OfCells) (e : Event) where
  -- a transition to a junction looks up the junction
  abbrev pub DestUses : Dest → Type 0
  DestUses (State d) = Unit {0}
  DestUses (Junction j) = P e parts.Junction j

  -- a transition that has no event or the current one
  abbrev pub TransUses : Trans → Type 0
  TransUses t = event_fits t.event e ≡ true → BlockUses P t.condition × BlockUses P t.action × DestUses t.dest

  -- a list
  abbrev pub ListUses : List Trans → Type 0
  ListUses list = AllByRecursion TransUses list

module _ (c : Chart) (P : OfCells) (e : Event) where
  -- a part of the children of a state
  abbrev pub ChildrenUse : Part → ℕ → Comp → Type 0
  ChildrenUse part s Leaf = Unit {0}
  ChildrenUse part s Or = AllByRecursion (P e part) (children_of c.tree s)
  ChildrenUse part s And = AllByRecursion (P e part) (children_of c.tree s)

  -- a firing with home s
  abbrev pub FiringUses : ℕ → Type 0
  FiringUses s =
      ListUses P e (node c s).default × AllByRecursion (P e parts.Exit) (children_of c.tree s)
      × AllByRecursion (P e parts.Enter) (children_of c.tree s)

  -- a state that is processed
  pub record ProcessUses (s : ℕ) : Type 0 where
    pub outer : ListUses P e (node c s).outer
    pub during : BlockUses P (node c s).during
    pub inner : ListUses P e (node c s).inner
    pub children : ChildrenUse parts.Process s (comp_of c.tree s)
    pub outer_firings : (d : ℕ) → Reaches c e (node c s).outer d → FiringUses (home_of c.tree s Outer d)
    pub inner_firings : (d : ℕ) → Reaches c e (node c s).inner d → FiringUses (home_of c.tree s Inner d)

  -- a cell
  abbrev pub Uses : Part → ℕ → Type 0
  Uses parts.Junction j = ListUses P e (junction c j)
  Uses parts.Exit s = BlockUses P (node c s).exit × ChildrenUse parts.Exit s (comp_of c.tree s)
  Uses parts.Enter s =
      BlockUses P (node c s).entry × ListUses P e (node c s).default × ChildrenUse parts.Enter s (comp_of c.tree s)
  Uses parts.Process s = ProcessUses s
