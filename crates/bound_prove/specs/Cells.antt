-- The cells of a certificate, and which certificate is good.
use Rattle.std.specs.Prelude.{ℕ, List, [], ◌∷◌, if◌then◌else◌}
use Rattle.active_config.specs.declared.comp.Comp.{Comp}
use Rattle.active_config.specs.declared.comp.Comp.TheVariants.{Leaf, Or, And}
use Rattle.active_config.specs.Tree.{comp_of, children_of}
use Rattle.actions.specs.declared.event.Event.{Event}
use Rattle.actions.specs.declared.event.Event.TheVariants.{Named}
use Rattle.actions.specs.Exprs.{Stmt, Assign, Send, SendTo, Emit}
use Rattle.checked_chart.specs.declared.parts.Dest.{Dest}
use Rattle.checked_chart.specs.declared.parts.Dest.TheVariants.{State, Junction}
use Rattle.checked_chart.specs.declared.parts.ListKind.TheVariants.{Outer, Inner}
use Rattle.checked_chart.specs.Chart.{Chart, Trans, node, junction}
use Rattle.checked_chart.specs.Homes.{home_of}
use Rattle.sos_rules.specs.Searches.{event_fits}
use Rattle.bound_prove.specs.declared.need.Need.{Need}
use Rattle.bound_prove.specs.declared.need.Part.{Part}
use Rattle.bound_prove.specs.declared.need.Part.TheVariants as parts
use Rattle.bound_prove.specs.Needs.{nothing_needed, one_step, in_turn, sent, all_of, one_of, Covers}
use Rattle.bound_prove.specs.Reaches.{Reaches}

-- for each event, and each junction or state, the need of a part
abbrev pub Cells : Type 0
Cells = Event → Part → ℕ → Need

-- a statement
abbrev pub stmt_need : Cells → Stmt → Need
stmt_need g (Assign v x) = nothing_needed
stmt_need g (Emit o) = one_step
stmt_need g (Send e) = sent (g (Named e) parts.Process 0)
stmt_need g (SendTo e s) = sent (g (Named e) parts.Process s)

-- an action: its statements in turn
abbrev pub block_need : Cells → List Stmt → Need
block_need g [] = nothing_needed
block_need g (x ∷ rest) = in_turn (stmt_need g x) (block_need g rest)

-- a transition action: one step more where it isn't empty
abbrev pub action_need : Cells → List Stmt → Need
action_need g [] = nothing_needed
action_need g (x ∷ rest) = in_turn one_step (block_need g (x ∷ rest))

module _ (g : Cells) (e : Event) where
  -- where a transition leads: a visit of a junction costs one step
  abbrev pub dest_need : Dest → Need
  dest_need (State d) = nothing_needed
  dest_need (Junction j) = in_turn one_step (g e parts.Junction j)

  -- a transition: its condition action, its transition action, and where it leads
  abbrev pub trans_need : Trans → Need
  trans_need t = in_turn (block_need g t.condition) (in_turn (action_need g t.action) (dest_need t.dest))

  -- a transition of a list, which counts where it has no event or the current one
  abbrev pub fit_need : Trans → Need
  fit_need t = if event_fits t.event e then trans_need t else nothing_needed

  -- a list: its transitions in turn
  abbrev pub list_need : List Trans → Need
  list_need [] = nothing_needed
  list_need (t ∷ rest) = in_turn (fit_need t) (list_need rest)

module _ (c : Chart) (g : Cells) (e : Event) where
  -- a part of the children of a state: of an OR that of one, of an AND that of all in turn
  abbrev pub children_need : Part → ℕ → Comp → Need
  children_need part s Leaf = nothing_needed
  children_need part s Or = one_of (g e part) (children_of c.tree s)
  children_need part s And = all_of (g e part) (children_of c.tree s)

  -- a state is left
  abbrev pub exit_need : ℕ → Need
  exit_need s = in_turn (block_need g (node c s).exit) (children_need parts.Exit s (comp_of c.tree s))

  -- a state is entered
  abbrev pub enter_need : ℕ → Need
  enter_need s =
      in_turn (block_need g (node c s).entry)
      (in_turn (list_need g e (node c s).default) (children_need parts.Enter s (comp_of c.tree s)))

  -- what processing a state begins with, and what then follows: its outer list, its during action, its inner list
  abbrev pub process_need : ℕ → Need → Need
  process_need s last =
      in_turn (list_need g e (node c s).outer)
      (in_turn (block_need g (node c s).during) (in_turn (list_need g e (node c s).inner) last))

  -- a firing with home s: its default list, the exit of one child, and the entry of one
  abbrev pub firing_need : ℕ → Need
  firing_need s =
      in_turn (list_need g e (node c s).default)
      (in_turn (one_of (g e parts.Exit) (children_of c.tree s)) (one_of (g e parts.Enter) (children_of c.tree s)))

-- What a cell is to cover: the list of the junction; the exit of the state; its entry; or one way in which processing
-- it may go, which ends with its children, or with a firing from its outer or its inner list to a state that the list
-- reaches.
pub data Demands (c : Chart) (g : Cells) (e : Event) : Part → ℕ → Need → Type 0 where
  OfList : (j : ℕ) → Demands c g e parts.Junction j (list_need g e (junction c j))
  OfExit : (s : ℕ) → Demands c g e parts.Exit s (exit_need c g e s)
  OfEntry : (s : ℕ) → Demands c g e parts.Enter s (enter_need c g e s)
  OfChildren : (s : ℕ) → Demands c g e parts.Process s
      (process_need c g e s (children_need c g e parts.Process s (comp_of c.tree s)))
  OfOuter : (s d : ℕ) → Reaches c e (node c s).outer d → Demands c g e parts.Process s
      (process_need c g e s (firing_need c g e (home_of c.tree s Outer d)))
  OfInner : (s d : ℕ) → Reaches c e (node c s).inner d → Demands c g e parts.Process s
      (process_need c g e s (firing_need c g e (home_of c.tree s Inner d)))

-- a certificate is good where each cell covers all that it is to cover
abbrev pub IsGood : Chart → Cells → Type 0
IsGood c g = (e : Event) (part : Part) (i : ℕ) (n : Need) → Demands c g e part i n → Covers (g e part i) n
