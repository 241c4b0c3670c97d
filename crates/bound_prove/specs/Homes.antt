-- The homes of the firings from a list, as a walk through its junctions finds them.
use Rattle.std.specs.Prelude.{◌≡◌, ◌≤◌, ◌<◌, ◌+◌, ◌⊎◌, ◌==◌, ℕ, List, [], ◌∷◌}
use Rattle.std.specs.Prelude.{Bool, true, false, length, slice_index, Contains}
use Rattle.std.specs.List.{AllByRecursion}
use Rattle.active_config.specs.Tree.{state_count}
use Rattle.actions.specs.declared.event.Event.{Event}
use Rattle.sos_rules.specs.Searches.{event_fits}
use Rattle.checked_chart.specs.declared.parts.Dest.{Dest}
use Rattle.checked_chart.specs.declared.parts.Dest.TheVariants.{State, Junction}
use Rattle.checked_chart.specs.declared.parts.ListKind.{ListKind}
use Rattle.checked_chart.specs.Chart.{Chart, Trans, list_of, junction, junction_count}
use Rattle.checked_chart.specs.Homes.{home_of}
use Rattle.bound_prove.specs.declared.homes.Marks.{Marks}
use Rattle.bound_prove.specs.Reaches.{Reaches}

-- marks for the junctions of a chart, none from a walk to come
pub record AreMarksFor (c : Chart) (m : Marks) : Type 0 where
  pub sized : length m.walks.items ≡ junction_count c
  pub below : (j : ℕ) → slice_index m.walks.items j ≤ m.stamp

-- that many junctions, which no walk met
pub record AreNoWalks (junctions : ℕ) (walks : List ℕ) : Type 0 where
  pub sized : length walks ≡ junctions
  pub none : (j : ℕ) → slice_index walks j ≡ 0

-- a walk begins: no junction has its mark
pub record IsFresh (c : Chart) (m : Marks) : Type 0 where
  pub sized : length m.walks.items ≡ junction_count c
  pub below : (j : ℕ) → slice_index m.walks.items j < m.stamp
  pub todo : m.todo.items ≡ []
  pub homes : m.homes.items ≡ []

-- the walk met the junction
abbrev pub IsMarked : Marks → ℕ → Type 0
IsMarked m j = slice_index m.walks.items j ≡ m.stamp

-- whether a junction is still without the mark, as a number
abbrev pub one_if_not : Bool → ℕ
one_if_not true = 0
one_if_not false = 1

-- how many junctions are without the mark
abbrev pub unmarked : ℕ → List ℕ → ℕ
unmarked stamp [] = 0
unmarked stamp (w ∷ ws) = one_if_not (w == stamp) + unmarked stamp ws

module _ (c : Chart) (e : Event) (s : ℕ) (kind : ListKind) where
  -- the home of a firing to a state that the list reaches
  pub record IsHome (h : ℕ) : Type 0 where
    pub dest : ℕ
    pub reached : Reaches c e (list_of c s kind) dest
    pub home : home_of c.tree s kind dest ≡ h
    pub within : h < state_count c.tree

  -- exactly the homes of the firings to states that the list reaches
  pub record AreHomes (homes : List ℕ) : Type 0 where
    pub right : AllByRecursion IsHome homes
    pub all : (d : ℕ) → Reaches c e (list_of c s kind) d → Contains homes (home_of c.tree s kind d)

  -- a list reaches nothing that the list of the state doesn't
  abbrev pub IsPart : List Trans → Type 0
  IsPart list = (d : ℕ) → Reaches c e list d → Reaches c e (list_of c s kind) d

  -- a junction whose list is to be followed
  pub record IsToFollow (j : ℕ) : Type 0 where
    pub within : j < junction_count c
    pub part : IsPart (junction c j)

  -- what may be met at the end of a transition
  abbrev pub MayMeet : Dest → Type 0
  MayMeet (State d) = Reaches c e (list_of c s kind) d
  MayMeet (Junction j) = IsPart (junction c j)

  -- what a transition leads to is met: the junction has the mark, or the home of the state is known
  abbrev pub IsDestMet : Marks → Dest → Type 0
  IsDestMet m (State d) = Contains m.homes.items (home_of c.tree s kind d)
  IsDestMet m (Junction j) = IsMarked m j

  -- a transition whose event is the current one was followed
  abbrev pub IsFollowed : Marks → Trans → Type 0
  IsFollowed m t = event_fits t.event e ≡ true → IsDestMet m t.dest

  -- The walk went on: nothing that was met is lost, what is new is right, and each newly marked junction is to be
  -- followed.
  pub record GoesOn (old new : Marks) : Type 0 where
    pub stamp : new.stamp ≡ old.stamp
    pub sized : length new.walks.items ≡ length old.walks.items
    pub below : ((j : ℕ) → slice_index old.walks.items j ≤ old.stamp) → (j : ℕ)
        → slice_index new.walks.items j ≤ new.stamp
    pub marked : (j : ℕ) → IsMarked old j → IsMarked new j
    pub newly : (j : ℕ) → IsMarked new j → IsMarked old j ⊎ Contains new.todo.items j
    pub todo : (j : ℕ) → Contains old.todo.items j → Contains new.todo.items j
    pub homes : (h : ℕ) → Contains old.homes.items h → Contains new.homes.items h
    pub todo_right : AllByRecursion IsToFollow old.todo.items → AllByRecursion IsToFollow new.todo.items
    pub homes_right : AllByRecursion IsHome old.homes.items → AllByRecursion IsHome new.homes.items
    pub left : length new.todo.items + unmarked new.stamp new.walks.items
        ≡ length old.todo.items + unmarked old.stamp old.walks.items
