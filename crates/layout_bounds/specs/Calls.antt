-- What the procedures of each kind call: P holds of each procedure that is called.
use Rattle.std.specs.Prelude.{◌≡◌, ◌≢◌, ℕ, List, [], ◌∷◌, Some, IfSome}
use Rattle.active_config.specs.Tree.{Tree, parent_of}
use Rattle.checked_chart.specs.declared.parts.Dest.{Dest}
use Rattle.checked_chart.specs.declared.parts.Dest.TheVariants.{State, Junction}
use Rattle.checked_chart.specs.declared.parts.ListKind.TheVariants.{Outer, Inner, Default}
use Rattle.checked_chart.specs.Chart.{Trans}
use Rattle.chart_code.specs.Kinds.{IsPath}
use Rattle.chart_code.specs.ListProcedures.{Search}
use Rattle.chart_code.specs.Numbers.{Numbers, TransNumbers, condition_of, first_of_parts, other_parts}

-- ---- procedures of states

module _ (t : Tree) (N : Numbers) (P : ℕ → Type 0) where
  -- leaving a state exits its children
  abbrev pub LeaveCalls : ℕ → Type 0
  LeaveCalls s = (x : ℕ) → parent_of t x ≡ Some s → P (N.exit x)

  -- exiting it leaves it, and then runs its exit action
  pub record ExitCalls (s : ℕ) : Type 0 where
    pub leave : P (N.leave s)
    pub exit_action : P (N.exit_action s)

  -- entering it runs its entry action, and then enters it by default or its children on some path
  pub record EnterCalls (s : ℕ) : Type 0 where
    pub entry : P (N.entry s)
    pub defaults : P (N.defaults s)
    pub child : (x d : ℕ) → parent_of t x ≡ Some s → IsPath t x d → P (N.enter x d)

  -- entering it by default searches its default list, or enters a child by default
  pub record DefaultsCalls (s : ℕ) : Type 0 where
    pub search : P (N.search s Default)
    pub child : (x : ℕ) → parent_of t x ≡ Some s → P (N.enter x x)

  -- arriving in s with destination d enters s by default where it is d, and else a child on the path to d
  pub record ArriveCalls (s d : ℕ) : Type 0 where
    pub defaults : s ≡ d → P (N.defaults s)
    pub child : (x : ℕ) → s ≢ d → parent_of t x ≡ Some s → IsPath t x d → P (N.enter x d)

  -- a firing with home s leaves s and arrives in it
  pub record TakeCalls (s d : ℕ) : Type 0 where
    pub leave : P (N.leave s)
    pub arrive : P (N.arrive s d)

  -- processing a state searches its outer list, runs its during action, searches its inner list, and processes its
  -- children
  pub record ProcessCalls (s : ℕ) : Type 0 where
    pub outer : P (N.search s Outer)
    pub during : P (N.during s)
    pub inner : P (N.search s Inner)
    pub child : (x : ℕ) → parent_of t x ≡ Some s → P (N.process x)

-- ---- lists

-- what is known of each transition of a list and of its numbers
abbrev pub EachTrans : (Trans → TransNumbers → Type 0) → List Trans → List TransNumbers → Type 0
EachTrans R [] qs = Unit {0}
EachTrans R (t ∷ ts) qs = R t (first_of_parts qs) × EachTrans R ts (other_parts qs)

module _ (S : Search) (P : ℕ → Type 0) where
  -- where a transition leads to a state, its firing is called
  abbrev pub FiringCalls : Dest → Type 0
  FiringCalls (State d) = P (S.fire d)
  FiringCalls (Junction j) = Unit {0}

  -- a transition calls its guard, its condition action and its firing
  pub record TransCalls (t : Trans) (q : TransNumbers) : Type 0 where
    pub guard : IfSome q.guard P
    pub condition : IfSome (condition_of S.kind q) P
    pub firing : FiringCalls t.dest

  -- a list calls what its transitions call
  abbrev pub ListCalls : List Trans → List TransNumbers → Type 0
  ListCalls ts qs = EachTrans TransCalls ts qs

-- what transitions name beside what they call: Q holds of the procedures that they note and of those of junctions that
-- they visit
module _ (S : Search) (Q : ℕ → Type 0) where
  -- where a transition leads to a junction, its procedure is visited
  abbrev pub JunctionVisits : Dest → Type 0
  JunctionVisits (State d) = Unit {0}
  JunctionVisits (Junction j) = Q (S.junction j)

  -- a transition notes its action, and visits a junction
  pub record TransNames (t : Trans) (q : TransNumbers) : Type 0 where
    pub action : IfSome q.action Q
    pub junction : JunctionVisits t.dest

  -- a list names what its transitions name
  abbrev pub ListNames : List Trans → List TransNumbers → Type 0
  ListNames ts qs = EachTrans TransNames ts qs
