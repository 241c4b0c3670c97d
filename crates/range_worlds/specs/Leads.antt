-- What the calls of the checker say of work: from which worlds it leads to which.
use Rattle.std.specs.Prelude.{◌≡◌, ◌⊎◌, ◌≤◌, ℕ, suc, List, Some, slice_get}
use Rattle.flow_base.specs.declared.bounds.Bounds.{Bounds}
use Rattle.actions.specs.declared.event.Event.{Event}
use Rattle.actions.specs.Work.{Work, Now}
use Rattle.actions.specs.World.{World}
use Rattle.checked_chart.specs.Chart.{Chart}
use Rattle.checked_chart.specs.Kept.{chart_of}
use Rattle.range_worlds.specs.declared.setting.Setting.{Setting}
use Rattle.range_worlds.specs.declared.worlds.Merge.{Merge}
use Rattle.range_rules.specs.declared.cert.Around.{Around}
use Rattle.range_rules.specs.declared.cert.Cell.{Cell}
use Rattle.range_rules.specs.declared.cert.Certificate.{Certificate}
use Rattle.range_rules.specs.Closed.{IsCellRight}
use Rattle.range_rules.specs.Worlds.{Stands, IsAmong, EndsIn}

-- the chart of a setting
abbrev pub chart_in : Setting → Chart
chart_in s = chart_of s.chart.now

-- the certificate of a setting
abbrev pub cert_in : Setting → Certificate
cert_in s = s.cert.now

-- a world of a set
abbrev pub At : Setting → Around → World → Type 0
At s x w = Stands (chart_in s).names (cert_in s) x w

-- a world of one of the sets of a list
abbrev pub Among : Setting → List Around → World → Type 0
Among s xs w = IsAmong (chart_in s).names (cert_in s) xs w

-- each world of the first sets is one of the second
pub record Keeps (s : Setting) (old new : List Around) : Type 0 where
  pub kept : (w : World) → Among s old w → Among s new w

-- a set was put into a list
pub record Adds (s : Setting) (x : Around) (old new : List Around) : Type 0 where
  pub kept : (w : World) → Among s old w → Among s new w
  pub has : (w : World) → At s x w → Among s new w

-- two lists were put together
pub record Unites (s : Setting) (xs ys both : List Around) : Type 0 where
  pub left : (w : World) → Among s xs w → Among s both w
  pub right : (w : World) → Among s ys w → Among s both w

-- the worlds of two sets are among those of a third
pub record Joins (s : Setting) (x y both : Around) : Type 0 where
  pub left : (w : World) → At s x w → At s both w
  pub right : (w : World) → At s y w → At s both w

-- a set was joined with the one at hand, or put to the others
pub record Merges (s : Setting) (y : Around) (old new : Merge) : Type 0 where
  pub own : (w : World) → At s old.own w → At s new.own w
  pub others : (w : World) → Among s old.others.items w → Among s new.others.items w
  pub has : (w : World) → At s y w → At s new.own w ⊎ Among s new.others.items w

-- ---- work

-- work at any bounds, of any height, and at any depth of sends
abbrev pub Works : Type 0 → Type 0
Works A = Bounds → ℕ → ℕ → Work A

-- an event, sent to some depth
abbrev pub now_at : Event → ℕ → Now
now_at event depth = record { event = event; depth = depth }

-- all cells of the certificate are right at each lower height
abbrev pub AreBelow : Setting → Bounds → ℕ → Type 0
AreBelow s b n = (m : ℕ) → suc m ≤ n → (i : ℕ) (cell : Cell) → slice_get (cert_in s).cells.items i ≡ Some cell
    → IsCellRight (chart_in s) b (cert_in s) m cell

-- At all bounds and depths, and at each height below which the cells are right, work that begins in some worlds ends
-- so.
pub record Leads {A : Type 0} (s : Setting) (from : World → Type 0) (work : Works A) (ends : A → World → Type 0) :
    Type 0
  where
    pub leads : (b : Bounds) (n depth : ℕ) (w : World) → AreBelow s b n → from w
        → EndsIn (cert_in s) ends (work b n depth w)

-- so far: a world of all sets is one of those that are left, or work from it ends so
pub record Underway {A : Type 0} (s : Setting) (all left : List Around) (work : Works A) (ends : A → World → Type 0) :
    Type 0
  where
    pub goes : (b : Bounds) (n depth : ℕ) (w : World) → AreBelow s b n → Among s all w
        → Among s left w ⊎ EndsIn (cert_in s) ends (work b n depth w)
