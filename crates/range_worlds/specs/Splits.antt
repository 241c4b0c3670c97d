-- What is asked of configurations, and how they change.
use Rattle.std.specs.Prelude.{◌≡◌, ◌⊎◌, ℕ, Bool, true, false, List}
use Rattle.active_config.specs.Marks.{Configuration, is_on, is_bare, can_mark, is_last, with_mark, with_last}
use Rattle.active_config.specs.Tree.{Tree}
use Rattle.actions.specs.Changes.{set_mark}
use Rattle.actions.specs.World.{World}
use Rattle.checked_chart.specs.Chart.{Chart, is_remembered}
use Rattle.sos_rules.specs.Moves.{entered_in}
use Rattle.range_worlds.specs.declared.configs.Test.{Test}
use Rattle.range_worlds.specs.declared.configs.Test.TheVariants.{On, Bare, CanMark, Last}
use Rattle.range_worlds.specs.declared.configs.Change.{Change}
use Rattle.range_worlds.specs.declared.configs.Change.TheVariants.{Clear, Enter}
use Rattle.range_worlds.specs.declared.setting.Setting.{Setting}
use Rattle.range_worlds.specs.declared.worlds.Parted.{Parted}
use Rattle.range_worlds.specs.Leads.{chart_in, At, Among}
use Rattle.range_rules.specs.declared.cert.Around.{Around}

-- a configuration passes a test
abbrev pub passes : Tree → Test → Configuration → Bool
passes t (On s) marks = is_on s marks
passes t (Bare s) marks = is_bare t s marks
passes t (CanMark s) marks = can_mark t s marks
passes t (Last s) marks = is_last t s marks

-- where a parent with history remembers the state
abbrev pub marks_kept : Bool → Tree → ℕ → Configuration → Configuration
marks_kept true t s marks = with_last t s marks
marks_kept false t s marks = marks

-- where a state became active
abbrev pub entered_marks : Chart → ℕ → Configuration → Configuration
entered_marks c s marks = marks_kept (is_remembered c s) c.tree s (with_mark s true marks)

-- a changed configuration
abbrev pub turned : Chart → Change → Configuration → Configuration
turned c (Clear s) marks = with_mark s false marks
turned c (Enter s) marks = entered_marks c s marks

-- the change of a world
abbrev pub turn : Chart → Change → World → World
turn c (Clear s) w = set_mark s false w
turn c (Enter s) w = entered_in c s w

-- of the worlds of some sets those that pass a test are in the first sets, and the others in the second
pub record Splits (s : Setting) (test : Test) (xs yes no : List Around) : Type 0 where
  pub split : (w : World) → Among s xs w
      → ((passes (chart_in s).tree test w.marks ≡ true) × Among s yes w)
      ⊎ ((passes (chart_in s).tree test w.marks ≡ false) × Among s no w)

-- a set was put to those that pass a test, or to the others
pub record Sorts (s : Setting) (x : Around) (passed : Bool) (old new : Parted) : Type 0 where
  pub yes : (w : World) → Among s old.yes.items w → Among s new.yes.items w
  pub no : (w : World) → Among s old.no.items w → Among s new.no.items w
  pub passes : passed ≡ true → (w : World) → At s x w → Among s new.yes.items w
  pub fails : passed ≡ false → (w : World) → At s x w → Among s new.no.items w
