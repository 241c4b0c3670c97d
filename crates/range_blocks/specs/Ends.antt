-- Where pieces of work may end, as lists of sets of worlds.
use Rattle.std.specs.Prelude.{ℕ, zero, suc}
use Rattle.flow_base.specs.declared.bounds.Bounds.{Bounds}
use Rattle.actions.specs.World as worlds
use Rattle.actions.specs.World.{World}
use Rattle.actions.specs.Work.{Unfinished, End, Done, Cut}
use Rattle.sos_rules.specs.Parts.{Parts}
use Rattle.sos_rules.specs.Rules.{upto}
use Rattle.range_blocks.specs.declared.blocks.Ran.{Ran}
use Rattle.range_blocks.specs.declared.life.Life.{Life}
use Rattle.range_blocks.specs.declared.life.Life.TheVariants as lives
use Rattle.range_worlds.specs.declared.configs.Test.{Test}
use Rattle.range_worlds.specs.declared.configs.Test.TheVariants as tests
use Rattle.range_worlds.specs.declared.setting.Setting.{Setting}
use Rattle.range_worlds.specs.Leads.{Works, Among, chart_in}

-- the rules of the chart of a setting, up to a height
abbrev pub rules_in : Setting → Bounds → ℕ → Parts
rules_in s b n = upto (chart_in s) b n

-- work one height lower: the cells say of that what a sent event leads to
abbrev pub lower : {A : Type 0} → Works A → Works A
lower work b zero depth = λ _. Unfinished
lower work b (suc n) depth = work b n depth

-- the condition under which a piece of work goes on
abbrev pub life_of : Life → worlds.Life
life_of (lives.On s) = worlds.On s
life_of (lives.Bare s) = worlds.Bare s

-- the same as a test of a configuration
abbrev pub test_of : Life → Test
test_of (lives.On s) = tests.On s
test_of (lives.Bare s) = tests.Bare s

-- where all of a block was run, and where it was cut
abbrev pub ran_ends : Setting → Ran → End → World → Type 0
ran_ends s r Done w = Among s r.done.items w
ran_ends s r Cut w = Among s r.cut.items w
