-- The values of the code as the rules see them.
use Rattle.std.specs.Prelude.{ℕ, ◌==◌, map, if◌then◌else◌}
use Rattle.actions.specs.World as worlds
use Rattle.actions.specs.Work as work
use Rattle.checked_chart.specs.Chart.{Chart}
use Rattle.checked_chart.specs.Kept.{chart_of}
use Rattle.checked_chart.specs.Views.{block_seen}
use Rattle.sos_rules.specs.Parts as rules
use Rattle.sos_rules.specs.Rules.{upto}
use Rattle.sos_interpreter.specs.declared.blocks.End.{End}
use Rattle.sos_interpreter.specs.declared.blocks.End.TheVariants as ends
use Rattle.sos_interpreter.specs.declared.searches.Found.{Found}
use Rattle.sos_interpreter.specs.declared.searches.Found.TheVariants as founds
use Rattle.sos_interpreter.specs.declared.blocks.Now.{Now}
use Rattle.sos_interpreter.specs.declared.processing.Went.{Went}
use Rattle.sos_interpreter.specs.declared.processing.Went.TheVariants as wents
use Rattle.sos_interpreter.specs.declared.setting.Setting.{Setting}
use Rattle.sos_interpreter.specs.declared.world.Life.{Life}
use Rattle.sos_interpreter.specs.declared.world.Life.TheVariants as lives

-- the chart of a setting
abbrev pub chart_in : Setting → Chart
chart_in s = chart_of s.chart.now

-- the rules of a setting, up to a height
abbrev pub rules_in : Setting → ℕ → rules.Parts
rules_in s n = upto (chart_in s) s.bounds n

-- the condition under which a piece of work continues
abbrev pub life_seen : Life → worlds.Life
life_seen (lives.On s) = worlds.On s
life_seen (lives.Bare s) = worlds.Bare s

-- the current event, and how deep it was sent
abbrev pub now_of : Now → work.Now
now_of n = record { event = n.event; depth = n.depth }

-- how a block ends
abbrev pub end_of : End → work.End
end_of ends.Done = work.Done
end_of ends.Cut = work.Cut

-- how processing ends
abbrev pub went_of : Went → rules.Went
went_of wents.Stay = rules.Stay
went_of (wents.Out h) = rules.Out h

-- what a search finds
abbrev pub found_of : Found → rules.Found
found_of (founds.Fire d actions) = rules.Fire d (map (λ a. block_seen a.now) actions.items)
found_of founds.DeadEnd = rules.DeadEnd
found_of founds.No = rules.No
found_of founds.Stop = rules.Stop

-- what becomes of a way out of a child of an OR
abbrev pub went_from : ℕ → ℕ → rules.Went
went_from s h = if h == s then rules.Stay else rules.Out h
