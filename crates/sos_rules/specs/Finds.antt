-- What searches of a valid chart find.
use Rattle.std.specs.Prelude.{◌<◌, List}
use Rattle.std.specs.List.{AllByRecursion}
use Rattle.active_config.specs.Tree.{state_count}
use Rattle.actions.specs.Exprs.{Stmt}
use Rattle.checked_chart.specs.Chart.{Chart}
use Rattle.checked_chart.specs.Valid.{AreStmts}
use Rattle.actions.specs.Work.{Run, Ended, Faulted, Unfinished}
use Rattle.sos_rules.specs.Parts.{Found, Fire, DeadEnd, No, Stop}

-- a destination was found, or the search was stopped by an early return
abbrev pub IsFind : Found → Type 0
IsFind (Fire d actions) = Unit {0}
IsFind DeadEnd = ⊥
IsFind No = ⊥
IsFind Stop = Unit {0}

-- a search that ended without a fault found a state or was stopped
abbrev pub Finds : Run Found → Type 0
Finds (Ended f w) = IsFind f
Finds (Faulted x w) = Unit {0}
Finds Unfinished = Unit {0}

-- transition actions of a chart on a path
abbrev pub AreActions : Chart → List (List Stmt) → Type 0
AreActions c actions = AllByRecursion (AreStmts c) actions

-- what a search of a valid chart's lists finds: the destination is a state, and the actions are the chart's
abbrev pub IsFound : Chart → Found → Type 0
IsFound c (Fire d actions) = (d < state_count c.tree) × AreActions c actions
IsFound c DeadEnd = Unit {0}
IsFound c No = Unit {0}
IsFound c Stop = Unit {0}
