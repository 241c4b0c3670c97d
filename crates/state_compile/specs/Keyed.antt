-- The procedures of the layout that one loop appends, by what they are of.
use Rattle.std.specs.Prelude.{ℕ, List}
use Rattle.checked_chart.specs.Chart.{Chart}
use Rattle.chart_code.specs.Keys as keys
use Rattle.chart_code.specs.Keys.{Key}
use Rattle.state_compile.specs.declared.regions.StateKeys.{StateKeys}
use Rattle.state_compile.specs.declared.regions.StateKeys.TheVariants.{Actions, Parts, Group, Lists, Process}
use Rattle.state_compile.specs.declared.pairs.PairKey.{PairKey}
use Rattle.state_compile.specs.declared.pairs.PairKey.TheVariants as pairs

-- the procedures that are appended together for a state
abbrev pub keys_of : Chart → StateKeys → ℕ → List Key
keys_of c Actions = keys.action_keys_of
keys_of c Parts = keys.state_parts_keys c
keys_of c Group = keys.group_keys c
keys_of c Lists = keys.lists_keys c
keys_of c Process = keys.process_keys

-- the procedure of a state for a state at or below it
abbrev pub pair_key : PairKey → ℕ → ℕ → Key
pair_key pairs.Arrive = keys.Arrive
pair_key pairs.Take = keys.Take
pair_key pairs.Enter = keys.Enter
