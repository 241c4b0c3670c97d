-- How high the procedure of each kind is at most, by how many levels may lie below its state.
use Rattle.std.specs.Prelude.{◌==◌, ◌+◌, ◌-◌, ◌*◌, ℕ, length, if◌then◌else◌}
use Rattle.flow_base.specs.declared.chart_limits.TheConstants.{STATE_DEPTH_LIMIT}
use Rattle.active_config.specs.Tree.{Tree, ancestors}
use Rattle.checked_chart.specs.declared.parts.ListKind.{ListKind}
use Rattle.checked_chart.specs.declared.parts.ListKind.TheVariants.{Outer, Inner, Default}
use Rattle.chart_code.specs.Keys.{Key, EndMark, Entry, During, ExitAction, Guard, ConditionOn, ConditionBare, Action}
use Rattle.chart_code.specs.Keys.{Leave, Exit, Arrive, ListOf, JunctionOf, Defaults, Take, Enter, Process}

-- how many levels may lie below a state: the greatest depth less its own
unfoldable pub rank : Tree → ℕ → ℕ
rank t s = STATE_DEPTH_LIMIT - length (ancestors t s)

-- a list of a state: an outer or an inner list fires with any home, a default list arrives below the state
abbrev pub search_height : Tree → ℕ → ListKind → ℕ
search_height t s Outer = 4 * STATE_DEPTH_LIMIT + 6
search_height t s Inner = 4 * STATE_DEPTH_LIMIT + 6
search_height t s Default = 4 * rank t s + 2

-- what no procedure of a kind is higher than: the end mark, the actions of a state and the parts of a transition call
-- nothing; arriving at a state itself enters it by default, and arriving below it enters a child; a junction is as high
-- as a list
abbrev pub height_bound : Tree → Key → ℕ
height_bound t EndMark = 0
height_bound t (Entry s) = 0
height_bound t (During s) = 0
height_bound t (ExitAction s) = 0
height_bound t (Guard e) = 0
height_bound t (ConditionOn ss) = 0
height_bound t (ConditionBare ss) = 0
height_bound t (Action ss) = 0
height_bound t (Leave s) = 2 * rank t s
height_bound t (Exit s) = 2 * rank t s + 1
height_bound t (Arrive s d) = if s == d then 4 * rank t s + 4 else 4 * rank t s + 1
height_bound t (ListOf s kind) = search_height t s kind
height_bound t (JunctionOf s kind j) = search_height t s kind
height_bound t (Defaults s) = 4 * rank t s + 3
height_bound t (Take s d) = 4 * rank t s + 5
height_bound t (Enter s d) = 4 * rank t s + 4
height_bound t (Process s) = 4 * STATE_DEPTH_LIMIT + 7 + rank t s
