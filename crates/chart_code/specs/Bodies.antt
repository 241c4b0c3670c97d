-- The instructions of each procedure, and the code of a chart.
use Rattle.std.specs.Prelude.{List, ◌∷◌, map}
use Rattle.active_config.specs.Tree.{comp_of}
use Rattle.checked_chart.specs.Chart.{Chart, node, list_of, junction, is_remembered, may_return}
use Rattle.code_language.specs.Code.{Code, Procedures}
use Rattle.code_language.specs.Instrs.{Instr}
use Rattle.code_language.specs.Instrs as instrs
use Rattle.chart_code.specs.ListProcedures.{search_of, list_code, junction_code}
use Rattle.chart_code.specs.StateProcedures.{end_code, block_code, guard_code, leave_code, exit_code}
use Rattle.chart_code.specs.StateProcedures.{enter_code, defaults_code, arrive_code, take_code, process_code}
use Rattle.chart_code.specs.Keys.{Key, EndMark, Entry, During, ExitAction, Guard, ConditionOn, ConditionBare, Action}
use Rattle.chart_code.specs.Keys.{Leave, Exit, Arrive, ListOf, JunctionOf, Defaults, Take, Enter, Process, layout}
use Rattle.chart_code.specs.Places.{numbers, list_numbers}

-- the instructions of a procedure
abbrev pub body : Chart → Key → List Instr
body c EndMark = end_code
body c (Entry s) = block_code (numbers c) instrs.BareHome (node c s).entry
body c (During s) = block_code (numbers c) instrs.OnHome (node c s).during
body c (ExitAction s) = block_code (numbers c) instrs.BareHome (node c s).exit
body c (Guard e) = guard_code e
body c (ConditionOn ss) = block_code (numbers c) instrs.OnHome ss
body c (ConditionBare ss) = block_code (numbers c) instrs.BareHome ss
body c (Action ss) = block_code (numbers c) instrs.BareHome ss
body c (Leave s) = leave_code (numbers c) c.tree s (comp_of c.tree s)
body c (Exit s) = exit_code (numbers c) s
body c (Arrive s d) = arrive_code (numbers c) c.tree s d
body c (ListOf s kind) =
    instrs.Begin ∷ list_code (search_of (numbers c) (list_numbers c) c.tree s kind) (list_of c s kind)
    ((list_numbers c).parts s kind)
body c (JunctionOf s kind j) =
    junction_code (search_of (numbers c) (list_numbers c) c.tree s kind) (junction c j)
    ((list_numbers c).junction_parts j)
body c (Defaults s) = defaults_code (numbers c) s (may_return c s)
body c (Take s d) = take_code (numbers c) s d
body c (Enter s d) = enter_code (numbers c) c.tree s d (is_remembered c s)
body c (Process s) = process_code (numbers c) c.tree s

-- the procedures of a chart: a start enters the root, a reaction processes it
unfoldable pub procedures_of : Chart → Procedures
procedures_of c = record {
  procs = map (body c) (layout c);
  start = (numbers c).enter 0 0;
  react = (numbers c).process 0;
}

-- the code of a chart, with its states and its names
unfoldable pub code_of_chart : Chart → Code
code_of_chart c = record { tree = c.tree; names = c.names; procedures = procedures_of c }
