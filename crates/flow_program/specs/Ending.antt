-- How a call ends, from how its command ends; its status, and its line on standard error.
use Rattle.std.specs.Prelude.{ℕ, List, [], ◌++◌, codes, decimal}
use Rattle.flow_base.specs.declared.status.Status.{Status}
use Rattle.flow_base.specs.declared.status.Status.TheVariants as statuses
use Rattle.token_grammar.specs.declared.token.Span.{Span}
use Rattle.code_text.specs.Form.{fault_text}
use Rattle.code_text.specs.declared.fault.CodeTextFault.{CodeTextFault}
use Rattle.event_file.specs.Faults.{line_fault_number, line_fault_name}
use Rattle.event_file.specs.declared.fault.LineFault.{LineFault}
use Rattle.commands.specs.declared.file.FileEnd.{FileEnd}
use Rattle.commands.specs.declared.file.FileEnd.TheVariants as files
use Rattle.commands.specs.declared.text.TextEnd.{TextEnd}
use Rattle.commands.specs.declared.text.TextEnd.TheVariants as texts
use Rattle.commands.specs.declared.traced.TraceEnd.{TraceEnd}
use Rattle.commands.specs.declared.traced.TraceEnd.TheVariants as traces
use Rattle.commands.specs.declared.rules.RulesEnd.{RulesEnd}
use Rattle.commands.specs.declared.rules.RulesEnd.TheVariants as rules
use Rattle.commands.specs.declared.exec.ExecEnd.{ExecEnd}
use Rattle.commands.specs.declared.exec.ExecEnd.TheVariants as execs
use Rattle.commands.specs.declared.run.RunEnd.{RunEnd}
use Rattle.commands.specs.declared.run.RunEnd.TheVariants as compiled
use Rattle.commands.specs.declared.net.NetCommandEnd.{NetCommandEnd}
use Rattle.commands.specs.declared.net.NetCommandEnd.TheVariants as nets
use Rattle.commands.specs.declared.schedule.ScheduleEnd.{ScheduleEnd}
use Rattle.commands.specs.declared.schedule.ScheduleEnd.TheVariants as schedules
use Rattle.net_text.specs.Faults as net_faults
use Rattle.net_text.specs.declared.fault.NetFault.{NetFault}
use Rattle.net_text.specs.declared.fault.NetFault.TheVariants.{BadRoute}
use Rattle.commands.specs.declared.refusal.Refusal.{Refusal}
use Rattle.commands.specs.ErrorLines.{kind_text, refusal_line}
use Rattle.flow_program.specs.declared.ending.Ending.{Ending}
use Rattle.flow_program.specs.declared.ending.Ending.TheVariants as endings
use Rattle.flow_program.specs.declared.selftest.SelftestEnd.{SelftestEnd}
use Rattle.flow_program.specs.declared.selftest.SelftestEnd.TheVariants as cases

-- ---- from the endings of the commands

-- where nothing comes of a chart file
abbrev pub of_chart_file : FileEnd Refusal → Ending
of_chart_file (files.Refused refusal) = endings.Chart refusal
of_chart_file files.Read = endings.Read
of_chart_file files.Memory = endings.Memory

-- of a command that writes a text made of a chart file
abbrev pub of_text : TextEnd Refusal → Ending
of_text texts.Done = endings.Done
of_text (texts.Unread end) = of_chart_file end
of_text texts.Write = endings.Write

-- of a command that writes the trace of a run
abbrev pub of_trace : TraceEnd → Ending
of_trace traces.Done = endings.Done
of_trace (traces.Line number fault) = endings.Line number fault
of_trace traces.TooManyLines = endings.TooManyLines
of_trace traces.FileTooLong = endings.FileTooLong
of_trace (traces.Fault index word) = endings.Fault index word
of_trace traces.Read = endings.Read
of_trace traces.Write = endings.Write
of_trace traces.Memory = endings.Memory

-- of `rules`
abbrev pub of_rules : RulesEnd → Ending
of_rules (rules.NoChart end) = of_chart_file end
of_rules (rules.Ran end) = of_trace end

-- where nothing comes of a code file
abbrev pub of_code_file : FileEnd CodeTextFault → Ending
of_code_file (files.Refused fault) = endings.Code fault
of_code_file files.Read = endings.Read
of_code_file files.Memory = endings.Memory

-- of `exec`
abbrev pub of_exec : ExecEnd → Ending
of_exec (execs.NoCode end) = of_code_file end
of_exec (execs.Ran end) = of_trace end

-- of `run`
abbrev pub of_run : RunEnd → Ending
of_run (compiled.NoChart end) = of_chart_file end
of_run (compiled.Ran end) = of_trace end

-- of `upgrade` and of `shrink`
abbrev pub of_upgrade : TextEnd CodeTextFault → Ending
of_upgrade texts.Done = endings.Done
of_upgrade (texts.Unread end) = of_code_file end
of_upgrade texts.Write = endings.Write

-- where nothing comes of a net file
abbrev pub of_net_file : FileEnd NetFault → Ending
of_net_file (files.Refused fault) = endings.Net fault
of_net_file files.Read = endings.Read
of_net_file files.Memory = endings.Memory

-- where nothing comes of the file of a chart of a net
abbrev pub of_net_chart : List ℕ → FileEnd Refusal → Ending
of_net_chart name (files.Refused refusal) = endings.NetChart name refusal
of_net_chart name files.Read = endings.Read
of_net_chart name files.Memory = endings.Memory

-- of a net's run over a schedule
abbrev pub of_schedule : ScheduleEnd → Ending
of_schedule schedules.Done = endings.Done
of_schedule (schedules.Line number fault) = endings.Line number fault
of_schedule schedules.TooManyLines = endings.TooManyLines
of_schedule schedules.FileTooLong = endings.FileTooLong
of_schedule (schedules.Fault step word) = endings.Fault step word
of_schedule (schedules.Full step route) = endings.Full step route
of_schedule (schedules.Empty step route) = endings.Empty step route
of_schedule schedules.Read = endings.Read
of_schedule schedules.Write = endings.Write
of_schedule schedules.Memory = endings.Memory

-- of `net`
abbrev pub of_net : NetCommandEnd → Ending
of_net (nets.NoNet end) = of_net_file end
of_net (nets.NoChart name end) = of_net_chart name end
of_net (nets.NoRoute line) = endings.Net (BadRoute line)
of_net (nets.Ran end) = of_schedule end

-- of `selftest`
abbrev pub of_selftest : SelftestEnd → Ending
of_selftest cases.Done = endings.Done
of_selftest (cases.Fault index word) = endings.Fault index word
of_selftest (cases.NoChart refusal) = endings.Chart refusal
of_selftest cases.Write = endings.Write
of_selftest cases.Memory = endings.Memory

-- ---- status and line

-- the status of each ending
abbrev pub status_of : Ending → Status
status_of endings.Done = statuses.Ok
status_of (endings.Chart refusal) = statuses.Refused
status_of (endings.Code fault) = statuses.Refused
status_of (endings.Net fault) = statuses.Refused
status_of (endings.NetChart name refusal) = statuses.Refused
status_of (endings.Line number fault) = statuses.Refused
status_of endings.TooManyLines = statuses.Refused
status_of endings.FileTooLong = statuses.Refused
status_of (endings.Fault index word) = statuses.RunFault
status_of (endings.Full step route) = statuses.RunFault
status_of (endings.Empty step route) = statuses.RunFault
status_of endings.Usage = statuses.Usage
status_of endings.Read = statuses.Read
status_of endings.Write = statuses.Write
status_of endings.Memory = statuses.Memory

-- a place in a text
abbrev pub spot_text : Span → List ℕ
spot_text at = decimal at.line ++ codes ":" ++ decimal at.column

-- a place in the text of a chart of a net
abbrev pub named_place_text : List ℕ → Span → List ℕ
named_place_text name at = codes "chart " ++ name ++ codes " " ++ spot_text at

-- number and name of a fault of an event line
abbrev pub event_fault_text : LineFault → List ℕ
event_fault_text fault = decimal (line_fault_number fault) ++ codes " " ++ line_fault_name fault

-- the step at which a route ended a run, a word for how, and the route
abbrev pub stop_text : ℕ → List ℕ → ℕ → List ℕ
stop_text step word route = codes "run " ++ decimal step ++ codes ": " ++ word ++ decimal route ++ codes "\n"

-- the line on standard error, none where the answer is whole
abbrev pub line_of : Ending → List ℕ
line_of endings.Done = []
line_of (endings.Chart refusal) = refusal_line refusal
line_of (endings.Code fault) = fault_text fault ++ codes "\n"
line_of (endings.Net fault) = net_faults.fault_text fault ++ codes "\n"
line_of (endings.NetChart name refusal) = named_place_text name refusal.at ++ kind_text refusal.kind ++ codes "\n"
line_of (endings.Line number fault) =
    codes "event " ++ decimal number ++ codes ": " ++ event_fault_text fault ++ codes "\n"
line_of endings.TooManyLines = codes "event: 5 TooManyLines\n"
line_of endings.FileTooLong = codes "event: 6 FileTooLong\n"
line_of (endings.Fault index word) = codes "run " ++ decimal index ++ codes ": " ++ word ++ codes "\n"
line_of (endings.Full step route) = stop_text step (codes "full ") route
line_of (endings.Empty step route) = stop_text step (codes "empty ") route
line_of endings.Usage =
    codes "usage: flowc check CHART, fmt CHART, rules CHART EVENTS, compile CHART, exec CODE EVENTS, run CHART EVENTS, upgrade CODE, bounds CHART, shrink CODE, net NET SCHEDULE, selftest N; --depth D, --steps S\n"
line_of endings.Read = codes "read fault\n"
line_of endings.Write = codes "write fault\n"
line_of endings.Memory = codes "out of memory\n"
