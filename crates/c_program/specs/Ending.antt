-- How a call ends, from how its command ends; its status, and its line on standard error.
use Rattle.std.specs.Prelude.{ℕ, List, [], codes}
use Rattle.flow_base.specs.declared.status.Status.{Status}
use Rattle.flow_base.specs.declared.status.Status.TheVariants as statuses
use Rattle.commands.specs.declared.file.FileEnd.{FileEnd}
use Rattle.commands.specs.declared.file.FileEnd.TheVariants as files
use Rattle.commands.specs.declared.text.TextEnd.{TextEnd}
use Rattle.commands.specs.declared.text.TextEnd.TheVariants as texts
use Rattle.commands.specs.declared.refusal.Refusal.{Refusal}
use Rattle.commands.specs.ErrorLines.{refusal_line}
use Rattle.c_program.specs.declared.ending.Ending.{Ending}
use Rattle.c_program.specs.declared.ending.Ending.TheVariants as endings

-- where nothing comes of a chart file
abbrev pub of_chart_file : FileEnd Refusal → Ending
of_chart_file (files.Refused refusal) = endings.Chart refusal
of_chart_file files.Read = endings.Read
of_chart_file files.Memory = endings.Memory

-- of a command that writes a text made of a chart file
abbrev pub of_text : TextEnd Refusal → Ending
of_text texts.Done = endings.Done
of_text (texts.Unread end) = of_chart_file end
of_text texts.Write = endings.Write

-- the status of each ending
abbrev pub status_of : Ending → Status
status_of endings.Done = statuses.Ok
status_of (endings.Chart refusal) = statuses.Refused
status_of endings.Usage = statuses.Usage
status_of endings.Read = statuses.Read
status_of endings.Write = statuses.Write
status_of endings.Memory = statuses.Memory

-- the line on standard error, none where the answer is whole
abbrev pub line_of : Ending → List ℕ
line_of endings.Done = []
line_of (endings.Chart refusal) = refusal_line refusal
line_of endings.Usage = codes "usage: chart_to_c header CHART, source CHART, --version; --depth D, --steps S\n"
line_of endings.Read = codes "read fault\n"
line_of endings.Write = codes "write fault\n"
line_of endings.Memory = codes "out of memory\n"
