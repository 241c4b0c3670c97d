-- A call ends as Usage only where the words are none of the program's.
use Rattle.std.proofs.Common.{◌≡◌, ◌⊎◌, ◌∙◌, ℕ, List, Option, Some, None, inl, inr, refl, sym, ap, subst}
use Rattle.flow_base.specs.declared.status.Status.TheVariants as statuses
use Rattle.command_words.specs.Commands.{Command, Check, Fmt, Rules, Compile, Exec, Run, Upgrade, Bound, Shrink, Net}
use Rattle.command_words.specs.Commands.{Selftest}
use Rattle.commands.specs.declared.file.FileEnd.{FileEnd}
use Rattle.commands.specs.declared.file.FileEnd.TheVariants as files
use Rattle.commands.specs.declared.text.TextEnd.{TextEnd}
use Rattle.commands.specs.declared.text.TextEnd.TheVariants as texts
use Rattle.commands.specs.Call.{Call}
use Rattle.commands.specs.declared.traced.TraceEnd.{TraceEnd}
use Rattle.commands.specs.declared.traced.TraceEnd.TheVariants as traces
use Rattle.commands.specs.declared.rules.RulesEnd.{RulesEnd}
use Rattle.commands.specs.declared.rules.RulesEnd.TheVariants as rules_ends
use Rattle.code_text.specs.declared.fault.CodeTextFault.{CodeTextFault}
use Rattle.commands.specs.declared.exec.ExecEnd.{ExecEnd}
use Rattle.commands.specs.declared.exec.ExecEnd.TheVariants as execs
use Rattle.commands.specs.declared.run.RunEnd.{RunEnd}
use Rattle.commands.specs.declared.run.RunEnd.TheVariants as compiled_ends
use Rattle.commands.specs.declared.net.NetCommandEnd.{NetCommandEnd}
use Rattle.commands.specs.declared.net.NetCommandEnd.TheVariants as nets
use Rattle.commands.specs.declared.schedule.ScheduleEnd.{ScheduleEnd}
use Rattle.commands.specs.declared.schedule.ScheduleEnd.TheVariants as schedules
use Rattle.net_text.specs.declared.fault.NetFault.{NetFault}
use Rattle.commands.specs.declared.refusal.Refusal.{Refusal}
use Rattle.flow_program.specs.declared.selftest.SelftestEnd.{SelftestEnd}
use Rattle.flow_program.specs.declared.selftest.SelftestEnd.TheVariants as cases
use Rattle.flow_program.specs.declared.ending.Ending.{Ending}
use Rattle.flow_program.specs.declared.ending.Ending.TheVariants as endings
use Rattle.flow_program.specs.Ending.{of_chart_file, of_text, of_trace, of_rules}
use Rattle.flow_program.specs.Ending.{of_code_file, of_exec, of_run, of_upgrade}
use Rattle.flow_program.specs.Ending.{of_net_file, of_net_chart, of_schedule, of_net, of_selftest, status_of}
use Rattle.flow_program.specs.Answer.{Ends, CallEnds}

-- a chart file of which nothing comes ends no call so
file : (end : FileEnd Refusal) → endings.Usage ≡ of_chart_file end → ⊥
file (files.Refused refusal) e = absurd cc
file files.Read e = absurd cc
file files.Memory e = absurd cc

-- nor does a command that writes a text
text : (end : TextEnd Refusal) → endings.Usage ≡ of_text end → ⊥
text texts.Done e = absurd cc
text (texts.Unread end) e = file end e
text texts.Write e = absurd cc

-- nor does a run that writes its trace
trace : (end : TraceEnd) → endings.Usage ≡ of_trace end → ⊥
trace traces.Done e = absurd cc
trace (traces.Line number fault) e = absurd cc
trace traces.TooManyLines e = absurd cc
trace traces.FileTooLong e = absurd cc
trace (traces.Fault index word) e = absurd cc
trace traces.Read e = absurd cc
trace traces.Write e = absurd cc
trace traces.Memory e = absurd cc

-- nor does `rules`
rules : (end : RulesEnd) → endings.Usage ≡ of_rules end → ⊥
rules (rules_ends.NoChart end) e = file end e
rules (rules_ends.Ran end) e = trace end e

-- nor does a code file of which nothing comes
code_file : (end : FileEnd CodeTextFault) → endings.Usage ≡ of_code_file end → ⊥
code_file (files.Refused fault) e = absurd cc
code_file files.Read e = absurd cc
code_file files.Memory e = absurd cc

-- nor does `exec`
exec : (end : ExecEnd) → endings.Usage ≡ of_exec end → ⊥
exec (execs.NoCode end) e = code_file end e
exec (execs.Ran end) e = trace end e

-- nor does `run`
compiled : (end : RunEnd) → endings.Usage ≡ of_run end → ⊥
compiled (compiled_ends.NoChart end) e = file end e
compiled (compiled_ends.Ran end) e = trace end e

-- nor do `upgrade` and `shrink`
upgrade : (end : TextEnd CodeTextFault) → endings.Usage ≡ of_upgrade end → ⊥
upgrade texts.Done e = absurd cc
upgrade (texts.Unread end) e = code_file end e
upgrade texts.Write e = absurd cc

-- nor does a net file of which nothing comes
net_file : (end : FileEnd NetFault) → endings.Usage ≡ of_net_file end → ⊥
net_file (files.Refused fault) e = absurd cc
net_file files.Read e = absurd cc
net_file files.Memory e = absurd cc

-- nor does the file of a chart of a net of which nothing comes
net_chart : (name : List ℕ) (end : FileEnd Refusal) → endings.Usage ≡ of_net_chart name end → ⊥
net_chart name (files.Refused refusal) e = absurd cc
net_chart name files.Read e = absurd cc
net_chart name files.Memory e = absurd cc

-- nor does a run over a schedule
schedule : (end : ScheduleEnd) → endings.Usage ≡ of_schedule end → ⊥
schedule schedules.Done e = absurd cc
schedule (schedules.Line number fault) e = absurd cc
schedule schedules.TooManyLines e = absurd cc
schedule schedules.FileTooLong e = absurd cc
schedule (schedules.Fault step word) e = absurd cc
schedule (schedules.Full step route) e = absurd cc
schedule (schedules.Empty step route) e = absurd cc
schedule schedules.Read e = absurd cc
schedule schedules.Write e = absurd cc
schedule schedules.Memory e = absurd cc

-- nor does `net`
net : (end : NetCommandEnd) → endings.Usage ≡ of_net end → ⊥
net (nets.NoNet end) e = net_file end e
net (nets.NoChart name end) e = net_chart name end e
net (nets.NoRoute line) e = absurd cc
net (nets.Ran end) e = schedule end e

-- nor does `selftest`
case : (end : SelftestEnd) → endings.Usage ≡ of_selftest end → ⊥
case cases.Done e = absurd cc
case (cases.Fault index word) e = absurd cc
case (cases.NoChart refusal) e = absurd cc
case cases.Write e = absurd cc
case cases.Memory e = absurd cc

-- the status Usage is that of one ending
usage_ending : (ending : Ending) → status_of ending ≡ statuses.Usage → ending ≡ endings.Usage
usage_ending endings.Done e = absurd cc
usage_ending (endings.Chart refusal) e = absurd cc
usage_ending (endings.Code fault) e = absurd cc
usage_ending (endings.Net fault) e = absurd cc
usage_ending (endings.NetChart name refusal) e = absurd cc
usage_ending (endings.Line number fault) e = absurd cc
usage_ending endings.TooManyLines e = absurd cc
usage_ending endings.FileTooLong e = absurd cc
usage_ending (endings.Fault index word) e = absurd cc
usage_ending (endings.Full step route) e = absurd cc
usage_ending (endings.Empty step route) e = absurd cc
usage_ending endings.Usage e = refl
usage_ending endings.Read e = absurd cc
usage_ending endings.Write e = absurd cc
usage_ending endings.Memory e = absurd cc

-- a command of the program doesn't end so
never : (command : Command) (call : Call) → Ends (Some command) call endings.Usage → ⊥
never (Check first) call h = text h.end h.ending_is
never (Fmt first) call h = text h.end h.ending_is
never (Rules first second given) call h = rules h.end h.ending_is
never (Compile first) call h = text h.end h.ending_is
never (Exec first second given) call h = exec h.end h.ending_is
never (Run first second given) call h = compiled h.end h.ending_is
never (Upgrade first) call h = upgrade h.end h.ending_is
never (Bound first) call h = text h.end h.ending_is
never (Shrink first) call h = upgrade h.end h.ending_is
never (Net first second given) call h = net h.end h.ending_is
never (Selftest number) call h = case h.end h.ending_is

-- a call ends as Usage only where its words ask for no command
pub usage_only : (command : Option Command) (call : Call) (ending : Ending) → CallEnds command call ending
    → status_of ending ≡ statuses.Usage → command ≡ None
usage_only None call ending h e = refl
usage_only (Some command) call ending (inl h) e =
    absurd (never command call (subst (Ends (Some command) call) (usage_ending ending e) h))
usage_only (Some command) call ending (inr m) e =
    absurd (let bad = sym (ap status_of m.is_that) ∙ e in cc)

-- where they ask for none it ends so, unless memory ran out
pub no_command : (call : Call) (ending : Ending) → CallEnds None call ending
    → (status_of ending ≡ statuses.Usage) ⊎ (status_of ending ≡ statuses.Memory)
no_command call ending (inl h) = inl (ap status_of h.is_that)
no_command call ending (inr m) = inr (ap status_of m.is_that)
