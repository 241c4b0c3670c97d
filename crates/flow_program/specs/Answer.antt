-- The answer of the program: what it writes and how it ends, for all arguments, files and faults.
use Rattle.std.specs.Prelude.{◌≡◌, ◌⊎◌, ℕ, [], Option, Some, None}
use Rattle.std.specs.Io.KnownBytes.{append_known}
use Rattle.flow_base.specs.Causes.{Stands}
use Rattle.flow_base.specs.declared.bounds.Bounds.{Bounds}
use Rattle.flow_base.specs.declared.status.Status.{Status}
use Rattle.command_words.specs.Commands.{RunBounds, Command, Check, Fmt, Rules, Compile}
use Rattle.command_words.specs.Commands.{Exec, Run, Upgrade, Bound, Shrink, Net}
use Rattle.command_words.specs.Commands.{Selftest}
use Rattle.command_words.specs.Commands.{files_named}
use Rattle.commands.specs.Call.{Output, Call, OthersStay}
use Rattle.commands.specs.Bounds.{BoundsEnds}
use Rattle.commands.specs.Check.{CheckEnds}
use Rattle.commands.specs.Rules.{RulesEnds}
use Rattle.commands.specs.Exec.{ExecEnds}
use Rattle.commands.specs.Shrink.{ShrinkEnds}
use Rattle.commands.specs.Upgrade.{UpgradeEnds}
use Rattle.commands.specs.Compile.{CompileEnds}
use Rattle.commands.specs.NetCommand.{NetEnds, NetOthersStay}
use Rattle.commands.specs.Run.{RunEnds}
use Rattle.commands.specs.Endings.{EndsAs, EndsAtOnce}
use Rattle.commands.specs.ErrorLines.{LineStands}
use Rattle.flow_program.specs.declared.ending.Ending.{Ending}
use Rattle.flow_program.specs.declared.ending.Ending.TheVariants as endings
use Rattle.flow_program.specs.Ending.{of_text, of_rules, of_exec, of_run, of_upgrade}
use Rattle.flow_program.specs.Ending.{of_net, of_selftest, status_of, line_of}
use Rattle.flow_program.specs.Fmt.{FmtEnds}
use Rattle.flow_program.specs.Selftest.{SelftestEnds}
use Rattle.flow_program.specs.declared.selftest.SelftestEnd.{SelftestEnd}

-- a run ends so under the bounds of these numbers
pub record Under {E : Type 0} (given : RunBounds) (EndsUnder : Bounds → E → Type 0) (end : E) : Type 0 where
  pub bounds : Bounds
  pub depth : bounds.depth ≡ given.depth
  pub steps : bounds.steps ≡ given.steps
  pub ends : EndsUnder bounds end

-- a generated case was run, and no file was read
pub record CaseEnds (call : Call) (number : ℕ) (end : SelftestEnd) : Type 0 where
  pub case : SelftestEnds number call.output_before call.output_after end
  pub sources : call.sources_after ≡ call.sources_before

-- how a command ends, and when; arguments that ask for none are Usage
abbrev pub Ends : Option Command → Call → Ending → Type 0
Ends None call ending = EndsAtOnce call endings.Usage ending
Ends (Some (Check first)) call ending = EndsAs of_text (CheckEnds call first) ending
Ends (Some (Fmt first)) call ending = EndsAs of_text (FmtEnds call first) ending
Ends (Some (Rules first second given)) call ending =
    EndsAs of_rules (Under given (λ bounds end. RulesEnds bounds call first second end)) ending
Ends (Some (Compile first)) call ending = EndsAs of_text (CompileEnds call first) ending
Ends (Some (Exec first second given)) call ending =
    EndsAs of_exec (Under given (λ bounds end. ExecEnds bounds call first second end)) ending
Ends (Some (Run first second given)) call ending =
    EndsAs of_run (Under given (λ bounds end. RunEnds bounds call first second end)) ending
Ends (Some (Upgrade first)) call ending = EndsAs of_upgrade (UpgradeEnds call first) ending
Ends (Some (Bound first)) call ending = EndsAs of_text (BoundsEnds call first) ending
Ends (Some (Shrink first)) call ending = EndsAs of_upgrade (ShrinkEnds call first) ending
Ends (Some (Net first second given)) call ending =
    EndsAs of_net (Under given (λ bounds end. NetEnds bounds call first second end)) ending
Ends (Some (Selftest number)) call ending = EndsAs of_selftest (CaseEnds call number) ending

-- files that the arguments don't name keep what they have left; those of the charts that the text of a net names are
-- read too
abbrev pub OthersKeep : Option Command → Call → Type 0
OthersKeep None call = OthersStay [] call.sources_before call.sources_after
OthersKeep (Some (Check first)) call = OthersStay (files_named (Check first)) call.sources_before call.sources_after
OthersKeep (Some (Fmt first)) call = OthersStay (files_named (Fmt first)) call.sources_before call.sources_after
OthersKeep (Some (Rules first second given)) call =
    OthersStay (files_named (Rules first second given)) call.sources_before call.sources_after
OthersKeep (Some (Compile first)) call = OthersStay (files_named (Compile first)) call.sources_before call.sources_after
OthersKeep (Some (Exec first second given)) call =
    OthersStay (files_named (Exec first second given)) call.sources_before call.sources_after
OthersKeep (Some (Run first second given)) call =
    OthersStay (files_named (Run first second given)) call.sources_before call.sources_after
OthersKeep (Some (Upgrade first)) call = OthersStay (files_named (Upgrade first)) call.sources_before call.sources_after
OthersKeep (Some (Bound first)) call = OthersStay (files_named (Bound first)) call.sources_before call.sources_after
OthersKeep (Some (Shrink first)) call = OthersStay (files_named (Shrink first)) call.sources_before call.sources_after
OthersKeep (Some (Net first second given)) call = NetOthersStay call first second
OthersKeep (Some (Selftest number)) call = OthersStay (files_named (Selftest number)) call.sources_before call.sources_after

-- how a call ends, and when: as the command does, or memory runs out before the arguments are read
abbrev pub CallEnds : Option Command → Call → Ending → Type 0
CallEnds command call ending = Ends command call ending ⊎ EndsAtOnce call endings.Memory ending

-- the answer: the call ends in one way, which fixes its status and its line on standard error, all of which stands
-- there where no write of it fails; other files than those of the command keep what they have left
pub record Answer (command : Option Command) (call : Call) (errors_before errors_after : Output)
    (status : Status) : Type 0 where
  pub ending : Ending
  pub ends : CallEnds command call ending
  pub others : OthersKeep command call
  pub answered : status ≡ status_of ending
  pub line : Stands errors_before.faults errors_after.faults
      → errors_after.holds ≡ append_known errors_before.holds (line_of ending)
  pub written : LineStands errors_before errors_after (line_of ending)
