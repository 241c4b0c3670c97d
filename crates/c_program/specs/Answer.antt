-- The answer of the program: what it writes and how it ends, for all arguments, files and faults.
use Rattle.std.specs.Prelude.{◌≡◌, ◌⊎◌, [], Option, Some, None}
use Rattle.std.specs.Io.KnownBytes.{append_known}
use Rattle.flow_base.specs.Causes.{Stands}
use Rattle.flow_base.specs.declared.status.Status.{Status}
use Rattle.commands.specs.Call.{Output, Call, OthersStay}
use Rattle.commands.specs.Endings.{EndsAs, EndsAtOnce}
use Rattle.commands.specs.ErrorLines.{LineStands}
use Rattle.c_program.specs.Commands.{Command, Header, Source, Version, files_named}
use Rattle.c_program.specs.Texts.{FileEnds, VersionEnds}
use Rattle.c_program.specs.declared.files.CFile.TheVariants as files
use Rattle.c_program.specs.declared.ending.Ending.{Ending}
use Rattle.c_program.specs.declared.ending.Ending.TheVariants as endings
use Rattle.c_program.specs.Ending.{of_text, status_of, line_of}

-- how a command ends, and when; arguments that ask for none are Usage
abbrev pub Ends : Option Command → Call → Ending → Type 0
Ends None call ending = EndsAtOnce call endings.Usage ending
Ends (Some (Header first asked)) call ending = EndsAs of_text (FileEnds files.Header asked call first) ending
Ends (Some (Source first asked)) call ending = EndsAs of_text (FileEnds files.Source asked call first) ending
Ends (Some Version) call ending = EndsAs of_text (VersionEnds call) ending

-- files that the arguments don't name keep what they have left
abbrev pub OthersKeep : Option Command → Call → Type 0
OthersKeep None call = OthersStay [] call.sources_before call.sources_after
OthersKeep (Some (Header first asked)) call =
    OthersStay (files_named (Header first asked)) call.sources_before call.sources_after
OthersKeep (Some (Source first asked)) call =
    OthersStay (files_named (Source first asked)) call.sources_before call.sources_after
OthersKeep (Some Version) call = OthersStay (files_named Version) call.sources_before call.sources_after

-- how a call ends, and when: as the command does, or memory runs out before the arguments are read
abbrev pub CallEnds : Option Command → Call → Ending → Type 0
CallEnds command call ending = Ends command call ending ⊎ EndsAtOnce call endings.Memory ending

-- the answer: the call ends in one way, which fixes its status and its line on standard error, all of which stands
-- there where no write of it fails; other files than that of the command keep what they have left
pub record CAnswer (command : Option Command) (call : Call) (errors_before errors_after : Output)
    (status : Status) : Type 0 where
  pub ending : Ending
  pub ends : CallEnds command call ending
  pub others : OthersKeep command call
  pub answered : status ≡ status_of ending
  pub line : Stands errors_before.faults errors_after.faults
      → errors_after.holds ≡ append_known errors_before.holds (line_of ending)
  pub written : LineStands errors_before errors_after (line_of ending)
