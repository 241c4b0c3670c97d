-- How `exec` ends.
use Rattle.std.specs.Prelude.{◌≡◌, ℕ, true, List}
use Rattle.flow_base.specs.declared.bounds.Bounds.{Bounds}
use Rattle.commands.specs.Call.{Call}
use Rattle.commands.specs.Reading.{Unread}
use Rattle.commands.specs.FileRuns.{FileRan}
use Rattle.commands.specs.Trace.{Behaviour}
use Rattle.code_language.specs.Code.{Code, code_of}
use Rattle.code_language.specs.Reactions.{Starts, Reacts}
use Rattle.code_language.specs.declared.code.RawCode.{RawCode}
use Rattle.code_text.specs.declared.limits.TheConstants.{TEXT_LIMIT}
use Rattle.commands.specs.declared.exec.ExecEnd.{ExecEnd}
use Rattle.commands.specs.declared.exec.ExecEnd.TheVariants as ends
use Rattle.commands.specs.CodeText.{IsCodeText, RefusesCode}

-- how code behaves on the machine, where each event has these bounds; no memory is wanted once the machine is made
abbrev pub by_code : Code → Bounds → Behaviour
by_code k bounds = record {
  starts = Starts k bounds;
  reacts = Reacts k bounds;
  tree = k.tree;
  names = k.names;
  never_wants_memory = true;
}

-- how code behaves that was written so
abbrev pub runs_by_code : RawCode → Bounds → Behaviour
runs_by_code raw bounds = by_code (code_of raw) bounds

-- How `exec` ends with these bounds, and when. Where nothing comes of the code's file, the event file isn't read and
-- nothing is written.
abbrev pub ExecEnds : Bounds → Call → List ℕ → List ℕ → ExecEnd → Type 0
ExecEnds bounds call first second (ends.NoCode end) =
    Unread TEXT_LIMIT RefusesCode call.sources_before call.sources_after first end
    × (call.output_after ≡ call.output_before)
ExecEnds bounds call first second (ends.Ran end) = FileRan IsCodeText runs_by_code bounds call first second end
