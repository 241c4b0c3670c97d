-- How a command ends that writes a text made of a file, from how the file was read and how the text was written.
use Rattle.std.proofs.Common.{ℕ, List, Result, Ok, Err, sym, subst}
use Rattle.std.specs.Prelude.{String, string_bytes}
use Rattle.std.specs.declared.alloc.Global.{Global}
use Rattle.commands.specs.declared.file.FileEnd.{FileEnd}
use Rattle.commands.specs.declared.text.TextEnd.{TextEnd}
use Rattle.commands.specs.declared.text.TextEnd.TheVariants as ends
use Rattle.commands.specs.Call.{Call}
use Rattle.commands.specs.Reading.{FileGives}
use Rattle.commands.specs.Texts.{WritesMade, TextEnds}

-- the text that the file gives was written, or nothing comes of the file
pub text_ends : {R : Type 0} (limit : ℕ) (Makes : List ℕ → List ℕ → Type 0) (Refuses : List ℕ → R → Type 0) (call : Call) (first : List ℕ)
    → (made : Result (String Global) (FileEnd R)) (end : TextEnd R)
    → FileGives limit (λ text made. Makes text (string_bytes made)) Refuses call.sources_before call.sources_after first made
    → WritesMade call.output_before call.output_after made end
    → TextEnds limit Makes Refuses call first end
text_ends limit Makes Refuses call first (Ok text) ends.Done given written =
    record { made = string_bytes text; given = record { text = given.text; read = given.read; means = given.means }; written = written }
text_ends limit Makes Refuses call first (Ok text) (ends.Unread end) given written = absurd written
text_ends limit Makes Refuses call first (Ok text) ends.Write given written =
    record { made = string_bytes text; given = record { text = given.text; read = given.read; means = given.means }; written = written }
text_ends limit Makes Refuses call first (Err why) end given written =
    subst (TextEnds limit Makes Refuses call first) (sym written.0) (given, written.1)
