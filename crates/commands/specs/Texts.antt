-- How a command ends that writes one text, which it makes of a file.
use Rattle.std.specs.Prelude.{◌≡◌, ℕ, List, Result, Ok, Err, String, string_bytes}
use Rattle.std.specs.declared.alloc.Global.{Global}
use Rattle.commands.specs.declared.file.FileEnd.{FileEnd}
use Rattle.commands.specs.declared.text.TextEnd.{TextEnd}
use Rattle.commands.specs.declared.text.TextEnd.TheVariants as ends
use Rattle.commands.specs.Call.{Output, Call}
use Rattle.commands.specs.Reading.{Gives, Unread}
use Rattle.commands.specs.Writing.{Wrote, WroteFront}

-- the text that was made of a file is written, or nothing where nothing comes of the file
abbrev pub WritesMade : {R : Type 0} → Output → Output → Result (String Global) (FileEnd R) → TextEnd R → Type 0
WritesMade before after (Ok text) ends.Done = Wrote before after (string_bytes text)
WritesMade before after (Ok text) (ends.Unread end) = ⊥
WritesMade before after (Ok text) ends.Write = WroteFront before after (string_bytes text)
WritesMade before after (Err end) ending = (ending ≡ ends.Unread end) × (after ≡ before)

-- the file was read whole, this text is one that is made of it, and it was written as said
pub record MadeAnd (Makes : List ℕ → List ℕ → Type 0) (call : Call) (first : List ℕ)
    (Written : Output → Output → List ℕ → Type 0) : Type 0 where
  pub made : List ℕ
  pub given : Gives Makes call.sources_before call.sources_after first made
  pub written : Written call.output_before call.output_after made

-- How a command ends that writes a text made of the file `first`, and when: `Makes text made` says which text may be
-- made of a file's. Memory runs out only before the first byte is written.
abbrev pub TextEnds : {R : Type 0} → ℕ → (List ℕ → List ℕ → Type 0) → (List ℕ → R → Type 0) → Call → List ℕ
    → TextEnd R → Type 0
TextEnds limit Makes Refuses call first ends.Done = MadeAnd Makes call first Wrote
TextEnds limit Makes Refuses call first (ends.Unread end) =
    Unread limit Refuses call.sources_before call.sources_after first end × (call.output_after ≡ call.output_before)
TextEnds limit Makes Refuses call first ends.Write = MadeAnd Makes call first WroteFront
