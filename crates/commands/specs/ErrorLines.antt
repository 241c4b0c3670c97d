-- Lines on standard error.
use Rattle.std.specs.Prelude.{◌≡◌, ◌⊎◌, ℕ, List, ◌++◌, codes, decimal}
use Rattle.std.specs.Io.KnownBytes.{append_known}
use Rattle.token_grammar.specs.declared.token.Span.{Span}
use Rattle.chart_tree.specs.declared.fault.FormKind.{FormKind}
use Rattle.chart_tree.specs.Form.{form_number, form_name}
use Rattle.commands.specs.Call.{Output}
use Rattle.commands.specs.Writing.{WroteFront}
use Rattle.commands.specs.declared.refusal.Refusal.{Refusal}

-- a place in a chart text
abbrev pub place_text : Span → List ℕ
place_text at = codes "chart " ++ decimal at.line ++ codes ":" ++ decimal at.column

-- number and name of a kind of fault of a chart text
abbrev pub kind_text : FormKind → List ℕ
kind_text kind = codes ": " ++ decimal (form_number kind) ++ codes " " ++ form_name kind

-- the line of a chart text that is refused
abbrev pub refusal_line : Refusal → List ℕ
refusal_line refusal = place_text refusal.at ++ kind_text refusal.kind ++ codes "\n"

-- the line stands on standard error, or a write of it failed, and a proper prefix of it does
abbrev pub LineStands : Output → Output → List ℕ → Type 0
LineStands before after line =
    (after.holds ≡ append_known before.holds line) ⊎ WroteFront before after line
