-- One file of the charts of a net.
use Rattle.std.specs.Prelude.{◌≡◌, ℕ, List, [], ◌∷◌, ◌++◌, Option, Some, None, Result, Ok, Err}
use Rattle.chart_tree.specs.declared.limits.TheConstants.{CHART_TEXT_LIMIT}
use Rattle.checked_chart.specs.Chart.{Chart}
use Rattle.checked_chart.specs.Kept.{chart_of}
use Rattle.accepted_charts.specs.Accepted.{IsAccepted}
use Rattle.commands.specs.Accepted.{RefusesAccepted}
use Rattle.commands.specs.Call.{Sources}
use Rattle.commands.specs.NetCharts.{chart_in}
use Rattle.commands.specs.Reading.{Gives, Unread}
use Rattle.commands.specs.declared.file.FileEnd.{FileEnd}
use Rattle.commands.specs.declared.net_charts.ReadFile.{ReadFile}
use Rattle.commands.specs.declared.refusal.Refusal.{Refusal}

-- the file of that name was read, and holds an accepted chart
pub record IsReadFile (before after : Sources) (name : List ℕ) (f : ReadFile) : Type 0 where
  pub given : Gives IsAccepted before after name (chart_of f.chart)
  pub named : f.file ≡ name

-- what comes of a file that is read
abbrev pub FileRead : Sources → Sources → List ℕ → Result ReadFile (FileEnd Refusal) → Type 0
FileRead before after name (Ok f) = IsReadFile before after name f
FileRead before after name (Err end) = Unread CHART_TEXT_LIMIT RefusesAccepted before after name end

-- one file more was read
pub record IsAdded (before after : Sources) (name : List ℕ) (old new : List ReadFile) : Type 0 where
  pub f : ReadFile
  pub is : new ≡ old ++ f ∷ []
  pub read : IsReadFile before after name f

-- what comes of a file that is read after others
abbrev pub FileAdded : Sources → Sources → List ℕ → List ReadFile → List ReadFile → Result (Unit {0})
    (FileEnd Refusal) → Type 0
FileAdded before after name old new (Ok done) = IsAdded before after name old new
FileAdded before after name old new (Err end) = Unread CHART_TEXT_LIMIT RefusesAccepted before after name end

-- a file that was read before isn't read again, and one that wasn't is
abbrev pub IsTaken : Option Chart → Sources → Sources → List ℕ → List ReadFile → List ReadFile → Type 0
IsTaken None before after name old new = IsAdded before after name old new
IsTaken (Some chart) before after name old new = (new ≡ old) × (after ≡ before)

-- what comes of a file that is read, unless it was read before
abbrev pub FileTaken : Sources → Sources → List ℕ → List ReadFile → List ReadFile → Result (Unit {0})
    (FileEnd Refusal) → Type 0
FileTaken before after name old new (Ok done) = IsTaken (chart_in old name) before after name old new
FileTaken before after name old new (Err end) =
    (chart_in old name ≡ None) × Unread CHART_TEXT_LIMIT RefusesAccepted before after name end
