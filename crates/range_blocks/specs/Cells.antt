-- What the cells of a certificate say of an event that is sent.
use Rattle.std.specs.Prelude.{◌≡◌, ℕ, Option, List, Some, slice_get}
use Rattle.actions.specs.declared.event.Event.{Event}
use Rattle.actions.specs.declared.event.Event.TheVariants.{Named}
use Rattle.sos_rules.specs.Parts.{Went}
use Rattle.range_rules.specs.declared.cert.Around.{Around}
use Rattle.range_rules.specs.declared.cert.Cell.{Cell}
use Rattle.range_worlds.specs.declared.setting.Setting.{Setting}
use Rattle.range_worlds.specs.Inside.{HasAll}
use Rattle.range_worlds.specs.Leads.{Works, Among, Leads, cert_in, now_at}
use Rattle.range_blocks.specs.Ends.{rules_in, lower}

-- a cell is for the processing of a state for a sent event from all worlds of a set
pub record IsFor (s : Setting) (state event : ℕ) (x : Around) (cell : Cell) : Type 0 where
  pub state_is : cell.state ≡ state
  pub event_is : cell.event ≡ event
  pub from : HasAll s cell.from x

-- the cell of that number is
pub record IsFound (s : Setting) (state event : ℕ) (x : Around) (i : ℕ) : Type 0 where
  pub cell : Cell
  pub is : slice_get (cert_in s).cells.items i ≡ Some cell
  pub fits : IsFor s state event x cell

-- the processing of a state for a sent event, one height lower
abbrev pub hearing : Setting → ℕ → ℕ → Works Went
hearing s state event = lower (λ b n depth. (rules_in s b n).process state (now_at (Named event) depth))

-- an event that is sent, whatever the current one is, leads from some sets to others
pub record Sends (s : Setting) (xs : List Around) (event : ℕ) (to : Option ℕ) (ys : List Around) : Type 0 where
  pub sends : (now : Event) → Leads s (Among s xs) (λ b n depth. (rules_in s b n).send event to (now_at now depth))
      (λ _ w. Among s ys w)
