-- What the parts of a check say of a certificate.
use Rattle.std.specs.Prelude.{◌≡◌, ◌<◌, ℕ, suc, List, Some, slice_get}
use Rattle.flow_base.specs.declared.bounds.Bounds.{Bounds}
use Rattle.actions.specs.declared.event.Event.{Event}
use Rattle.actions.specs.World.{World}
use Rattle.sos_rules.specs.Parts.{Went}
use Rattle.range_blocks.specs.Ends.{rules_in}
use Rattle.range_check.specs.declared.processing.Processed.{Processed}
use Rattle.range_check.specs.Went.{went_ends}
use Rattle.range_rules.specs.declared.cert.Around.{Around}
use Rattle.range_rules.specs.declared.cert.Cell.{Cell}
use Rattle.range_rules.specs.Closed.{AreRight, IsCellRight}
use Rattle.range_worlds.specs.declared.setting.Setting.{Setting}
use Rattle.range_worlds.specs.Leads.{At, Among, Leads, chart_in, cert_in, now_at}

-- each world of a set is in one of a list
pub record Accepts (s : Setting) (ends : List Around) (y : Around) : Type 0 where
  pub has : (w : World) → At s y w → Among s ends w

-- wherever a processing ends is among some sets
pub record AllEnds (s : Setting) (r : Processed) (ys : List Around) : Type 0 where
  pub ends : (went : Went) (w : World) → went_ends s r went w → Among s ys w

-- the processing of a state leads from each world of a set to one of those of a list
pub record Processes (s : Setting) (x : Around) (state : ℕ) (now : Event) (ends : List Around) : Type 0 where
  pub leads : Leads s (At s x) (λ b n depth. (rules_in s b n).process state (now_at now depth)) (λ _ w. Among s ends w)

-- where all cells are right at a height and below it, this one is right at the next one
pub record IsCellClosed (s : Setting) (cell : Cell) : Type 0 where
  pub closed : (b : Bounds) (n : ℕ) → AreRight (chart_in s) b (cert_in s) n
      → IsCellRight (chart_in s) b (cert_in s) (suc n) cell

-- the first cells of the certificate are closed
pub record AreCellsClosed (s : Setting) (count : ℕ) : Type 0 where
  pub closed : (i : ℕ) (cell : Cell) → i < count → slice_get (cert_in s).cells.items i ≡ Some cell → IsCellClosed s cell
