-- Certificates that are closed: what the rules make of the sets of a certificate is among its sets again. So each cell,
-- and each set between two events, can be checked by itself, with what the cells say of sends.
use Rattle.std.specs.Prelude.{◌≡◌, ◌≤◌, ℕ, suc, Some, slice_get}
use Rattle.flow_base.specs.declared.bounds.Bounds.{Bounds}
use Rattle.actions.specs.declared.event.Event.{Event}
use Rattle.actions.specs.declared.event.Event.TheVariants.{Start, Named}
use Rattle.actions.specs.Engines.{CanReactTo}
use Rattle.actions.specs.Names.{Names}
use Rattle.actions.specs.Work.{from_outside}
use Rattle.actions.specs.World.{World, world_before}
use Rattle.checked_chart.specs.Chart.{Chart}
use Rattle.sos_rules.specs.Rules.{upto}
use Rattle.range_rules.specs.declared.cert.Around.{Around}
use Rattle.range_rules.specs.declared.cert.Cell.{Cell}
use Rattle.range_rules.specs.declared.cert.Certificate.{Certificate}
use Rattle.range_rules.specs.Worlds.{Stands, IsAmong, EndsIn, always_of}
use Rattle.range_spans.specs.Boxes.{box_of, IsBox, freed, CoversInputs}

-- derivations of at most some height have no other ends than a cell says
abbrev pub IsCellRight : Chart → Bounds → Certificate → ℕ → Cell → Type 0
IsCellRight c b cert n cell = (depth : ℕ) (w : World) → Stands c.names cert cell.from w
    → EndsIn cert (λ _ v. IsAmong c.names cert cell.ends.items v)
    ((upto c b n).process cell.state (record { event = Named cell.event; depth = depth }) w)

-- all cells are right at a height and below it
abbrev pub AreRight : Chart → Bounds → Certificate → ℕ → Type 0
AreRight c b cert n = (m : ℕ) → m ≤ n → (i : ℕ) (cell : Cell) → slice_get cert.cells.items i ≡ Some cell
    → IsCellRight c b cert m cell

-- a world of one of the sets between two events
abbrev pub IsRest : Chart → Certificate → World → Type 0
IsRest c cert w = IsAmong c.names cert cert.rest.items w

-- a world of a set in which inputs have any values
pub record StandsFreed (n : Names) (cert : Certificate) (x : Around) (w : World) : Type 0 where
  pub config : w.marks ≡ x.config
  pub data_in : IsBox n (always_of cert) (freed n (always_of cert) (box_of x.spans.items)) w.vals

-- Each value of an input is in its span. Where all cells are right at a height and below it, each is right at the next
-- one, the start ends in a set between two events, and so does each event that can be given, from such a set with any
-- inputs.
pub record IsClosed (c : Chart) (cert : Certificate) : Type 0 where
  pub inputs : CoversInputs c.names (always_of cert)
  pub cells : (b : Bounds) (n : ℕ) → AreRight c b cert n → (i : ℕ) (cell : Cell)
      → slice_get cert.cells.items i ≡ Some cell → IsCellRight c b cert (suc n) cell
  pub starts : (b : Bounds) (n : ℕ) → AreRight c b cert n
      → EndsIn cert (λ _ w. IsRest c cert w) ((upto c b n).enter 0 0 (from_outside Start) (world_before c.tree c.names))
  pub reacts : (b : Bounds) (n : ℕ) → AreRight c b cert n → (e : Event) → CanReactTo c.names e
      → (i : ℕ) (x : Around) → slice_get cert.rest.items i ≡ Some x → (w : World) → StandsFreed c.names cert x w
      → EndsIn cert (λ _ v. IsRest c cert v) ((upto c b n).process 0 (from_outside e) w)
