-- The states that a list of transitions reaches under an event.
use Rattle.std.specs.Prelude.{◌≡◌, ℕ, List, true, Contains}
use Rattle.actions.specs.declared.event.Event.{Event}
use Rattle.checked_chart.specs.declared.parts.Dest.{Dest}
use Rattle.checked_chart.specs.declared.parts.Dest.TheVariants.{State, Junction}
use Rattle.checked_chart.specs.Chart.{Chart, Trans, junction}
use Rattle.sos_rules.specs.Searches.{event_fits}

-- a transition of the list that has no event or the current one leads to the destination
pub record Leads (e : Event) (list : List Trans) (dest : Dest) : Type 0 where
  pub trans : Trans
  pub within : Contains list trans
  pub fits : event_fits trans.event e ≡ true
  pub leads : trans.dest ≡ dest

-- the states that a list reaches by such transitions: at once, or through a junction
pub data Reaches (c : Chart) (e : Event) : List Trans → ℕ → Type 0 where
  AtOnce : (list : List Trans) (d : ℕ) → Leads e list (State d) → Reaches c e list d
  Through : (list : List Trans) (j d : ℕ) → Leads e list (Junction j) → Reaches c e (junction c j) d
      → Reaches c e list d
