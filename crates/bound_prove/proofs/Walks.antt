-- What a walk through the junctions of a list finds.
use Rattle.std.proofs.Common.{ℕ, List}
use Rattle.actions.specs.declared.event.Event.{Event}
use Rattle.checked_chart.specs.declared.parts.Dest.TheVariants.{State, Junction}
use Rattle.checked_chart.specs.Chart.{Chart, Trans, junction}
use Rattle.bound_prove.specs.Reaches.{Leads, Reaches, AtOnce, Through}

module _ (c : Chart) (e : Event) where
  -- the junctions that a list leads to are among S, and the states among D
  pub record StaysIn (S D : ℕ → Type 0) (list : List Trans) : Type 0 where
    pub junctions : (j : ℕ) → Leads e list (Junction j) → S j
    pub states : (d : ℕ) → Leads e list (State d) → D d

  -- where a list and the lists of all junctions of S stay in S and D, the states that the list reaches are among D
  pub reaches_within : (S D : ℕ → Type 0) → ((j : ℕ) → S j → StaysIn S D (junction c j)) → (list : List Trans) (d : ℕ)
      → Reaches c e list d → StaysIn S D list → D d
  reaches_within S D all list d (AtOnce ts x l) stays = stays.states x l
  reaches_within S D all list d (Through ts j x l r) stays =
      reaches_within S D all (junction c j) x r (all j (stays.junctions j l))
