-- A net of programs of one engine has at most one run over a schedule.
use Rattle.std.proofs.Common.{◌≡◌, List, [], ◌∷◌, Option, Some, None, refl, ap, ◌∙◌}
use Rattle.std.specs.Prelude.{slice_get}
use Rattle.flow_base.specs.declared.fault.Fault.{Fault}
use Rattle.actions.specs.Runs.{Moment}
use Rattle.actions.specs.World.{World}
use Rattle.actions.specs.declared.engine.Engine.{Ghosts as Engine}
use Rattle.actions.proofs.RunLemmas.{GoesOn-one, HasOneReaction, HasOneStart}
use Rattle.chart_net.specs.Nets.{ChartOf, net_of, reaction_of, start_of}
use Rattle.net_text.specs.declared.route.Route.{Route}
use Rattle.chart_net.proofs.NetRunLemmas.{GivesOne}

-- moments of the same world and fault are the same
same_moment : (m m' : Moment) → (m.world ≡ m'.world) × (m.fault ≡ m'.fault) → m ≡ m'
same_moment m m' same =
    ap (λ (w : World). record { world = w; fault = m.fault }) same.0
    ∙ ap (λ (f : Option Fault). record { world = m'.world; fault = f }) same.1

module _ {G : Type 0} (members : Engine G) (one_start : (p : members.Program) → HasOneStart (members.Starts p))
    (one_reaction : (p : members.Program) → HasOneReaction (members.Reacts p)) where
  start_one : (chart : Option (ChartOf members.Program)) → HasOneStart (start_of members chart)
  start_one None w w' f f' a b = absurd a
  start_one (Some chart) w w' f f' a b = one_start chart.program w w' f f' a b

  reaction_one : (chart : Option (ChartOf members.Program)) → HasOneReaction (reaction_of members chart)
  reaction_one None w e w' w'' f f' a b = absurd a
  reaction_one (Some chart) w e w' w'' f f' a b = one_reaction chart.program w e w' w'' f f' a b

  -- what a chart's start or an event gives is one moment
  pub gives_one : (charts : List (ChartOf members.Program)) (routes : List Route)
      → GivesOne (net_of members charts routes)
  gives_one charts routes c None None m m' a b =
      same_moment m m' (start_one (slice_get charts c) m.world m'.world m.fault m'.fault a b)
  gives_one charts routes c None (Some given) m m' a b = absurd a
  gives_one charts routes c (Some w) None m m' a b = absurd a
  gives_one charts routes c (Some w) (Some given) m m' a b =
      let all = GoesOn-one (reaction_of members (slice_get charts c)) (reaction_one (slice_get charts c))
      (record { world = w; fault = None }) (given ∷ []) (m ∷ []) (m' ∷ []) (m, [], refl, a, refl)
      (m', [], refl, b, refl) in
      let e = all in cc
