-- What the driver of a net needs of it before the first start and after the last.
use Rattle.std.proofs.Common.{◌≡◌, ℕ, ◌<◌, ◌≤◌, nat_lt, true, false, List, length, refl, sym, ap, ◌∙◌, subst, arith}
use Rattle.std.proofs.lemmas.Bool.Decides.{nat_tests}
use Rattle.std.proofs.lemmas.List.{length-map}
use Rattle.std.proofs.lemmas.Option.{slice_get_within}
use Rattle.actions.specs.Engines.{Stage, Fresh, Running}
use Rattle.actions.specs.declared.engine.Engine.{Ghosts as Engine}
use Rattle.chart_net.specs.NetParts.{AreAt, ChartStands, IsNet, StandsFor, all_running, charts_of, net_shown, routes_of}
use Rattle.chart_net.specs.NetParts.{started_below}
use Rattle.chart_net.specs.Nets.{ChartOf, net_before, net_of}
use Rattle.chart_net.specs.Seats.{chart_of}
use Rattle.chart_net.specs.declared.net.Net.{Net as Parts}

below_none : (c : ℕ) → started_below 0 c ≡ Fresh
below_none c = let no : nat_lt c 0 ≡ false = grind (arith, nat_tests) in rw no refl

below_all : (n c : ℕ) → c < n → started_below n c ≡ Running
below_all n c few = let yes : nat_lt c n ≡ true = grind (arith, nat_tests) in rw yes refl

module _ {G : Type 0} (members : Engine G) (net : Parts G) where
  -- a net that isn't driven yet stands for the world before the first start
  pub stands_before : IsNet members net → StandsFor members net net_before
  stands_before whole = record {
    charts = λ c seat there.
        let at = whole.fresh c seat there in
        subst (λ (stage : Stage). ChartStands stage (members.world seat.engine) seat.index (net_before.charts c))
        (sym at.0)
        (refl, omega (arith, at.1));
    waiting = λ r ring there. sym (whole.empty r ring there);
  }

  -- none of its charts is started
  pub none_started : IsNet members net → AreAt members net (started_below 0) 0
  none_started whole c seat there =
      let at = whole.fresh c seat there in (at.0 ∙ sym (below_none c), at.1)

  -- after the last start all charts are between two events
  pub all_started : (n : ℕ) → length net.seats.items ≤ n → AreAt members net (started_below n) 0
      → AreAt members net all_running 0
  all_started n all started c seat there =
      let at = started c seat there in
      (at.0 ∙ below_all n c (omega (arith, all, slice_get_within net.seats.items c seat there)), at.1)

  -- it has as many names as charts
  pub names_count : length (net_shown members net).names ≡ length net.seats.items
  names_count =
      length-map (charts_of members net) (λ (chart : ChartOf members.Program). chart.name)
      ∙ length-map net.seats.items (chart_of members)

-- the net shown is that of its charts and routes
pub shown_same : {G : Type 0} (members : Engine G) (old new : Parts G) → charts_of members new ≡ charts_of members old
    → routes_of new ≡ routes_of old → net_shown members new ≡ net_shown members old
shown_same members old new charts routes =
    ap (λ (z : List (ChartOf members.Program)). net_of members z (routes_of new)) charts
    ∙ ap (net_of members (charts_of members old)) routes
