-- Nets whose charts have the same runs have the same runs.
use Rattle.std.proofs.Common.{◌≡◌, ℕ, Bool, true, false, cond, List, [], ◌∷◌, ◌++◌, Option, Some, None, refl, sym, ap}
use Rattle.std.proofs.Common.{◌∙◌, subst, eqb-true}
use Rattle.std.specs.Prelude.{nat_eq, slice_get}
use Rattle.flow_base.specs.declared.fault.Fault.{Fault}
use Rattle.actions.specs.Runs.{EventWithInputs, StartRelation, ReactionRelation, Moment, Runs}
use Rattle.actions.specs.World.{World}
use Rattle.net_text.specs.declared.route.Route.{Route}
use Rattle.chart_net.specs.Nets.{Net, Item, ChartState, NetWorld, net_before, replaced}
use Rattle.chart_net.specs.NetRuns.{NetStep, Starts, Gives, Takes, NetMoment, ChartGives, took_also, Moves}
use Rattle.chart_net.specs.NetRuns.{event_of_item, next_item, with_got, TakesItem, TakesFrom, Does, is_well, goes_on}
use Rattle.chart_net.specs.NetRuns.{UnlessOver}
use Rattle.chart_net.specs.NetRuns.{NetGoesOn}
use Rattle.commands.proofs.LaterMoments.{well, EndsAt, one_later, last_given, ends_later}

-- every run of a chart of the first net is one of the chart of the second
abbrev pub ChartsRunToo : (ℕ → StartRelation) → (ℕ → ReactionRelation) → (ℕ → StartRelation) → (ℕ → ReactionRelation)
    → Type 0
ChartsRunToo starts reacts starts' reacts' =
    (c : ℕ) (events : List EventWithInputs) (moments : List Moment) → Runs (starts c) (reacts c) events moments
    → Runs (starts' c) (reacts' c) events moments

-- a run over the events that a chart took left its world without a fault; a chart that isn't started took none
abbrev Reached : StartRelation → ReactionRelation → Option World → List EventWithInputs → Type 0
Reached start react None took = took ≡ []
Reached start react (Some w) took =
    (first : Moment) × (moments : List Moment) × Runs start react took (first ∷ moments) × EndsAt first took moments w

-- all charts of a net are so
abbrev AllReached : (ℕ → StartRelation) → (ℕ → ReactionRelation) → NetWorld → Type 0
AllReached starts reacts before = (c : ℕ) → Reached (starts c) (reacts c) (before.charts c).world (before.charts c).took

-- a moment without a fault is that of its world
well_is : (m : Moment) → m.fault ≡ None → m ≡ well m.world
well_is m e = ap (λ (f : Option Fault). record { world = m.world; fault = f }) e

module _ (net : Net) (starts : ℕ → StartRelation) (reacts : ℕ → ReactionRelation)
    (to : ChartsRunToo net.starts net.reacts starts reacts) where
  -- the net with other runs of its charts
  abbrev pub other : Net
  other = record net { starts = starts; reacts = reacts }

  -- ---- one step

  -- what a chart gives in the first net it gives in the second
  gives_too : (c : ℕ) (world : Option World) (took : List EventWithInputs) (given : Option EventWithInputs) (m : Moment)
      → Reached (net.starts c) (net.reacts c) world took → ChartGives net c world given m
      → ChartGives other c world given m
  gives_too c None took None m reached h = (to c [] (m ∷ []) (h, refl)).0
  gives_too c None took (Some given) m reached h = h
  gives_too c (Some w) took None m reached h = h
  gives_too c (Some w) took (Some given) m reached h =
      let more = one_later (net.reacts c) reached.0 took reached.1 w given m reached.3 reached.2.1 h in
      let both = to c (took ++ given ∷ []) (reached.0 ∷ (reached.1 ++ m ∷ [])) (reached.2.0, more) in
      last_given (reacts c) reached.0 took reached.1 w given m reached.3 both.1

  -- and where it has no fault, a run left its world
  reached_later : (c : ℕ) (world : Option World) (took : List EventWithInputs) (given : Option EventWithInputs)
      (m : Moment)
      → Reached (net.starts c) (net.reacts c) world took → ChartGives net c world given m → m.fault ≡ None
      → Reached (net.starts c) (net.reacts c) (Some m.world) (took_also took given)
  reached_later c None took None m reached h e =
      subst (λ (t : List EventWithInputs). Reached (net.starts c) (net.reacts c) (Some m.world) t) (sym reached)
      (m, [], (h, refl), well_is m e)
  reached_later c None took (Some given) m reached h e = absurd h
  reached_later c (Some w) took None m reached h e = absurd h
  reached_later c (Some w) took (Some given) m reached h e = (
    reached.0,
    reached.1 ++ m ∷ [],
    (reached.2.0, one_later (net.reacts c) reached.0 took reached.1 w given m reached.3 reached.2.1 h),
    ends_later reached.0 took reached.1 w m.world given m reached.3 (well_is m e),
  )

  -- a chart moves in the second net as in the first
  moves_too : (before : NetWorld) (step : NetStep) (c : ℕ) (given : Option EventWithInputs) (next : NetMoment)
      → AllReached net.starts net.reacts before → Moves net before step c given next
      → Moves other before step c given next
  moves_too before step c given next reached h = record {
    moment = h.moment;
    gives = gives_too c (before.charts c).world (before.charts c).took given h.moment (reached c) h.gives;
    is = h.is;
  }

  -- a run goes on only after a moment without a fault
  no_fault : (f : Option Fault) (full : Option ℕ) → is_well f full ≡ true → f ≡ None
  no_fault None full e = refl
  no_fault (Some fault) full e = absurd cc

  -- where one chart is replaced, all are as they shall be
  all_replaced : (before : NetWorld) (c : ℕ) (state : ChartState) → AllReached net.starts net.reacts before
      → Reached (net.starts c) (net.reacts c) state.world state.took
      → (k : ℕ) → Reached (net.starts k) (net.reacts k) (replaced before.charts c state k).world
      (replaced before.charts c state k).took
  all_replaced before c state reached here k = go (nat_eq k c) refl
    where
      go : (b : Bool) → nat_eq k c ≡ b
          → Reached (net.starts k) (net.reacts k) (cond b state (before.charts k)).world
          (cond b state (before.charts k)).took
      go true e =
          subst (λ (n : ℕ). Reached (net.starts n) (net.reacts n) state.world state.took) (sym (eqb-true k c e)) here
      go false e = reached k

  -- after a chart moved and the run goes on, runs left the worlds of all charts
  moved_on : (before : NetWorld) (step : NetStep) (c : ℕ) (given : Option EventWithInputs) (next : NetMoment)
      → AllReached net.starts net.reacts before → Moves net before step c given next → goes_on next.outcome ≡ true
      → AllReached net.starts net.reacts next.after
  moved_on before step c given next reached h e =
      let fine = no_fault h.moment.fault _ (ap (λ (n : NetMoment). goes_on n.outcome) (sym h.is) ∙ e) in
      let here = reached_later c (before.charts c).world (before.charts c).took given h.moment
      (reached c) h.gives fine in
      subst (λ (n : NetMoment). AllReached net.starts net.reacts n.after) (sym h.is)
      (all_replaced before c (record {
        world = Some h.moment.world;
        took = took_also
            (before.charts c).took given;
      }) reached here)

  -- what a step does in the first net it does in the second, and where the run goes on, runs left the worlds of all
  -- charts
  abbrev StepToo : NetWorld → NetStep → NetMoment → Type 0
  StepToo before step next =
      Does other before step next × (goes_on next.outcome ≡ true → AllReached net.starts net.reacts next.after)

  -- a chart that moves
  step_moves : (before : NetWorld) (step : NetStep) (c : ℕ) (given : Option EventWithInputs) (next : NetMoment)
      → AllReached net.starts net.reacts before → Moves net before step c given next
      → Moves other before step c given next × (goes_on next.outcome ≡ true
      → AllReached net.starts net.reacts next.after)
  step_moves before step c given next reached h =
      (moves_too before step c given next reached h, moved_on before step c given next reached h)

  -- an item that is taken
  takes_too : (before : NetWorld) (r : ℕ) (route : Route) (item : Option Item) (next : NetMoment)
      → AllReached net.starts net.reacts before → TakesItem net before r route item next
      → TakesItem other before r route item next × (goes_on next.outcome ≡ true
      → AllReached net.starts net.reacts next.after)
  takes_too before r route None next reached h =
      (h, λ e. absurd (let bad = ap (λ (n : NetMoment). goes_on n.outcome) (sym h) ∙ e in cc))
  takes_too before r route (Some item) next reached h =
      step_moves (with_got before r item) (Takes r) route.to (Some (event_of_item net route item)) next reached h

  -- a step from a route, if there is one
  route_too : (before : NetWorld) (r : ℕ) (o : Option Route) (next : NetMoment)
      → AllReached net.starts net.reacts before
      → TakesFrom net before r o next
      → TakesFrom other before r o next × (goes_on next.outcome ≡ true → AllReached net.starts net.reacts next.after)
  route_too before r None next reached h = absurd h
  route_too before r (Some route) next reached h = takes_too before r route (next_item (before.routes r)) next reached h

  -- any step
  step_too : (before : NetWorld) (step : NetStep) (next : NetMoment) → AllReached net.starts net.reacts before
      → Does net before step next → StepToo before step next
  step_too before (Starts c) next reached h = step_moves before (Starts c) c None next reached h
  step_too before (Gives c given) next reached h = step_moves before (Gives c given) c (Some given) next reached h
  step_too before (Takes r) next reached h = route_too before r (slice_get net.routes r) next reached h

  -- ---- runs

  -- steps from a world of the net
  goes_too : (before : NetWorld) (steps : List NetStep) (moments : List NetMoment)
      → AllReached net.starts net.reacts before
      → NetGoesOn net before steps moments → NetGoesOn other before steps moments
  goes_too before [] moments reached h = h
  goes_too before (step ∷ steps) moments reached h =
      let next = h.0 in
      let does = step_too before step next reached h.3 in (
        next,
        h.1,
        h.2,
        does.0,
        rest (goes_on next.outcome) does.1 h.4 (λ now more. goes_too next.after steps h.1 now
            more),
      )
    where
      rest : (b : Bool) → (b ≡ true → AllReached net.starts net.reacts h.0.after)
          → UnlessOver b h.1 (NetGoesOn net h.0.after steps h.1)
          → (AllReached net.starts net.reacts h.0.after → NetGoesOn net h.0.after steps h.1
          → NetGoesOn other h.0.after steps h.1)
          → UnlessOver b h.1 (NetGoesOn other h.0.after steps h.1)
      rest true now more later = later (now refl) more
      rest false now more later = more

  -- steps of the net from its beginning
  pub net_goes_too : (steps : List NetStep) (moments : List NetMoment) → NetGoesOn net net_before steps moments
      → NetGoesOn other net_before steps moments
  net_goes_too steps moments h = goes_too net_before steps moments (λ c. refl) h
