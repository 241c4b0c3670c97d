-- A move of one chart of a net, and what was put for it.
use Rattle.std.proofs.Common.{◌≡◌, ◌≢◌, ℕ, ◌+◌, ◌^◌, ◌<◌, ◌≤◌, nat_eq, nat_le, nat_lt, Bool, true, false, List, [], ◌∷◌}
use Rattle.std.proofs.Common.{◌++◌, length, map, set, codes, decimal, Option, Some, None, Result, Ok, Err, OnOk}
use Rattle.std.proofs.Common.{if◌then◌else◌, refl, sym, ap, ◌∙◌, subst, arith, length-append}
use Rattle.std.specs.Prelude.{slice_get, slice_index_or}
use Rattle.std.proofs.lemmas.Bool.Decides.{nat_tests}
use Rattle.std.proofs.lemmas.Option.{slice_get_within}
use Rattle.flow_base.specs.declared.fault.Fault.{Fault}
use Rattle.active_config.specs.Tree.{Tree}
use Rattle.actions.specs.Engines.{CanReactTo, Stage, Fresh, Running, stage_after}
use Rattle.actions.specs.Names.{Names}
use Rattle.actions.specs.Runs.{EventWithInputs, Moment}
use Rattle.actions.specs.World.{World}
use Rattle.actions.specs.declared.engine.Engine.{Ghosts as Engine}
use Rattle.actions.specs.declared.engine.Halt.{Halt}
use Rattle.actions.specs.declared.engine.Halt.TheVariants as halts
use Rattle.actions.specs.declared.event.Event.{Event}
use Rattle.actions.specs.declared.event.Event.TheVariants as events
use Rattle.chart_net.specs.Changes.{At}
use Rattle.chart_net.specs.Holding.{Sent, Wait}
use Rattle.chart_net.specs.Nets.{ChartState, NetWorld, RouteState}
use Rattle.chart_net.specs.NetParts.{AreAt, ChartStands, HasOver, PartsFit, StandsFor, charts_of, net_shown, routes_of}
use Rattle.chart_net.specs.NetParts.{started_below}
use Rattle.chart_net.specs.NetRuns.{NetStep, NetMoment, Moved, ChartGives, Moves, Does, after_move, took_also}
use Rattle.chart_net.specs.NetTraces.{Why, ByFault, ByFull, ByEmpty, chart_line, event_at, moment_word, why_moved}
use Rattle.chart_net.specs.Moving.{IsNext, LineDone, MoveEnds, MoveEndsBy, StepDone, StepEnds, StepTried, UnlessMemory}
use Rattle.chart_net.specs.Moving.{answer_after, seat_line, without_number}
use Rattle.chart_net.specs.Causes.{is_memory, is_read, is_write}
use Rattle.chart_net.specs.Seats.{IsSeat, SeatGives, SeatMoves, chart_of, index_after, names_at}
use Rattle.chart_net.specs.Rings.{Queue}
use Rattle.chart_net.specs.Sending.{sends}
use Rattle.chart_net.specs.declared.driver.NetEnd.{NetEnd}
use Rattle.chart_net.specs.declared.driver.NetEnd.TheVariants as ends
use Rattle.chart_net.specs.declared.net.Net.{Net as Parts}
use Rattle.net_text.specs.declared.route.Route.{Route}
use Rattle.chart_net.specs.declared.seat.Seat.{Seat}
use Rattle.event_file.specs.LineValues.{IsMadeFor}
use Rattle.event_file.specs.declared.fault.LineFault.{LineFault}
use Rattle.event_file.specs.declared.limits.TheConstants.{FILE_EVENT_LIMIT}
use Rattle.trace_text.specs.Trace.{IsEventOf, line_with}
use Rattle.chart_net.proofs.HoldLemmas.{read_same}
use Rattle.chart_net.proofs.PartLemmas.{along, at_changed, chart_same, declared_is, mapped_same, name_is, replaced_same}
use Rattle.chart_net.proofs.PartLemmas.{replaced_other, sound_with, tree_is}

-- no answer after a line is that memory ran out
pub answer_no_memory : (failed : Bool) (p : ℕ) (why : Option Why) → is_memory (answer_after failed p why) ≡ false
answer_no_memory true p why = refl
answer_no_memory false p None = refl
answer_no_memory false p (Some (ByFault c fault)) = refl
answer_no_memory false p (Some (ByFull r)) = refl
answer_no_memory false p (Some (ByEmpty r)) = refl

-- where an answer is one after a line, the step was done
pub unless_memory : (failed : Bool) (p : ℕ) (why : Option Why) (result : Result (Unit {0}) NetEnd)
    (wanted done : Type 0)
    → result ≡ answer_after failed p why → done → UnlessMemory (is_memory result) wanted done
unless_memory failed p why result wanted done is h =
    let no : is_memory result ≡ false = ap (λ (r : Result (Unit {0}) NetEnd). is_memory r) is ∙ answer_no_memory failed
    p why in
    subst (λ (b : Bool). UnlessMemory b wanted done) (sym no) h

-- how many events a chart took
took_count : (took : List EventWithInputs) (index : ℕ) (given : Option EventWithInputs) → length took ≡ index
    → length (took_also took given) ≡ index_after index given
took_count took index None is = is
took_count took index (Some given) is = length-append took (given ∷ []) ∙ ap (λ n. n + 1) is

-- a chart that answered so stands for its new state
stands_after : (end : Result (Unit {0}) Halt) (stage : Stage) (w : World) (index : ℕ) (state : ChartState)
    → stage ≡ stage_after end
    → state.world ≡ Some w → length state.took ≡ index → ChartStands stage w index state
stands_after (Ok done) stage w index state is world took =
    subst (λ (s : Stage). ChartStands s w index state) (sym is) (world, took)
stands_after (Err halt) stage w index state is world took = subst (λ (s : Stage). ChartStands s w index state) (sym is)
    tt

-- A chart of a net moved, and the others stayed: what came of it is what the step does.
module _ {G : Type 0} (members : Engine G) (old new : Parts G) (c : ℕ) (before after : Seat G)
    (given : Option EventWithInputs)
    (first now : NetWorld) (step : NetStep) (p : ℕ) (puts : List ℕ → Type 0) (failed : Bool)
    (result : Result (Unit {0}) NetEnd)
    (there : slice_get old.seats.items c ≡ Some before) (seats : new.seats.items ≡ set old.seats.items c after)
    (charts : (k : ℕ)
    → At old.seats.items k (λ seat. ChartStands (members.stage seat.engine) (members.world seat.engine) seat.index
    (now.charts k)))
    (took : length (now.charts c).took ≡ before.index)
    (does : (next : NetMoment) → Moves (net_shown members old) now step c given next → Does (net_shown members old)
    first step next) where
  -- the moment that the move makes
  abbrev moment : Option Fault → NetMoment
  moment fault = record {
    step = step;
    outcome = Moved c given (record { world = members.world after.engine; fault = fault })
        (sends (net_shown members old).routes c (members.world after.engine) fault now.routes).full;
    after = after_move (net_shown members old) now c given
        (record { world = members.world after.engine; fault = fault });
  }

  -- the state of the chart after it
  state_is : (fault : Option Fault)
      → (moment fault).after.charts c ≡ record {
        world = Some (members.world after.engine);
        took =
            took_also (now.charts c).took given;
      }
  state_is fault = replaced_same now.charts c
      (record { world = Some (members.world after.engine); took = took_also (now.charts c).took given })

  -- the net stands for the world after it
  stands_for : (end : Result (Unit {0}) Halt) (fault : Option Fault) (full : Option ℕ) → SeatMoves members before after
      given end
      → Sent (sends (net_shown members old).routes c (members.world after.engine) fault now.routes) new.rings.items full
      → StandsFor members new (moment fault).after
  stands_for end fault full moves sent = record {
    charts = subst (λ (xs : List (Seat G)). (k : ℕ)
        → At xs k (λ seat. ChartStands (members.stage seat.engine) (members.world seat.engine) seat.index
        ((moment fault).after.charts k)))
        (sym seats)
        (at_changed (λ k seat. ChartStands (members.stage seat.engine) (members.world seat.engine) seat.index
        (now.charts k))
        (λ k seat. ChartStands (members.stage seat.engine) (members.world seat.engine) seat.index
        ((moment fault).after.charts k))
        old.seats.items c before after there charts
        (λ k seat other h. subst (ChartStands (members.stage seat.engine) (members.world seat.engine) seat.index)
        (sym (replaced_other now.charts c k
        (record { world = Some (members.world after.engine); took = took_also (now.charts c).took given })
        other)) h)
        (stands_after end (members.stage after.engine) (members.world after.engine) after.index
        ((moment fault).after.charts c) moves.stage
        (ap (λ (s : ChartState). s.world) (state_is fault))
        (ap (λ (s : ChartState). length s.took) (state_is fault) ∙ took_count (now.charts c).took before.index given
        took ∙ sym moves.index)));
    waiting = sent.waiting;
  }

  -- where its line was put
  done_with : (end : Result (Unit {0}) Halt) (fault : Option Fault) (event : Event) → event_at given ≡ event
      → SeatMoves members before after given end
      → ChartGives (net_shown members old) c (now.charts c).world given
      (record { world = members.world after.engine; fault = fault })
      → MoveEnds (net_shown members old) p c after.index event (members.world after.engine) fault now.routes
      new.rings.items puts failed result
      → StepEnds (net_shown members old) first step p (StandsFor members new) puts failed result
  done_with end fault event is moves gives e =
      let m : Moment = record { world = members.world after.engine; fault = fault } in
      let sending = sends (net_shown members old).routes c (members.world after.engine) fault now.routes in
      let count : length ((moment fault).after.charts c).took ≡ after.index =
      ap (λ (s : ChartState). length s.took) (state_is fault) ∙ took_count (now.charts c).took before.index given
      took ∙ sym moves.index in
      let line : chart_line (net_shown members old) p c after.index event m e.full
      ≡ chart_line (net_shown members old) p c (length ((moment fault).after.charts c).took) (event_at given) m
      sending.full =
      ap (λ n. chart_line (net_shown members old) p c n event m e.full) (sym count)
      ∙ ap (λ (ev : Event). chart_line (net_shown members old) p c (length ((moment fault).after.charts c).took) ev
      m e.full) (sym is)
      ∙ ap (λ (f : Option ℕ). chart_line (net_shown members old) p c (length ((moment fault).after.charts c).took)
      (event_at given) m f) e.sent.full_is in
      let answer : result ≡ answer_after failed p (why_moved c fault sending.full) =
      e.answer ∙ ap (λ (f : Option ℕ). answer_after failed p (why_moved c fault f)) e.sent.full_is in
      unless_memory failed p (why_moved c fault sending.full) result (puts []) _ answer (record {
        next = moment fault;
        does = does (moment fault) (record { moment = m; gives = gives; is = refl });
        stands_now = stands_for end fault e.full moves e.sent;
        put = subst puts line e.put;
        answer = answer;
      })

  -- The move ended as the engine answered.
  pub move_done : (end : Result (Unit {0}) Halt) (event : Event) → event_at given ≡ event → SeatMoves members before
      after given end
      → ((fault : Option Fault) → SeatGives members before given (members.world after.engine) fault
      → ChartGives (net_shown members old) c (now.charts c).world given
      (record { world = members.world after.engine; fault = fault }))
      → MoveEndsBy (net_shown members old) p c after.index event (members.world after.engine) end now.routes
      new.rings.items puts failed result
      → StepEnds (net_shown members old) first step p (StandsFor members new) puts failed result
  move_done (Ok done) event is moves gives e = done_with (Ok done) None event is moves (gives None moves.gives) e
  move_done (Err (halts.Fault fault)) event is moves gives e =
      done_with (Err (halts.Fault fault)) (Some fault) event is moves (gives (Some fault) moves.gives) e
  move_done (Err halts.Memory) event is moves gives e =
      let wants : is_memory result ≡ true = ap (λ (r : Result (Unit {0}) NetEnd). is_memory r) e.0 in
      subst (λ (b : Bool). UnlessMemory b (puts [])
      (StepDone (net_shown members old) first step p (StandsFor members new) puts failed result)) (sym wants) e.1

-- ---- the parts of a net after a move

-- a chart has what its steps need after it moved
pub seat_kept : {G : Type 0} (members : Engine G) (before after : Seat G) (given : Option EventWithInputs)
    (end : Result (Unit {0}) Halt)
    → SeatMoves members before after given end → IsSeat members before → IsSeat members after
seat_kept members before after given end moves is = record {
  few_events = subst (λ (p : members.Program). length (members.declared p).events < 2 ^ 32) (sym moves.program)
      is.few_events;
  few_data = subst (λ (p : members.Program). length (members.declared p).vars < 2 ^ 32) (sym moves.program) is.few_data;
  vals = subst (λ (p : members.Program). IsMadeFor (members.declared p) after.vals) (sym moves.program)
      (subst (IsMadeFor (names_at members before)) (sym moves.vals) is.vals);
}

module _ {G : Type 0} (members : Engine G) (old new : Parts G) (c : ℕ) (before after : Seat G)
    (given : Option EventWithInputs) (end : Result (Unit {0}) Halt)
    (there : slice_get old.seats.items c ≡ Some before) (seats : new.seats.items ≡ set old.seats.items c after)
    (moves : SeatMoves members before after given end) where
  -- the charts are the same
  pub charts_moved : charts_of members new ≡ charts_of members old
  charts_moved = ap (map (chart_of members)) seats
      ∙ mapped_same (chart_of members) old.seats.items c before after there
      (chart_same members before after moves.name moves.program)

  -- where memory ran out the chart is at the end of its run
  pub over_moved : (result : Result (Unit {0}) NetEnd) → (result ≡ Err ends.Memory → end ≡ Err halts.Memory)
      → result ≡ Err ends.Memory → HasOver members new
  over_moved result wants is = record {
    number = c;
    seat = after;
    there = ap (λ (l : List (Seat G)). slice_get l c) seats ∙ read_same old.seats.items c before after there;
    over = moves.stage ∙ ap stage_after (wants is);
  }

  -- the parts still fit each other
  pub sound_moved : routes_of new ≡ routes_of old → new.rings.items ≡ old.rings.items → PartsFit members old
      → PartsFit members new
  sound_moved routes rings sound =
      sound_with members old new charts_moved routes
      (λ k. subst (λ (l : List (Seat G)). At l k (IsSeat members)) (sym seats)
      (at_changed (λ n s. IsSeat members s) (λ n s. IsSeat members s) old.seats.items c before after there
      sound.seats (λ n s ne h. h)
      (seat_kept members before after given end moves (sound.seats c before there)) k))
      (record {
        count = ap (λ (l : List Queue). length l) rings ∙ sound.room.count ∙ sym
            (ap (λ (l : List Route). length l) routes);
        caps = λ r route ring at at'. sound.room.caps r route ring
            (sym (ap (λ (l : List Route). slice_get l r) routes) ∙ at)
            (sym (ap (λ (l : List Queue). slice_get l r) rings) ∙ at');
      })
      (λ r route ring at at'. sound.items r route ring at (sym (ap (λ (l : List Queue). slice_get l r) rings) ∙ at'))
      sound

  -- the stages after a move that went well
  pub stages_moved : (stages stages' : ℕ → Stage) (p p' : ℕ) → end ≡ Ok tt
      → ((k : ℕ) → nat_eq k c ≡ false → stages k ≡ stages' k)
      → stages' c ≡ Running → p ≤ p' → index_after before.index given ≤ p' → AreAt members old stages p
      → AreAt members new stages' p'
  stages_moved stages stages' p p' well others here more index at k =
      subst (λ (l : List (Seat G)). At l k (λ (s : Seat G). (members.stage s.engine ≡ stages' k) × (s.index ≤ p')))
      (sym seats)
      (at_changed (λ n s. (members.stage s.engine ≡ stages n) × (s.index ≤ p))
      (λ n s. (members.stage s.engine ≡ stages' n) × (s.index ≤ p'))
      old.seats.items c before after there at (λ n s ne h. (h.0 ∙ others n ne, omega (arith, h.1, more)))
      (moves.stage ∙ ap stage_after well ∙ sym here, subst (λ n. n ≤ p') (sym moves.index) index) k)

-- the line of a chart is its line in the net
pub line_is : {G : Type 0} (members : Engine G) (net : Parts G) (c : ℕ) (seat : Seat G) (p : ℕ) (event : Event)
    (fault : Option Fault) (full : Option ℕ)
    → slice_get net.seats.items c ≡ Some seat
    → seat_line members p seat event fault full
    ≡ chart_line (net_shown members net) p c seat.index event
    (record { world = members.world seat.engine; fault = fault }) full
line_is members net c seat p event fault full there =
    let w = members.world seat.engine in
    let t = members.tree (members.program seat.engine) in
    let n = names_at members seat in
    let shown = net_shown members net in
    ap (λ (name : List ℕ). decimal p ++ codes " " ++ name ++ codes " " ++ line_with t n w seat.index event
    (moment_word n fault full))
    (sym (name_is members net c seat there))
    ∙ ap (λ (tree : Tree). decimal p ++ codes " " ++ slice_index_or shown.names c [] ++ codes " " ++ line_with tree n w
    seat.index event (moment_word n fault full))
    (sym (tree_is members net c seat there))
    ∙ ap (λ (names : Names). decimal p ++ codes " " ++ slice_index_or shown.names c [] ++ codes " "
    ++ line_with (shown.trees c) names w seat.index event (moment_word names fault full))
    (sym (declared_is members net c seat there))

-- no answer after a line is a read fault, and a write fault is one where a write failed
pub answer_no_read : (failed : Bool) (p : ℕ) (why : Option Why) → is_read (answer_after failed p why) ≡ false
answer_no_read true p why = refl
answer_no_read false p None = refl
answer_no_read false p (Some (ByFault c fault)) = refl
answer_no_read false p (Some (ByFull r)) = refl
answer_no_read false p (Some (ByEmpty r)) = refl

pub answer_write : (failed : Bool) (p : ℕ) (why : Option Why) → failed ≡ is_write (answer_after failed p why)
answer_write true p why = refl
answer_write false p None = refl
answer_write false p (Some (ByFault c fault)) = refl
answer_write false p (Some (ByFull r)) = refl
answer_write false p (Some (ByEmpty r)) = refl

-- the answer is that all went well only where there was no fault
pub answer_well : (failed : Bool) (p c : ℕ) (fault : Option Fault) (full : Option ℕ)
    → answer_after failed p (why_moved c fault full) ≡ Ok tt
    → fault ≡ None
answer_well true p c fault full is = absurd cc
answer_well false p c None full is = refl
answer_well false p c (Some f) full is = absurd cc

-- only those below the next number are started once the chart of a number is
pub started_others : (c k : ℕ) → nat_eq k c ≡ false → started_below c k ≡ started_below (c + 1) k
started_others c k other =
    let same : nat_lt k c ≡ nat_lt k (c + 1) = grind (arith, nat_tests) in
    ap (λ (b : Bool). if b then Running else Fresh) same

pub started_here : (c : ℕ) → started_below (c + 1) c ≡ Running
started_here c = let yes : nat_lt c (c + 1) ≡ true = grind (arith, nat_tests) in rw yes refl

pub not_started : (c : ℕ) → started_below c c ≡ Fresh
not_started c = let no : nat_lt c c ≡ false = grind (arith, nat_tests) in rw no refl

-- what holds where all went well holds on that answer
pub on_ok : (A : Type 0) (result : Result (Unit {0}) NetEnd) → (result ≡ Ok tt → A) → OnOk result A
on_ok A (Ok done) h = h refl
on_ok A (Err end) h = tt

-- no answer after a line is that memory ran out
pub answer_not_memory : (failed : Bool) (p : ℕ) (why : Option Why) (result : Result (Unit {0}) NetEnd)
    → result ≡ answer_after failed p why
    → result ≢ Err ends.Memory
answer_not_memory failed p why result is wants =
    absurd (let no = answer_no_memory failed p why in
    let yes : is_memory (answer_after failed p why) ≡ true = ap (λ (r : Result (Unit {0}) NetEnd). is_memory r)
    (sym is ∙ wants) in cc)

-- an event that can be given is an event
pub event_is : (n : Names) (event : Event) → CanReactTo n event → IsEventOf n event
event_is n events.Start can = absurd can
event_is n events.Tick can = tt
event_is n (events.Named e) can = slice_get_within n.events e can.0 can.1

-- ---- the net between the engine's answer and the line

module _ {G : Type 0} (members : Engine G) (old mid : Parts G) (c : ℕ) (before after : Seat G)
    (given : Option EventWithInputs) (end : Result (Unit {0}) Halt)
    (there : slice_get old.seats.items c ≡ Some before) (seats : mid.seats.items ≡ set old.seats.items c after)
    (moves : SeatMoves members before after given end) where
  -- the chart that moved
  pub seat_there : slice_get mid.seats.items c ≡ Some after
  seat_there = ap (λ (l : List (Seat G)). slice_get l c) seats ∙ read_same old.seats.items c before after there

  -- it declares what it did
  names_kept : names_at members after ≡ names_at members before
  names_kept = ap members.declared moves.program

  -- so what holds of what it declares holds at its place
  pub names_there : (P : Names → Type 0) → P (names_at members before)
      → At mid.seats.items c (λ seat. P (names_at members seat))
  names_there P h s at =
      let same : after ≡ s = let here = seat_there in cc in
      subst (λ (x : Seat G). P (names_at members x)) same (subst P (sym names_kept) h)

  -- what ended in the net between ended in the net before
  pub ends_before : (new : List Queue) (p : ℕ) (event : Event) (puts : List ℕ → Type 0) (failed : Bool)
      (result : Result (Unit {0}) NetEnd)
      → routes_of mid ≡ routes_of old
      → At mid.seats.items c (λ seat. (states : ℕ → RouteState) → Wait mid.rings.items states
      → MoveEndsBy (net_shown members mid) p c seat.index event (members.world seat.engine) end states new puts
      failed result)
      → (states : ℕ → RouteState) → Wait mid.rings.items states
      → MoveEndsBy (net_shown members old) p c after.index event (members.world after.engine) end states new puts
      failed result
  ends_before new p event puts failed result routes ended states wait =
      along members mid old (λ net. MoveEndsBy net p c after.index event (members.world after.engine) end states new
      puts failed result)
      (sym (charts_moved members old mid c before after given end there seats moves)) (sym routes)
      (ended after seat_there states wait)

-- what a step of a line did is what the line did
pub line_done : {G : Type 0} (members : Engine G) (old mid : Parts G) (stands : NetWorld → Type 0) (now : NetWorld)
    (number p : ℕ)
    (said : Result (Option NetStep) LineFault) (step : NetStep) (puts : List ℕ → Type 0) (failed : Bool)
    (done : Result (Unit {0}) NetEnd)
    (result : Result ℕ NetEnd) → said ≡ Ok (Some step) → nat_le FILE_EVENT_LIMIT p ≡ false
    → charts_of members mid ≡ charts_of members old
    → routes_of mid ≡ routes_of old → StepEnds (net_shown members mid) now step (p + 1) stands puts failed done
    → without_number result ≡ done
    → IsNext (p + 1) result → LineDone (net_shown members old) now number p said stands puts failed result
line_done members old mid stands now number p said step puts failed done result says few charts routes ends answer
    next =
    let here : StepEnds (net_shown members old) now step (p + 1) stands puts failed done =
    along members mid old (λ net. StepEnds net now step (p + 1) stands puts failed done) (sym charts) (sym routes)
    ends in
    subst (λ (s : Result (Option NetStep) LineFault). LineDone (net_shown members old) now number p s stands puts
    failed result) (sym says)
    (subst (λ (b : Bool). StepTried b (net_shown members old) now step p stands puts failed result) (sym few) (
      subst (λ (r : Result (Unit {0}) NetEnd). StepEnds (net_shown members old) now step (p + 1) stands puts failed r)
          (sym answer) here,
      next,
    ))
