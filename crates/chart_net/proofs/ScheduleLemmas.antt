-- What is read of a line of a schedule.
use Rattle.std.proofs.Common.{◌≡◌, ℕ, ◌+◌, ◌^◌, ◌<◌, ◌≤◌, nat_eq, nat_lt, not, cond, Bool, true, false, List, [], ◌∷◌}
use Rattle.std.proofs.Common.{length, map, set, codes, Option, Some, None, Result, Ok, Err, refl, sym, ap, ◌∙◌, subst}
use Rattle.std.proofs.Common.{bytes_eq, position}
use Rattle.std.specs.Prelude.{slice_get, slice_index}
use Rattle.std.specs.List.{position_or_len, prefix_len}
use Rattle.std.proofs.lemmas.List.{length-map}
use Rattle.actions.specs.Names.{Names}
use Rattle.actions.specs.Runs.{CanBeGiven, EventWithInputs}
use Rattle.actions.specs.declared.engine.Engine.{Ghosts as Engine}
use Rattle.actions.specs.declared.event.Event.{Event}
use Rattle.event_file.specs.EventLines.{answer_of, event_of_line, inputs_of, tokens_of, SaysWhatCanBeGiven}
use Rattle.event_file.specs.LineValues.{IsMadeFor}
use Rattle.event_file.specs.declared.fault.LineFault.{LineFault}
use Rattle.event_file.specs.declared.fault.LineFault.TheVariants as faults
use Rattle.chart_net.specs.Changes.{At}
use Rattle.chart_net.specs.Nets.{Net}
use Rattle.chart_net.specs.NetParts.{ChartStands, NetIsKept, charts_of, net_shown}
use Rattle.chart_net.specs.Moving.{ReadsGiven}
use Rattle.chart_net.specs.Schedules.{giving, giving_step, giving_to, step_of_line, step_of_tokens, taking_step}
use Rattle.chart_net.specs.Seats.{IsSeat, chart_of, names_at}
use Rattle.chart_net.specs.declared.net.Net.{Net as Parts}
use Rattle.chart_net.specs.declared.seat.Seat.{Seat}
use Rattle.chart_net.proofs.HoldLemmas.{read_same}
use Rattle.chart_net.proofs.PartLemmas.{at_changed, declared_is, mapped_same, sound_with}

-- ---- lists

prefix_mapped : {A B : Type 0} (f : A → B) (p : B → Bool) (xs : List A) → prefix_len p (map f xs) ≡ prefix_len
    (λ x. p (f x)) xs
prefix_mapped f p [] = refl
prefix_mapped f p (x ∷ xs) = ap (λ n. cond (p (f x)) (1 + n) 0) (prefix_mapped f p xs)

-- the place of the first in a list of which each element is mapped
pub position_mapped : {A B : Type 0} (f : A → B) (p : B → Bool) (xs : List A) → position p (map f xs) ≡ position
    (λ x. p (f x)) xs
position_mapped f p xs =
    let place : position_or_len p (map f xs) ≡ position_or_len (λ x. p (f x)) xs =
    prefix_mapped f (λ x. not (p x)) xs in
    ap (λ n. cond (nat_lt n (length (map f xs))) (Some n) None) place
    ∙ ap (λ m. cond (nat_lt (position_or_len (λ x. p (f x)) xs) m) (Some (position_or_len (λ x. p (f x)) xs)) None)
    (length-map xs f)

-- ---- what a line says

module _ (net : Net) (line : List ℕ) where
  says : (tokens : List (List ℕ)) → tokens_of line ≡ tokens → step_of_line net line ≡ step_of_tokens net tokens
  unfolding step_of_line
  says tokens is = ap (step_of_tokens net) is

  -- no token
  pub says_nothing : tokens_of line ≡ [] → step_of_line net line ≡ Ok None
  says_nothing is = says [] is

  -- a comment
  pub says_comment : (first : List ℕ) (rest : List (List ℕ)) → tokens_of line ≡ first ∷ rest
      → nat_eq (slice_index first 0) 35 ≡ true
      → step_of_line net line ≡ Ok None
  says_comment first rest is hash = says (first ∷ rest) is ∙ rw hash refl

  -- an event
  pub says_event : (first : List ℕ) (rest : List (List ℕ)) → tokens_of line ≡ first ∷ rest
      → nat_eq (slice_index first 0) 35 ≡ false
      → bytes_eq first (codes "ev") ≡ true → step_of_line net line ≡ giving_step net rest
  says_event first rest is hash ev = says (first ∷ rest) is ∙ rw (hash, ev) refl

  -- an item to take
  pub says_take : (first : List ℕ) (rest : List (List ℕ)) → tokens_of line ≡ first ∷ rest
      → nat_eq (slice_index first 0) 35 ≡ false
      → bytes_eq first (codes "ev") ≡ false → bytes_eq first (codes "take") ≡ true
      → step_of_line net line ≡ taking_step net rest
  says_take first rest is hash ev take = says (first ∷ rest) is ∙ rw (hash, ev, take) refl

  -- neither
  pub says_no_step : (first : List ℕ) (rest : List (List ℕ)) → tokens_of line ≡ first ∷ rest
      → nat_eq (slice_index first 0) 35 ≡ false
      → bytes_eq first (codes "ev") ≡ false → bytes_eq first (codes "take") ≡ false → step_of_line net line ≡ Err
      faults.BadStep
  says_no_step first rest is hash ev take = says (first ∷ rest) is ∙ rw (hash, ev, take) refl

-- ---- an event for a chart

module _ (net : Net) (tokens : List (List ℕ)) (name rest : List ℕ) (is : tokens ≡ name ∷ tokens_of rest) where
  -- a chart has it
  pub gives_to_chart : (c : ℕ) (said : Result (Option EventWithInputs) LineFault) → position (bytes_eq name) net.names
      ≡ Some c
      → event_of_line (net.declared c) rest ≡ said → giving_step net tokens ≡ giving c said
  unfolding event_of_line
  gives_to_chart c said there says =
      ap (giving_step net) is ∙ ap (λ (o : Option ℕ). giving_to net o (tokens_of rest)) there
      ∙ ap (λ (r : Result (Option EventWithInputs) LineFault). giving c r) says

-- ---- what is kept where a line was read

-- nothing changed
pub all_kept : {G : Type 0} (members : Engine G) (net : Parts G) → NetIsKept members net net
all_kept members net = record {
  charts = refl;
  routes = refl;
  sound = λ sound. sound;
  stages = λ stages p at. at;
  stands = λ now stands. stands;
}

-- the values of one chart changed
pub values_kept : {G : Type 0} (members : Engine G) (old new : Parts G) (c : ℕ) (before after : Seat G)
    → slice_get old.seats.items c ≡ Some before
    → new.seats.items ≡ set old.seats.items c after → new.routes.items ≡ old.routes.items
    → new.rings.items ≡ old.rings.items
    → after.name ≡ before.name → after.engine ≡ before.engine → after.index ≡ before.index → IsSeat members after
    → NetIsKept members old new
values_kept {G} members old new c before after there seats routes rings name engine index is =
    let chart : chart_of members after ≡ chart_of members before =
    ap (λ (n : List ℕ). record { name = n; program = members.program after.engine }) name
    ∙ ap (λ (e : G). record { name = before.name; program = members.program e }) engine in
    let charts : charts_of members new ≡ charts_of members old =
    ap (map (chart_of members)) seats ∙ mapped_same (chart_of members) old.seats.items c before after there chart in
    record {
      charts = charts;
      routes = routes;
      sound = λ sound. sound_with members old new charts routes
          (λ k. subst (λ (l : List (Seat G)). At l k (IsSeat members)) (sym seats)
          (at_changed (λ n s. IsSeat members s) (λ n s. IsSeat members s) old.seats.items c before after there
          sound.seats (λ n s ne h. h) is k))
          (record {
            count = ap (λ (l : List _). length l) rings ∙ sound.room.count ∙ sym (ap (λ (l : List _). length l) routes);
            caps = λ r route ring at at'. sound.room.caps r route ring
                (sym (ap (λ (l : List _). slice_get l r) routes) ∙ at)
                (sym (ap (λ (l : List _). slice_get l r) rings) ∙ at');
          })
          (λ r route ring at at'. sound.items r route ring at (sym (ap (λ (l : List _). slice_get l r) rings) ∙ at'))
          sound;
      stages = λ stages p at k. subst
          (λ (l : List (Seat G)). At l k (λ (s : Seat G). (members.stage s.engine ≡ stages k) × (s.index ≤ p)))
          (sym seats)
          (at_changed (λ n s. (members.stage s.engine ≡ stages n) × (s.index ≤ p))
          (λ n s. (members.stage s.engine ≡ stages n) × (s.index ≤ p))
          old.seats.items c before after there at (λ n s ne h. h)
          (let h = at c before there in (ap members.stage engine ∙ h.0, subst (λ n. n ≤ p) (sym index) h.1)) k);
      stands = λ now stands. record {
        charts = λ k. subst
            (λ (l : List (Seat G)). At l k
            (λ (s : Seat G). ChartStands (members.stage s.engine) (members.world s.engine) s.index (now.charts k)))
            (sym seats)
            (at_changed (λ n s. ChartStands (members.stage s.engine) (members.world s.engine) s.index (now.charts n))
            (λ n s. ChartStands (members.stage s.engine) (members.world s.engine) s.index (now.charts n))
            old.seats.items c before after there stands.charts (λ n s ne h. h)
            (subst (λ (e : G). ChartStands (members.stage e) (members.world e) after.index (now.charts c)) (sym engine)
            (subst (λ n. ChartStands (members.stage before.engine) (members.world before.engine) n (now.charts c))
            (sym index) (stands.charts c before there))) k);
        waiting = λ r ring at. stands.waiting r ring (sym (ap (λ (l : List _). slice_get l r) rings) ∙ at);
      };
    }

-- ---- what was read

-- an event line was read for a chart, whose values are what it gives
pub given_read : {G : Type 0} (members : Engine G) (net : Parts G) (c : ℕ) (seat : Seat G)
    (said : Result (Option EventWithInputs) LineFault)
    (result : Result (Option Event) LineFault) → slice_get net.seats.items c ≡ Some seat → result ≡ answer_of said
    → seat.vals.values ≡ inputs_of (names_at members seat) said → SaysWhatCanBeGiven (names_at members seat) said
    → ReadsGiven members net c said result
given_read members net c seat (Ok None) result there is vals can = subst (ReadsGiven members net c (Ok None)) (sym is)
    refl
given_read members net c seat (Ok (Some given)) result there is vals can =
    let same : given ≡ record { event = given.event; inputs = seat.vals.values } =
    ap (λ i. record { event = given.event; inputs = i }) (sym vals) in
    subst (ReadsGiven members net c (Ok (Some given))) (sym is)
    (seat, there, ap (λ (g : EventWithInputs). Ok (Some g)) same, subst (CanBeGiven (names_at members seat)) same can)
given_read members net c seat (Err fault) result there is vals can =
    subst (ReadsGiven members net c (Err fault)) (sym is) refl

-- the values of a chart are still made for it
pub seat_read : {G : Type 0} (members : Engine G) (before after : Seat G) → after.engine ≡ before.engine
    → IsMadeFor (names_at members before) after.vals → IsSeat members before → IsSeat members after
seat_read {G} members before after engine made is = record {
  few_events = subst (λ (e : G). length (members.declared (members.program e)).events < 2 ^ 32) (sym engine)
      is.few_events;
  few_data = subst (λ (e : G). length (members.declared (members.program e)).vars < 2 ^ 32) (sym engine) is.few_data;
  vals = subst (λ (e : G). IsMadeFor (members.declared (members.program e)) after.vals) (sym engine) made;
}

-- an event line was read for the chart of that number
pub chart_read : {G : Type 0} (members : Engine G) (old new : Parts G) (c : ℕ) (before after : Seat G) (text : List ℕ)
    (result : Result (Option Event) LineFault) → slice_get old.seats.items c ≡ Some before
    → new.seats.items ≡ set old.seats.items c after
    → after.engine ≡ before.engine → result ≡ answer_of (event_of_line (names_at members before) text)
    → after.vals.values ≡ inputs_of (names_at members before) (event_of_line (names_at members before) text)
    → SaysWhatCanBeGiven (names_at members before) (event_of_line (names_at members before) text)
    → ReadsGiven members new c (event_of_line ((net_shown members old).declared c) text) result
chart_read {G} members old new c before after text result there seats engine answer vals given =
    let names : names_at members after ≡ names_at members before = ap (λ (e : G). members.declared (members.program e))
    engine in
    let said = event_of_line (names_at members before) text in
    let there' : slice_get new.seats.items c ≡ Some after =
    ap (λ (l : List (Seat G)). slice_get l c) seats ∙ read_same old.seats.items c before after there in
    subst (λ (n : Names). ReadsGiven members new c (event_of_line n text) result)
    (sym (declared_is members old c before there))
    (given_read members new c after said result there' answer
    (subst (λ (n : Names). after.vals.values ≡ inputs_of n said) (sym names) vals)
    (subst (λ (n : Names). SaysWhatCanBeGiven n said) (sym names) given))
