-- A run, as its events are taken one after the other.
use Rattle.std.proofs.Common.{◌≡◌, ℕ, ◌+◌, List, [], ◌∷◌, ◌++◌, length, Option, Some, None, refl, sym, ap, ◌∙◌, subst}
use Rattle.std.proofs.Common.{append_assoc, append-nil, length-append}
use Rattle.actions.specs.Runs.{EventWithInputs, StartRelation, ReactionRelation, Moment, ReactsWithInputs, GoesOn, Runs}
use Rattle.flow_base.specs.declared.fault.Fault.{Fault}
use Rattle.active_config.specs.Tree.{Tree}
use Rattle.actions.specs.Names.{Names}
use Rattle.actions.specs.World.{World}
use Rattle.actions.specs.declared.event.Event.TheVariants.{Start}
use Rattle.trace_text.specs.Trace.{trace_line}
use Rattle.step_driver.specs.Leaving.{RanTo, last_world}
use Rattle.step_driver.specs.Traces.{Ran, fault_or, trace, trace_from, run_fault}

-- the run over these events left this world with no fault, and had this text: what comes of further events goes on from
-- there
pub record SoFar (start : StartRelation) (react : ReactionRelation) (t : Tree) (n : Names)
    (events : List EventWithInputs) (w : World) (text : List ℕ) : Type 0 where
  pub extends : (later : List EventWithInputs) (moments : List Moment)
      → GoesOn react (record { world = w; fault = None }) later moments
      → Ran start react t n (events ++ later) (text ++ trace_from t n (length events + 1) later moments)
      (run_fault (length events + 1) moments)
  pub last : (later : List EventWithInputs) (moments : List Moment)
      (goes : GoesOn react (record { world = w; fault = None }) later moments)
      → last_world (extends later moments goes).moments ≡ last_world (record { world = w; fault = None } ∷ moments)

-- after the start
pub started : (start : StartRelation) (react : ReactionRelation) (t : Tree) (n : Names) (w : World) → start w None
    → SoFar start react t n [] w (trace_line t n w 0 Start None)
started start react t n w starts = record {
  extends = λ later moments goes. record {
    moments = record { world = w; fault = None } ∷ moments;
    runs = (starts, goes);
    traced = refl;
    ended = refl;
  };
  last = λ later moments goes. refl;
}

nothing_after : (react : ReactionRelation) (w : World) (f : Fault) (events : List EventWithInputs)
    → GoesOn react (record { world = w; fault = Some f }) events []
nothing_after react w f [] = refl
nothing_after react w f (event ∷ events) = refl

no_lines : (t : Tree) (n : Names) (index : ℕ) (events : List EventWithInputs) → trace_from t n index events [] ≡ []
no_lines t n index [] = refl
no_lines t n index (event ∷ events) = refl

-- a start with a fault ends the run over any events
pub start_faulted : (start : StartRelation) (react : ReactionRelation) (t : Tree) (n : Names) (w : World) (f : Fault)
    (events : List EventWithInputs) → start w (Some f)
    → Ran start react t n events (trace_line t n w 0 Start (Some f)) (Some (record { index = 0; fault = f }))
start_faulted start react t n w f events starts = record {
  moments = record { world = w; fault = Some f } ∷ [];
  runs = (starts, nothing_after react w f events);
  traced = sym (ap (λ (z : List ℕ). trace_line t n w 0 Start (Some f) ++ z) (no_lines t n 1 events)
      ∙ append-nil (trace_line t n w 0 Start (Some f)));
  ended = refl;
}

-- after one event more
pub one_more : (start : StartRelation) (react : ReactionRelation) (t : Tree) (n : Names) (events : List EventWithInputs)
    (w w' : World) (text : List ℕ) (event : EventWithInputs)
    → SoFar start react t n events w text → ReactsWithInputs react w event w' None
    → SoFar start react t n (events ++ event ∷ []) w' (text ++ trace_line t n w' (length events + 1) event.event None)
one_more start react t n events w w' text event s taken =
    let line : List ℕ = trace_line t n w' (length events + 1) event.event None in
    let count : length (events ++ event ∷ []) ≡ length events + 1 = length-append events (event ∷ []) in
    record {
      extends = λ later moments goes.
          let ran = s.extends (event ∷ later) (record { world = w'; fault = None } ∷ moments)
          (record { world = w'; fault = None }, moments, refl, taken, goes) in
          let k = length events + 1 + 1 in
          let text_is : text ++ (line ++ trace_from t n k later moments) ≡ (text ++ line) ++ trace_from t n
          (length (events ++ event ∷ []) + 1) later moments =
          sym (append_assoc text line (trace_from t n k later moments))
          ∙ ap (λ m. (text ++ line) ++ trace_from t n (m + 1) later moments) (sym count) in
          let steps_are : events ++ (event ∷ later) ≡ (events ++ event ∷ []) ++ later = sym
          (append_assoc events (event ∷ []) later) in
          let fault_is : run_fault k moments ≡ run_fault (length (events ++ event ∷ []) + 1) moments = ap
          (λ m. run_fault (m + 1) moments) (sym count) in
          record {
            moments = ran.moments;
            runs = subst (λ (z : List EventWithInputs). Runs start react z ran.moments) steps_are ran.runs;
            traced = sym text_is ∙ ran.traced ∙ ap (λ (z : List EventWithInputs). trace t n z ran.moments) steps_are;
            ended = ran.ended ∙ fault_is;
          };
      last = λ later moments goes. s.last (event ∷ later) (record { world = w'; fault = None } ∷ moments)
          (record { world = w'; fault = None }, moments, refl, taken, goes);
    }

-- the run so far
pub ran_so_far : (start : StartRelation) (react : ReactionRelation) (t : Tree) (n : Names)
    (events : List EventWithInputs) (w : World) (text : List ℕ)
    → SoFar start react t n events w text → Ran start react t n events text None
ran_so_far start react t n events w text s =
    let ran = s.extends [] [] refl in
    record {
      moments = ran.moments;
      runs = subst (λ (z : List EventWithInputs). Runs start react z ran.moments) (append-nil events) ran.runs;
      traced = sym (append-nil text) ∙ ran.traced
          ∙ ap (λ (z : List EventWithInputs). trace t n z ran.moments) (append-nil events);
      ended = ran.ended;
    }

-- one event more, with a fault, ends the run over any events after it
pub event_faulted : (start : StartRelation) (react : ReactionRelation) (t : Tree) (n : Names)
    (events : List EventWithInputs) (w w' : World) (text : List ℕ) (event : EventWithInputs) (f : Fault)
    (rest : List EventWithInputs) → SoFar start react t n events w text → ReactsWithInputs react w event w' (Some f)
    → Ran start react t n (events ++ event ∷ rest) (text ++ trace_line t n w' (length events + 1) event.event (Some f))
    (Some (record { index = length events + 1; fault = f }))
event_faulted start react t n events w w' text event f rest s taken =
    let line : List ℕ = trace_line t n w' (length events + 1) event.event (Some f) in
    let ran = s.extends (event ∷ rest) (record { world = w'; fault = Some f } ∷ [])
    (record { world = w'; fault = Some f }, [], refl, taken, nothing_after react w' f rest) in
    record {
      moments = ran.moments;
      runs = ran.runs;
      traced = ap (λ (z : List ℕ). text ++ z)
          (sym (append-nil line) ∙ ap (λ (z : List ℕ). line ++ z) (sym (no_lines t n (length events + 1 + 1) rest)))
          ∙ ran.traced;
      ended = ran.ended;
    }

-- ---- where a run leads

-- the run so far led to its world
pub so_far_to : {start : StartRelation} {react : ReactionRelation} {t : Tree} {n : Names}
    {events : List EventWithInputs} {w : World} {text : List ℕ}
    → SoFar start react t n events w text → RanTo start react events w None
so_far_to {start = start} {react = react} {events = events} s =
    let ran = s.extends [] [] refl in
    record {
      moments = ran.moments;
      runs = subst (λ (z : List EventWithInputs). Runs start react z ran.moments) (append-nil events) ran.runs;
      last = s.last [] [] refl;
      ended = ran.ended;
    }

-- the start led to its world
pub start_to : (start : StartRelation) (react : ReactionRelation) (w : World) (f : Option Fault)
    (events : List EventWithInputs) → start w f
    → GoesOn react (record { world = w; fault = f }) events [] → RanTo start react events w (fault_or 0 f None)
start_to start react w f events starts ends =
    record { moments = record { world = w; fault = f } ∷ []; runs = (starts, ends); last = refl; ended = refl }

-- a start with a fault led to its world, whatever the events
pub start_fault_to : (start : StartRelation) (react : ReactionRelation) (w : World) (f : Fault)
    (events : List EventWithInputs) → start w (Some f)
    → RanTo start react events w (Some (record { index = 0; fault = f }))
start_fault_to start react w f events starts = start_to start react w (Some f) events starts
    (nothing_after react w f events)

-- one event more led to its world
pub event_to : {start : StartRelation} {react : ReactionRelation} {t : Tree} {n : Names} {events : List EventWithInputs}
    {w : World} {text : List ℕ}
    (w' : World) (event : EventWithInputs) (f : Option Fault) (rest : List EventWithInputs)
    → SoFar start react t n events w text → ReactsWithInputs react w event w' f
    → GoesOn react (record { world = w'; fault = f }) rest []
    → RanTo start react (events ++ event ∷ rest) w' (fault_or (length events + 1) f None)
event_to w' event f rest s taken ends =
    let next : Moment = record { world = w'; fault = f } in
    let ran = s.extends (event ∷ rest) (next ∷ []) (next, [], refl, taken, ends) in
    record {
      moments = ran.moments;
      runs = ran.runs;
      last = s.last (event ∷ rest) (next ∷ []) (next, [], refl, taken, ends);
      ended = ran.ended;
    }

-- one event more with a fault led to its world, whatever the events after it
pub event_fault_to : {start : StartRelation} {react : ReactionRelation} {t : Tree} {n : Names}
    {events : List EventWithInputs} {w : World} {text : List ℕ}
    (w' : World) (event : EventWithInputs) (f : Fault) (rest : List EventWithInputs)
    → SoFar start react t n events w text → ReactsWithInputs react w event w' (Some f)
    → RanTo start react (events ++ event ∷ rest) w' (Some (record { index = length events + 1; fault = f }))
event_fault_to {react = react} w' event f rest s taken =
    event_to w' event (Some f) rest s taken (nothing_after react w' f rest)
