-- Where the engine is after the driver's answer.
use Rattle.std.proofs.Common.{◌≡◌, ◌≢◌, ℕ, ◌+◌, Bool, true, false, IsTrue, nat_le, List, [], ◌∷◌, ◌++◌, length, Option}
use Rattle.std.proofs.Common.{Some, None, Result, Ok, Err, refl, sym, ap, ◌∙◌, subst, append_assoc, append-nil}
use Rattle.active_config.specs.Tree.{Tree}
use Rattle.actions.specs.Names.{Names}
use Rattle.actions.specs.Runs.{EventWithInputs, StartRelation, ReactionRelation, ReactsWithInputs}
use Rattle.actions.specs.World.{World}
use Rattle.actions.specs.declared.event.Event.TheVariants.{Start}
use Rattle.event_file.specs.declared.fault.LineFault.{LineFault}
use Rattle.event_file.specs.declared.fault.LineFault.TheVariants as line_faults
use Rattle.event_file.specs.declared.limits.TheConstants.{FILE_EVENT_LIMIT}
use Rattle.event_file.specs.EventFile.{FileOf, Stop, AtEnd, AtLine, AtEvent, AtLimit, event_file}
use Rattle.event_file.specs.EventLines.{event_of_line}
use Rattle.event_file.specs.NextLine.{Nexts}
use Rattle.event_file.specs.Reading.{Reading}
use Rattle.trace_text.specs.Trace.{trace_line}
use Rattle.step_driver.specs.declared.driver.DriveEnd.{DriveEnd}
use Rattle.step_driver.specs.declared.driver.DriveEnd.TheVariants as ends
use Rattle.step_driver.specs.Causes.{is_read}
use Rattle.step_driver.specs.Driving.{answer_of, engine_runs}
use Rattle.step_driver.specs.Leaving.{RanTo, LeftByAll, LeftByFirst, Leaves}
use Rattle.step_driver.specs.NextLines.{Follows}
use Rattle.step_driver.specs.Parts.{Done, Tried, LineTaken, end_of_line}
use Rattle.step_driver.specs.declared.lines.NoLine.{NoLine}
use Rattle.step_driver.specs.declared.lines.NoLine.TheVariants as no_lines
use Rattle.step_driver.specs.Traces.{RunFault, fault_or}
use Rattle.step_driver.proofs.Driven.{Driven, first_text, line_says}
use Rattle.step_driver.proofs.EngineRuns.{so_far}
use Rattle.step_driver.proofs.FileLemmas.{LineSays, events_at, Whole, reads_fills, whole_file, whole_end}
use Rattle.step_driver.proofs.FileLemmas.{whole_too_long, whole_past_file, whole_lines, whole_event, whole_too_many}
use Rattle.step_driver.proofs.FileLemmas.{whole_refused}
use Rattle.step_driver.proofs.FilePlaces.{told}
use Rattle.step_driver.proofs.RunLemmas.{so_far_to, start_to, start_fault_to, event_to, event_fault_to}

-- ---- all events of a file

-- the run over all events had no fault
all_left : {start : StartRelation} {react : ReactionRelation} {n : Names} {before : Option (List ℕ)}
    {events : List EventWithInputs} {w : World}
    (stop : Stop) (result : Result (Unit {0}) DriveEnd)
    → Whole (event_of_line n) before (record { events = events; stop = stop })
    → RanTo start react events w None → result ≡ answer_of None stop → LeftByAll start react n before w result
all_left {start = start} {react = react} {w = w} stop result file to is = record {
  text = file.text;
  is_text = file.is_text;
  fault = None;
  ran = subst (λ (z : List EventWithInputs). RanTo start react z w None)
      (sym (ap (λ (f : FileOf EventWithInputs). f.events) file.are_events)) to;
  answer = is ∙ ap (answer_of None) (sym (ap (λ (f : FileOf EventWithInputs). f.stop) file.are_events));
}

-- all events are the first ones
first_of_all : {start : StartRelation} {react : ReactionRelation} {n : Names} {before : Option (List ℕ)} {w : World}
    {result : Result (Unit {0}) DriveEnd}
    → LeftByAll start react n before w result → LeftByFirst start react n before w
first_of_all {n = n} l = record {
  text = l.text;
  is_text = l.is_text;
  events = (event_file n l.text).events;
  rest = [];
  first_events = sym (append-nil (event_file n l.text).events);
  fault = l.fault;
  ran = l.ran;
}

-- the events so far are the first ones
driven_left : {start : StartRelation} {react : ReactionRelation} {t : Tree} {n : Names} {before left : Option (List ℕ)}
    {r : Reading} {w : World} {index : ℕ} {text : List ℕ}
    → Driven (engine_runs start react t n) (so_far start react t n w) before left r index text
    → LeftByFirst start react n before w
driven_left {n = n} {before = before} {left = left} {r = r} d =
    let file = whole_file (event_of_line n) before r left _ d.reads in
    let later : FileOf EventWithInputs = events_at (event_of_line n) r.at (r.number + 1) (length d.events)
    (r.pending ++ told left) in
    record {
      text = file.text;
      is_text = file.is_text;
      events = d.events;
      rest = later.events;
      first_events = ap (λ (f : FileOf EventWithInputs). f.events) file.are_events;
      fault = None;
      ran = so_far_to d.state;
    }

-- ---- the start

-- the start ends the run
pub start_leaves : (start : StartRelation) (react : ReactionRelation) (t : Tree) (n : Names) (before : Option (List ℕ))
    (never : Bool) (w : World) (P : List ℕ → Type 0) (end : DriveEnd)
    → Done start (λ x f. trace_line t n x 0 Start f) 0 w P (Err end)
    → Leaves start react n before before never w (Err end)
start_leaves start react t n before never w P (ends.Line number fault) done = absurd done
start_leaves start react t n before never w P (ends.Fault index fault) (at, starts, puts) =
    let text = first_text before in
    record {
      text = text.0;
      is_text = text.1;
      fault = Some (record { index = 0; fault = fault });
      ran = start_fault_to start react w fault (event_file n text.0).events starts;
      answer = ap (λ m. Err (ends.Fault m fault)) at;
    }
start_leaves start react t n before never w P ends.Read done = absurd done
start_leaves start react t n before never w P ends.Write (f, starts, puts) =
    let text = first_text before in
    λ _. record {
      text = text.0;
      is_text = text.1;
      events = [];
      rest = (event_file n text.0).events;
      first_events = refl;
      fault = fault_or 0 f None;
      ran = start_to start react w f [] starts refl;
    }
start_leaves start react t n before never w P ends.TooManyLines done = absurd done
start_leaves start react t n before never w P ends.FileTooLong done = absurd done
start_leaves start react t n before never w P ends.Memory puts = tt

-- ---- no line is taken

-- no line is left
pub end_leaves : (start : StartRelation) (react : ReactionRelation) (t : Tree) (n : Names)
    (before left left' : Option (List ℕ)) (never : Bool) (r r' : Reading) (w : World) (index : ℕ) (text : List ℕ)
    → Driven (engine_runs start react t n) (so_far start react t n w) before left r index text
    → Nexts r r' left left' (Ok false)
    → Leaves start react n before left' never w (Ok tt)
end_leaves start react t n before left left' never r r' w index text d next =
    let reads = reads_fills (event_of_line n) before d.events r next.mid left left' d.reads next.fills in
    all_left AtEnd (Ok tt) (whole_end
    (event_of_line n) before d.events next.mid left' reads next.answer.1.0 next.answer.1.1) (so_far_to d.state) refl

-- the next line can't be taken
pub next_leaves : (start : StartRelation) (react : ReactionRelation) (t : Tree) (n : Names)
    (before left left' : Option (List ℕ))
    (never : Bool) (r r' : Reading) (w : World) (index : ℕ) (text : List ℕ) (end : NoLine)
    → Driven (engine_runs start react t n) (so_far start react t n w) before left r index text
    → Follows r r' left left' (Err end) → Leaves start react n before left' never w (Err (end_of_line end))
next_leaves start react t n before left left' never r r' w index text (no_lines.TooLong number) d (is, next) =
    let reads = reads_fills (event_of_line n) before d.events r next.mid left left' d.reads next.fills in
    all_left (AtLine r'.number line_faults.LineTooLong) (Err (ends.Line number line_faults.LineTooLong))
    (whole_too_long (event_of_line n) before d.events next.mid r' left' reads next.answer.1) (so_far_to d.state)
    (ap (λ m. Err (ends.Line m line_faults.LineTooLong)) is)
next_leaves start react t n before left left' never r r' w index text no_lines.FileTooLong d next =
    let reads = reads_fills (event_of_line n) before d.events r next.mid left left' d.reads next.fills in
    all_left AtLimit (Err ends.FileTooLong)
    (whole_past_file (event_of_line n) before d.events next.mid r' left' reads next.answer.1) (so_far_to d.state) refl
next_leaves start react t n before left left' never r r' w index text no_lines.Read d next =
    let reads = reads_fills (event_of_line n) before d.events r next.mid left left' d.reads next.fills in
    let lines = whole_lines (event_of_line n) before d.events next.mid left' reads next.answer.wanted in
    record {
      given = lines.given;
      taken = lines.bytes;
      whole = lines.whole;
      has_whole = lines.has_whole;
      ran = subst (λ (z : List EventWithInputs). RanTo start react z w None)
          (sym (ap (λ (f : FileOf EventWithInputs). f.events) lines.are_events)) (so_far_to d.state);
    }
next_leaves start react t n before left left' never r r' w index text no_lines.Write d next = λ _. driven_left d

-- ---- a line that was taken

-- the line was taken, and the run ends
pub line_leaves : (start : StartRelation) (react : ReactionRelation) (t : Tree) (n : Names)
    (before left left' : Option (List ℕ)) (never : Bool) (r r' : Reading)
    (w w' : World) (index : ℕ) (text : List ℕ) (P : List ℕ → Type 0) (end : DriveEnd)
    → Driven (engine_runs start react t n) (so_far start react t n w) before left r index text
    → Nexts r r' left left' (Ok true)
    → LineTaken react t n r'.number index (event_of_line n r'.line) w w' P (Err end)
    → Leaves start react n before left' never w' (Err end)
line_leaves start react t n before left left' never r r' w w' index text P end d next taken =
    by_said (event_of_line n r'.line) refl taken
  where
    says : LineSays (event_of_line n) before d.events r' left'
    says = line_says (engine_runs start react t n) (so_far start react t n w) before left left' r r' index text d next

    by_end : (e : DriveEnd) (event : EventWithInputs) → nat_le FILE_EVENT_LIMIT (length d.events) ≡ false
        → event_of_line n r'.line ≡ Ok (Some event)
        → Done (ReactsWithInputs react w event) (λ x f. trace_line t n x (index + 1) event.event f) (index + 1) w' P
        (Err e)
        → Leaves start react n before left' never w' (Err e)
    by_end (ends.Line number fault) event few is done = absurd done
    by_end (ends.Fault i fault) event few is (at, stepping, puts) =
        let file = whole_event (event_of_line n) before d.events r' left' event says is few in
        let faulted : Option RunFault = Some (record { index = length d.events + 1; fault = fault }) in
        let i_is : length d.events + 1 ≡ i = ap (λ m. m + 1) d.counted ∙ sym at in
        record {
          text = file.text;
          is_text = file.is_text;
          fault = faulted;
          ran = subst (λ (z : List EventWithInputs). RanTo start react z w' faulted) (sym file.are_events)
              (event_fault_to w' event fault file.later d.state stepping);
          answer = ap (λ m. Err (ends.Fault m fault)) (sym i_is);
        }
    by_end ends.Read event few is done = absurd done
    by_end ends.Write event few is (f, stepping, puts) =
        let file = whole_event (event_of_line n) before d.events r' left' event says is few in
        λ _. record {
          text = file.text;
          is_text = file.is_text;
          events = d.events ++ event ∷ [];
          rest = file.later;
          first_events = file.are_events ∙ sym (append_assoc d.events (event ∷ []) file.later);
          fault = fault_or (length d.events + 1) f None;
          ran = event_to w' event f [] d.state stepping refl;
        }
    by_end ends.TooManyLines event few is done = absurd done
    by_end ends.FileTooLong event few is done = absurd done
    by_end ends.Memory event few is puts = tt

    by_count : (event : EventWithInputs) (b : Bool) → nat_le FILE_EVENT_LIMIT index ≡ b
        → event_of_line n r'.line ≡ Ok (Some event)
        → Tried b react t n index event w w' P (Err end) → Leaves start react n before left' never w' (Err end)
    by_count event true many is (bad, world, puts) =
        let big : nat_le FILE_EVENT_LIMIT (length d.events) ≡ true = ap (nat_le FILE_EVENT_LIMIT) d.counted ∙ many in
        let same : end ≡ ends.TooManyLines = let e = bad in cc in
        let file = whole_too_many (event_of_line n) before d.events r' left' event says is big in
        rw (same, world) (all_left AtEvent (Err ends.TooManyLines) file (so_far_to d.state) refl)
    by_count event false few is (done, one_more) =
        by_end end event (ap (nat_le FILE_EVENT_LIMIT) d.counted ∙ few) is done

    by_said : (said : Result (Option EventWithInputs) LineFault) → event_of_line n r'.line ≡ said
        → LineTaken react t n r'.number index said w w' P (Err end)
        → Leaves start react n before left' never w' (Err end)
    by_said (Ok None) is (bad, _, _) = absurd (cc)
    by_said (Ok (Some event)) is h = by_count event (nat_le FILE_EVENT_LIMIT index) refl is h
    by_said (Err fault) is (bad, world, puts) =
        let same : end ≡ ends.Line r'.number fault = let e = bad in cc in
        let file = whole_refused (event_of_line n) before d.events r' left' fault says is in
        rw (same, world) (all_left (AtLine r'.number fault) (Err (ends.Line r'.number fault)) file
        (so_far_to d.state) refl)

-- ---- what is kept at the end

-- it can't be written, after an answer that wasn't a read fault
pub cut_leaves : (start : StartRelation) (react : ReactionRelation) (n : Names) (before left : Option (List ℕ))
    (never : Bool) (w : World) (result : Result (Unit {0}) DriveEnd)
    → is_read result ≡ false → (IsTrue never → result ≢ Err ends.Memory)
    → Leaves start react n before left never w result
    → Leaves start react n before left never w (Err ends.Write)
cut_leaves start react n before left never w (Ok done) no_read no_want l = λ _. first_of_all l
cut_leaves start react n before left never w (Err (ends.Line number fault)) no_read no_want l = λ _. first_of_all l
cut_leaves start react n before left never w (Err (ends.Fault index fault)) no_read no_want l = λ _. first_of_all l
cut_leaves start react n before left never w (Err ends.Read) no_read no_want l = absurd (cc)
cut_leaves start react n before left never w (Err ends.Write) no_read no_want l = l
cut_leaves start react n before left never w (Err ends.TooManyLines) no_read no_want l = λ _. first_of_all l
cut_leaves start react n before left never w (Err ends.FileTooLong) no_read no_want l = λ _. first_of_all l
cut_leaves start react n before left never w (Err ends.Memory) no_read no_want l = λ yes. absurd (no_want yes refl)
