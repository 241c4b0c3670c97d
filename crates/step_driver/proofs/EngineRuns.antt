-- A run of an engine over an event file, as its lines are taken one after the other, and how it ends.
use Rattle.std.proofs.Common.{◌≡◌, ◌≢◌, ℕ, ◌+◌, ◌-◌, ◌<◌, ◌≤◌, ◌⊎◌, Bool, true, false, nat_le, List, [], ◌∷◌, ◌++◌, length, Option}
use Rattle.std.proofs.Common.{Some, None, Result, Ok, Err, refl, sym, ap, ◌∙◌, subst, arith, append-nil, inl, inr}
use Rattle.flow_base.specs.Causes.{Rose, AllStay, NoneFalls}
use Rattle.flow_base.specs.declared.fault.Fault.{Fault}
use Rattle.active_config.specs.Tree.{Tree}
use Rattle.actions.specs.Names.{Names}
use Rattle.actions.specs.Runs.{EventWithInputs, StartRelation, ReactionRelation, ReactsWithInputs}
use Rattle.actions.specs.World.{World}
use Rattle.actions.specs.declared.event.Event.TheVariants.{Start}
use Rattle.event_file.specs.declared.fault.LineFault.{LineFault}
use Rattle.event_file.specs.declared.limits.TheConstants.{FILE_LIMIT, FILE_EVENT_LIMIT}
use Rattle.event_file.specs.EventLines.{event_of_line}
use Rattle.event_file.specs.NextLine.{Nexts}
use Rattle.event_file.specs.Reading.{Reading, unused}
use Rattle.trace_text.specs.Trace.{trace_line}
use Rattle.step_driver.specs.declared.driver.DriveEnd.{DriveEnd}
use Rattle.step_driver.specs.declared.driver.DriveEnd.TheVariants as ends
use Rattle.step_driver.specs.declared.lines.NoLine.{NoLine}
use Rattle.step_driver.specs.declared.lines.NoLine.TheVariants as no_lines
use Rattle.step_driver.specs.Causes.{is_read, is_write, ReadCause, HasReadCause, HasWriteCause}
use Rattle.step_driver.specs.Driving.{Seen, Drives, IsStartLine, engine_runs}
use Rattle.step_driver.specs.Ending.{given_text}
use Rattle.step_driver.specs.NextLines.{failed_to_read, failed_to_write}
use Rattle.step_driver.specs.Parts.{Done, Tried, LineTaken, end_of_line}
use Rattle.step_driver.specs.StepRuns.{StepRuns}
use Rattle.step_driver.specs.Traces.{Ran, RunFault}
use Rattle.step_driver.proofs.Buffered.{DriverLaws, run_of_all, run_of_some}
use Rattle.step_driver.proofs.Driven.{RunLaws, Driven, FirstRun, EndOf, NoLineDone, line_passed, line_stepped}
use Rattle.step_driver.proofs.Driven.{line_refused, line_too_many, line_ended, line_cut, line_wants, begun_first}
use Rattle.step_driver.proofs.Driven.{begun_ended, begun_wants}
use Rattle.step_driver.proofs.FileLemmas.{reads_nothing}
use Rattle.step_driver.proofs.RunLemmas.{SoFar, started, start_faulted, one_more, ran_so_far, event_faulted}

-- one start: every start has that world and no fault
abbrev pub OneStart : StartRelation → Type 0
OneStart start = (w w' : World) (f f' : Option Fault) → start w f → start w' f' → (w ≡ w') × (f ≡ f')

-- a driver's answer where no line could be taken is a read fault where a read failed
pub reads_same : (end : NoLine) → is_read {T = Unit {0}} (Err (end_of_line end)) ≡ failed_to_read (Err end)
reads_same (no_lines.TooLong number) = refl
reads_same no_lines.FileTooLong = refl
reads_same no_lines.Read = refl
reads_same no_lines.Write = refl

-- and a write fault where a write failed
pub writes_same : (end : NoLine) → is_write {T = Unit {0}} (Err (end_of_line end)) ≡ failed_to_write (Err end)
writes_same (no_lines.TooLong number) = refl
writes_same no_lines.FileTooLong = refl
writes_same no_lines.Read = refl
writes_same no_lines.Write = refl

-- no count rose before
pub read_cause : (name : List ℕ) (before between after : List ℕ → ℕ) (end : NoLine) → AllStay before between
    → ReadCause (failed_to_read (Err end)) name between after
    → HasReadCause {T = Unit {0}} name before after (Err (end_of_line end))
read_cause name before between after end stay c = record {
  fault = λ is. subst (λ (m : ℕ). Rose m (after name)) (stay name) (c.fault (sym (reads_same end) ∙ is));
  others = λ is other. c.others (sym (reads_same end) ∙ is) other ∙ stay other;
}

-- no count rose, and the answer is no read fault
pub no_read_fault : (name : List ℕ) (before after : List ℕ → ℕ) (result : Result (Unit {0}) DriveEnd)
    → is_read result ≡ false → AllStay before after → HasReadCause {T = Unit {0}} name before after result
no_read_fault name before after result no_read stay =
    record { fault = λ is. absurd (let both : true ≡ false = sym is ∙ no_read in cc); others = λ _. stay }

-- no count rose, and the end is no read fault
pub no_read_end : (name : List ℕ) (before after : List ℕ → ℕ) (end : DriveEnd)
    → is_read {T = Unit {0}} (Err end) ≡ false → AllStay before after
    → HasReadCause {T = Unit {0}} name before after (Err end)
no_read_end name before after end no_read stay = no_read_fault name before after (Err end) no_read stay

-- no count rose, and the answer is no write fault
pub no_write_fault : (before after : ℕ) (result : Result (Unit {0}) DriveEnd) → is_write result ≡ false → after ≡ before
    → HasWriteCause {T = Unit {0}} before after result
no_write_fault before after result no_write same =
    record { fault = λ is. absurd (let both : true ≡ false = sym is ∙ no_write in cc); others = λ _. same }

-- the count rose, and the answer is a write fault
pub write_fault : (before after : ℕ) → Rose before after → HasWriteCause {T = Unit {0}} before after (Err ends.Write)
write_fault before after rose = record { fault = λ _. rose; others = λ is. absurd (cc) }

-- a count that stays doesn't fall
pub none_falls : (counts : List ℕ → ℕ) → NoneFalls counts counts
none_falls counts = λ other. omega arith

-- a count that was kept so far doesn't fall
pub falls_after : (before between after : ℕ) → between ≡ before → between ≤ after → before ≤ after
falls_after before between after stay later = subst (λ (m : ℕ). m ≤ after) stay later

-- each line takes bytes of the file
pub farther : (r r' : Reading) (left left' : Option (List ℕ)) → Nexts r r' left left' (Ok true)
    → FILE_LIMIT - r'.at < FILE_LIMIT - r.at
farther r r' left left' next =
    let line = next.answer.1 in
    omega (arith, line.at, line.some, line.within, next.fills.at)

-- it isn't that memory ran out
pub never_memory : (end : NoLine) (result : Result (Unit {0}) DriveEnd) → result ≡ Err (end_of_line end)
    → result ≢ Err ends.Memory
never_memory (no_lines.TooLong number) result is e = absurd (cc)
never_memory no_lines.FileTooLong result is e = absurd (cc)
never_memory no_lines.Read result is e = absurd (cc)
never_memory no_lines.Write result is e = absurd (cc)

-- an end of a line that isn't want of memory is none of the run either
pub no_memory : (end : DriveEnd) (line : Result ℕ DriveEnd) → line ≡ Err end → (line ≢ Err ends.Memory)
    → (result : Result (Unit {0}) DriveEnd) → result ≡ Err end → result ≢ Err ends.Memory
no_memory end line of_line not_memory result of_end is =
    let same : end ≡ ends.Memory = cc in
    not_memory (of_line ∙ ap (λ (e : DriveEnd). Err e) same)

module _ (start : StartRelation) (react : ReactionRelation) (t : Tree) (n : Names) where
  -- the runs
  abbrev s : StepRuns
  s = engine_runs start react t n

  -- the run over these events left that world
  abbrev pub so_far : World → List EventWithInputs → List ℕ → Type 0
  so_far w events text = SoFar start react t n events w text

  -- the line of the start
  abbrev start_line : World → Option Fault → List ℕ
  start_line w f = trace_line t n w 0 Start f

  one_line : OneStart start → (a b : List ℕ) → IsStartLine start t n a → IsStartLine start t n b → a ≡ b
  one_line one a b p q =
      let same = one p.world q.world p.fault q.fault p.starts q.starts in
      p.line ∙ ap (λ (w : World). start_line w p.fault) same.0 ∙ ap (λ (f : Option Fault). start_line q.world f) same.1
      ∙ sym q.line

  -- a run over events is one over the first of more events, and there is one start
  pub engine_laws : OneStart start → RunLaws s
  engine_laws one = record {
    first = λ events rest text fault ran. record { events = events; rest = rest; first_events = refl; ran = ran };
    one_begin = one_line one;
  }

  pub no_line_done : (seen : Seen) (end : NoLine) → NoLineDone s seen end
      → Drives start react t n seen (Err (end_of_line end))
  no_line_done seen (no_lines.TooLong number) done = done
  no_line_done seen no_lines.FileTooLong done = done
  no_line_done seen no_lines.Read done = done
  no_line_done seen no_lines.Write done = done

  pub last_run : OneStart start → (before left : Option (List ℕ)) (text : List ℕ) (result : Result (Unit {0}) DriveEnd)
      → is_read result ≡ false → is_write result ≡ false
      → Drives start react t n (given_text (Some []) text before left) result → (text ≡ []) ⊎ FirstRun s before text
  last_run one before left text (Ok done) no_read no_write d =
      inr (run_of_all s before left text (Ok done) (engine_laws one) d.0)
  last_run one before left text (Err (ends.Line number fault)) no_read no_write d =
      inr (run_of_all s before left text (Err (ends.Line number fault)) (engine_laws one) d.0)
  last_run one before left text (Err (ends.Fault index fault)) no_read no_write d =
      inr (run_of_all s before left text (Err (ends.Fault index fault)) (engine_laws one) d.0)
  last_run one before left text (Err ends.Read) no_read no_write d = absurd (cc)
  last_run one before left text (Err ends.Write) no_read no_write d = absurd (cc)
  last_run one before left text (Err ends.TooManyLines) no_read no_write d =
      inr (run_of_all s before left text (Err ends.TooManyLines) (engine_laws one) d.0)
  last_run one before left text (Err ends.FileTooLong) no_read no_write d =
      inr (run_of_all s before left text (Err ends.FileTooLong) (engine_laws one) d.0)
  last_run one before left text (Err ends.Memory) no_read no_write d = run_of_some s before left text d.0

  -- what the driver of an engine does by its answers
  abbrev pub driver_laws : OneStart start → DriverLaws s (Drives start react t n)
  driver_laws one = record {
    runs = engine_laws one;
    error_of = end_of_line;
    no_line = no_line_done;
    done = λ seen all. all;
    is_read = is_read {T = Unit {0}};
    is_write = is_write {T = Unit {0}};
    reads = reads_same;
    writes = writes_same;
    last = last_run one;
  }

  -- ---- the start

  -- it was taken, and no line
  pub engine_started : (before : Option (List ℕ)) (r : Reading) (w : World) → r ≡ unused → start w None
      → Driven s (so_far w) before before r 0 (start_line w None)
  engine_started before r w fresh starts = record {
    events = [];
    counted = refl;
    limit = omega arith;
    reads = reads_nothing (event_of_line n) before r fresh;
    ran = ran_so_far start react t n [] w (start_line w None) (started start react t n w starts);
    begins = record {
      first = start_line w None;
      is_begin = record { world = w; fault = None; starts = starts; line = refl };
      more = [];
      begins = sym (append-nil (start_line w None));
    };
    state = started start react t n w starts;
  }

  -- it ends the run
  pub start_ends : (left : Option (List ℕ)) (w : World) (P : List ℕ → Type 0) (end : DriveEnd)
      → Done start (λ x f. start_line x f) 0 w P (Err end)
      → (put : List ℕ) × P put
      × EndOf s (Drives start react t n) (is_write {T = Unit {0}} (Err end)) left left put (Err end)
  start_ends left w P (ends.Line number fault) done = absurd done
  start_ends left w P (ends.Fault index fault) (at, starts, puts) = (
    start_line w (Some fault),
    puts,
    λ wrote. begun_ended s wrote left (start_line w (Some fault)) (record { index = 0; fault = fault })
        (Err (ends.Fault index fault)) (λ events. start_faulted start react t n w fault events starts)
        (λ stop. ap (λ m. Err (ends.Fault m fault)) at),
  )
  start_ends left w P ends.Read done = absurd done
  start_ends left w P ends.Write (f, starts, puts) =
      let ran = start_ran f starts in (
        start_line w f,
        puts,
        begun_first s left (start_line w f) ran.0
            (λ events. record { events = []; rest = events; first_events = refl; ran = ran.1 }),
      )
    where
      start_ran : (f : Option Fault) → start w f
          → (fault : Option RunFault) × Ran start react t n [] (start_line w f) fault
      start_ran None starts = (None, ran_so_far start react t n [] w _ (started start react t n w starts))
      start_ran (Some f) starts =
          (Some (record { index = 0; fault = f }), start_faulted start react t n w f [] starts)
  start_ends left w P ends.TooManyLines done = absurd done
  start_ends left w P ends.FileTooLong done = absurd done
  start_ends left w P ends.Memory puts = ([], puts, λ wrote. begun_wants s wrote left [] (λ events. inl refl))

  -- ---- a line that was taken

  module _ (before left left' : Option (List ℕ)) (r r' : Reading) (w w' : World) (index : ℕ) (text : List ℕ)
      (P : List ℕ → Type 0) (d : Driven s (so_far w) before left r index text)
      (next : Nexts r r' left left' (Ok true)) where
    -- the line of an event, by the count of the events before it
    counted_line : (e : EventWithInputs) (f : Option Fault)
        → trace_line t n w' (length d.events + 1) e.event f ≡ trace_line t n w' (index + 1) e.event f
    counted_line e f = ap (λ m. trace_line t n w' (m + 1) e.event f) d.counted

    -- the run goes on after an event
    went_on : (e : EventWithInputs) → ReactsWithInputs react w e w' None
        → so_far w' (d.events ++ e ∷ []) (text ++ trace_line t n w' (index + 1) e.event None)
    went_on e taken =
        subst (λ (z : List ℕ). so_far w' (d.events ++ e ∷ []) (text ++ z)) (counted_line e None)
        (one_more start react t n d.events w w' text e d.state taken)

    went_wrong : (e : EventWithInputs) (f : Fault) (rest : List EventWithInputs)
        → ReactsWithInputs react w e w' (Some f)
        → Ran start react t n (d.events ++ e ∷ rest) (text ++ trace_line t n w' (index + 1) e.event (Some f))
        (Some (record { index = length d.events + 1; fault = f }))
    went_wrong e f rest taken =
        subst (λ (z : List ℕ). Ran start react t n (d.events ++ e ∷ rest) (text ++ z)
        (Some (record { index = length d.events + 1; fault = f }))) (counted_line e (Some f))
        (event_faulted start react t n d.events w w' text e f rest d.state taken)

    -- the run goes on
    pub line_driven : (next_index : ℕ)
        → LineTaken react t n r'.number index (event_of_line n r'.line) w w' P (Ok next_index)
        → (put : List ℕ) × P put × Driven s (so_far w') before left' r' next_index (text ++ put)
    line_driven next_index taken = by_said (event_of_line n r'.line) refl taken
      where
        by_count : (e : EventWithInputs) (b : Bool) → nat_le FILE_EVENT_LIMIT index ≡ b
            → event_of_line n r'.line ≡ Ok (Some e)
            → Tried b react t n index e w w' P (Ok next_index)
            → (put : List ℕ) × P put × Driven s (so_far w') before left' r' next_index (text ++ put)
        by_count e true many is (bad, _, _) = absurd (cc)
        by_count e false few is (done, one) =
            let line : List ℕ = trace_line t n w' (index + 1) e.event None in
            let state = went_on e done.0 in
            let ran = ran_so_far start react t n (d.events ++ e ∷ []) w' (text ++ line) state in (
              line,
              done.1,
              subst (λ (m : ℕ). Driven s (so_far w') before left' r' m (text ++ line)) (sym one)
                  (line_stepped s (so_far w) before left left' r r' index text d next
                  (so_far w') e line is few ran state),
            )

        by_said : (said : Result (Option EventWithInputs) LineFault) → event_of_line n r'.line ≡ said
            → LineTaken react t n r'.number index said w w' P (Ok next_index)
            → (put : List ℕ) × P put × Driven s (so_far w') before left' r' next_index (text ++ put)
        by_said (Ok None) is (same, world, puts) =
            let index_is : next_index ≡ index = let e = same in cc in
            let state = subst (λ (x : World). so_far x d.events text) (sym world) d.state in
            let passed = line_passed s (so_far w) before left left' r r' index text d next (so_far w') is state in (
              [],
              puts,
              rw index_is (subst (λ (z : List ℕ). Driven s (so_far w') before left' r' index z)
                  (sym (append-nil text)) passed),
            )
        by_said (Ok (Some e)) is h = by_count e (nat_le FILE_EVENT_LIMIT index) refl is h
        by_said (Err fault) is (bad, _, _) = absurd (cc)

    -- the run ends
    pub line_fails : (end : DriveEnd) → OneStart start
        → LineTaken react t n r'.number index (event_of_line n r'.line) w w' P (Err end)
        → (put : List ℕ) × P put
        × EndOf s (Drives start react t n) (is_write {T = Unit {0}} (Err end)) before left' (text ++ put) (Err end)
    line_fails end one taken = by_said (event_of_line n r'.line) refl taken
      where
        by_end : (x : DriveEnd) (e : EventWithInputs) → nat_le FILE_EVENT_LIMIT index ≡ false
            → event_of_line n r'.line ≡ Ok (Some e)
            → Done (ReactsWithInputs react w e) (λ y f. trace_line t n y (index + 1) e.event f) (index + 1) w' P (Err x)
            → (put : List ℕ) × P put
            × EndOf s (Drives start react t n) (is_write {T = Unit {0}} (Err x)) before left' (text ++ put) (Err x)
        by_end (ends.Line number fault) e few is done = absurd done
        by_end (ends.Fault i fault) e few is (at, stepping, puts) =
            let line : List ℕ = trace_line t n w' (index + 1) e.event (Some fault) in
            let i_is : i ≡ length d.events + 1 = at ∙ ap (λ m. m + 1) (sym d.counted) in (
              line,
              puts,
              line_ended s (so_far w) before left left' r r' index text d next e line
                  (record { index = length d.events + 1; fault = fault }) (Err (ends.Fault i fault)) is few
                  (λ rest. went_wrong e fault rest stepping) (λ stop. ap (λ m. Err (ends.Fault m fault)) i_is),
            )
        by_end ends.Read e few is done = absurd done
        by_end ends.Write e few is (f, stepping, puts) =
            let line : List ℕ = trace_line t n w' (index + 1) e.event f in
            let ran = event_ran f stepping in (
              line,
              puts,
              line_cut s (so_far w) before left left' r r' index text d next e line ran.0
                  (engine_laws one) is few ran.1,
            )
          where
            event_ran : (f : Option Fault) → ReactsWithInputs react w e w' f → (fault : Option RunFault)
                × Ran start react t n (d.events ++ e ∷ []) (text ++ trace_line t n w' (index + 1) e.event f) fault
            event_ran None taken = (None, ran_so_far start react t n (d.events ++ e ∷ []) w' _ (went_on e taken))
            event_ran (Some f) taken =
                (Some (record { index = length d.events + 1; fault = f }), went_wrong e f [] taken)
        by_end ends.TooManyLines e few is done = absurd done
        by_end ends.FileTooLong e few is done = absurd done
        by_end ends.Memory e few is puts =
            ([], puts, line_wants s (so_far w) before left left' r r' index text d next e (engine_laws one) is few)

        by_count : (e : EventWithInputs) (b : Bool) → nat_le FILE_EVENT_LIMIT index ≡ b
            → event_of_line n r'.line ≡ Ok (Some e)
            → Tried b react t n index e w w' P (Err end)
            → (put : List ℕ) × P put
            × EndOf s (Drives start react t n) (is_write {T = Unit {0}} (Err end)) before left' (text ++ put) (Err end)
        by_count e true many is (bad, _, puts) =
            let same : end ≡ ends.TooManyLines = let b = bad in cc in
            rw same ([], puts, line_too_many s (so_far w) before left left' r r' index text d next e is many)
        by_count e false few is (done, one) = by_end end e few is done

        by_said : (said : Result (Option EventWithInputs) LineFault) → event_of_line n r'.line ≡ said
            → LineTaken react t n r'.number index said w w' P (Err end)
            → (put : List ℕ) × P put
            × EndOf s (Drives start react t n) (is_write {T = Unit {0}} (Err end)) before left' (text ++ put) (Err end)
        by_said (Ok None) is (bad, _, _) = absurd (cc)
        by_said (Ok (Some e)) is h = by_count e (nat_le FILE_EVENT_LIMIT index) refl is h
        by_said (Err fault) is (bad, _, puts) =
            let same : end ≡ ends.Line r'.number fault = let b = bad in cc in
            rw same ([], puts, line_refused s (so_far w) before left left' r r' index text d next fault is)
