-- A run over the steps of a file, as its lines are taken one after the other, and how it ends. What its trace is, is
-- told of any sink that is given all of it.
use Rattle.std.proofs.Common.{◌≡◌, ℕ, ◌+◌, ◌<◌, ◌≤◌, ◌⊎◌, Bool, true, false, nat_le, List, [], ◌∷◌, ◌++◌, length}
use Rattle.std.proofs.Common.{Option, Some, None, Result, Ok, Err, refl, sym, ap, ◌∙◌, subst, arith, append_assoc}
use Rattle.std.proofs.Common.{append-nil, length-append, inl, inr}
use Rattle.std.specs.Io.KnownBytes.{append_known, IsAtEnd}
use Rattle.std.proofs.lemmas.Bool.Decides.{nat_tests}
use Rattle.flow_base.proofs.Pieces.{prepend_known-append}
use Rattle.event_file.specs.declared.fault.LineFault.{LineFault}
use Rattle.event_file.specs.declared.fault.LineFault.TheVariants as line_faults
use Rattle.event_file.specs.declared.limits.TheConstants.{FILE_LIMIT, FILE_EVENT_LIMIT, BUFFER_SIZE}
use Rattle.event_file.specs.EventFile.{FileOf, Stop, AtEnd, AtLine, AtEvent, AtLimit, file_of}
use Rattle.event_file.specs.NextLine.{Nexts}
use Rattle.event_file.specs.Reading.{Reading}
use Rattle.event_file.proofs.LineLemmas.{line_length-le}
use Rattle.step_driver.specs.declared.lines.NoLine.{NoLine}
use Rattle.step_driver.specs.declared.lines.NoLine.TheVariants as no_lines
use Rattle.step_driver.specs.Driving.{Seen, IsText, WroteAll, WroteGiven, WrotePart, WroteSome, TakesNoMore, Wrote}
use Rattle.step_driver.specs.Ending.{Begins, DoneBy, given_text}
use Rattle.step_driver.specs.NextLines.{Follows, failed_to_write}
use Rattle.step_driver.specs.StepRuns.{StepRuns}
use Rattle.step_driver.proofs.FileLemmas.{Reads, LineSays, events_at, Whole, reads_fills, reads_line, whole_file}
use Rattle.step_driver.proofs.FileLemmas.{whole_end, whole_too_long, whole_past_file, whole_lines, taken_events}
use Rattle.step_driver.proofs.FileLemmas.{line_skipped, line_with_event, whole_event, whole_too_many, whole_refused}
use Rattle.step_driver.proofs.FilePlaces.{told, taken_closed, line_at_hand}

-- nothing was written after the trace
pub nothing_more : (wrote : Option (List ℕ)) (text : List ℕ) → append_known wrote text ≡ append_known wrote (text ++ [])
nothing_more wrote text = ap (append_known wrote) (sym (append-nil text))

-- the text of a file of which nothing was taken
pub first_text : (left : Option (List ℕ)) → (text : List ℕ) × IsText left text
first_text None = ([], tt)
first_text (Some bytes) = (bytes, refl)

-- what holds of the runs over any steps: a run is one over the first of more steps, and all traces begin alike
pub record RunLaws (s : StepRuns) : Type 0 where
  pub first : (steps rest : List s.Step) (text : List ℕ) (end : Option s.End) → s.Ran steps text end
      → s.RanFirst (steps ++ rest) text end
  pub one_begin : (a b : List ℕ) → s.IsBegin a → s.IsBegin b → a ≡ b

module _ (s : StepRuns) where
  -- the lines taken so far gave these steps, over which there is a run that didn't end before them; its trace is that
  -- text
  pub record Driven (State : List s.Step → List ℕ → Type 0) (before left : Option (List ℕ)) (r : Reading) (index : ℕ)
      (text : List ℕ) : Type 0 where
    pub events : List s.Step
    pub counted : length events ≡ index
    pub limit : index ≤ FILE_EVENT_LIMIT
    pub reads : Reads s.say before events r left
    pub ran : s.Ran events text None
    pub begins : Begins s text
    pub state : State events text

  -- the run over the first steps of the file has that trace
  pub record FirstRun (before : Option (List ℕ)) (trace : List ℕ) : Type 0 where
    pub text : List ℕ
    pub is_text : IsText before text
    pub end : Option s.End
    pub ran : s.RanFirst (file_of s.say text).events trace end

  -- the run ends with that trace: all is done that the answer says, or a write fails in its last line
  abbrev pub EndOf : DoneBy s → Bool → Option (List ℕ) → Option (List ℕ) → List ℕ → Result (Unit {0}) s.Error → Type 0
  EndOf D false before left trace result =
      (wrote : Option (List ℕ)) → D (given_text wrote trace before left) result
  EndOf D true before left trace result = FirstRun before trace

  -- the trace so far is that of the first steps of the file
  pub driven_first : (State : List s.Step → List ℕ → Type 0) (before left : Option (List ℕ)) (r : Reading) (index : ℕ)
      (text : List ℕ) → RunLaws s → Driven State before left r index text → FirstRun before text
  driven_first State before left r index text laws d =
      let file = whole_file s.say before r left _ d.reads in
      let later : FileOf s.Step =
      events_at s.say r.at (r.number + 1) (length d.events) (r.pending ++ told left) in
      let steps : (file_of s.say file.text).events ≡ d.events ++ later.events =
      ap (λ (f : FileOf s.Step). f.events) file.are_events in
      record {
        text = file.text;
        is_text = file.is_text;
        end = None;
        ran = subst (λ (z : List s.Step). s.RanFirst z text None) (sym steps)
            (laws.first d.events later.events text None d.ran);
      }

  -- ---- the end of the lines

  -- the whole trace is that of the steps so far, and the steps stop so
  pub whole_trace : (wrote before left : Option (List ℕ)) (events : List s.Step) (stop : Stop) (text : List ℕ)
      (result : Result (Unit {0}) s.Error) → Whole s.say before (record { events = events; stop = stop })
      → s.Ran events text None → result ≡ s.answer_of None stop → WroteAll s (given_text wrote text before left) result
  whole_trace wrote before left events stop text result file ran is =
      let are_events : (file_of s.say file.text).events ≡ events = ap
      (λ (f : FileOf s.Step). f.events) file.are_events in
      let at : (file_of s.say file.text).stop ≡ stop = ap (λ (f : FileOf s.Step). f.stop) file.are_events in
      record {
        text = file.text;
        is_text = file.is_text;
        trace = text;
        end = None;
        ran = subst (λ (z : List s.Step). s.Ran z text None) (sym are_events) ran;
        wrote = refl;
        answer = is ∙ ap (s.answer_of None) (sym at);
      }

  -- what was taken is lines whose trace was written, and the bytes at hand
  pub takes_lines : (seen : Seen) (events : List s.Step) (mid : Reading) (text more : List ℕ)
      → Reads s.say seen.left_before events mid seen.left_after → s.Ran events text None → 0 < length mid.pending
      → length mid.pending ≤ BUFFER_SIZE → mid.at + length mid.pending ≤ FILE_LIMIT + 1
      → seen.wrote_after ≡ append_known seen.wrote_before (text ++ more) → TakesNoMore s seen
  takes_lines seen events mid text more reads ran some room file written =
      let lines : List ℕ = reads.place.taken in
      let only = taken_events s.say seen.left_before events mid seen.left_after reads in
      let are_events : (file_of s.say lines).events ≡ events = ap (λ (f : FileOf s.Step). f.events) only in
      inr (record {
        lines = lines;
        ahead = mid.pending;
        taken = reads.place.bytes ∙ prepend_known-append seen.left_after lines mid.pending;
        closed = taken_closed seen.left_before mid seen.left_after reads.place some;
        good = ap (λ (f : FileOf s.Step). f.stop) only;
        few = room;
        within = omega (arith, length-append lines mid.pending, reads.place.sized, file);
        trace = text;
        more = more;
        ran = subst (λ (z : List s.Step). s.Ran z text None) (sym are_events) ran;
        wrote = written;
      })

  -- no line is left
  pub all_driven : (State : List s.Step → List ℕ → Type 0) (wrote before left left' : Option (List ℕ)) (r r' : Reading)
      (index : ℕ) (text : List ℕ) → Driven State before left r index text → Nexts r r' left left' (Ok false)
      → WroteAll s (given_text wrote text before left') (s.answer_of None AtEnd) × IsAtEnd left'
  all_driven State wrote before left left' r r' index text d next =
      let reads = reads_fills s.say before d.events r next.mid left left' d.reads next.fills in (
        whole_trace wrote before left' d.events AtEnd text (s.answer_of None AtEnd)
            (whole_end s.say before d.events next.mid left' reads next.answer.1.0 next.answer.1.1) d.ran refl,
        reads.place.ended next.answer.1.1,
      )

  -- what is done where no line could be taken
  abbrev pub NoLineDone : Seen → NoLine → Type 0
  NoLineDone seen (no_lines.TooLong number) =
      Wrote s seen (s.answer_of None (AtLine number line_faults.LineTooLong))
  NoLineDone seen no_lines.FileTooLong = Wrote s seen (s.answer_of None AtLimit)
  NoLineDone seen no_lines.Read = WroteGiven s seen
  NoLineDone seen no_lines.Write = WrotePart s seen × TakesNoMore s seen

  -- the next line can't be taken
  pub lines_end : (State : List s.Step → List ℕ → Type 0) (wrote before left left' : Option (List ℕ)) (r r' : Reading)
      (index : ℕ) (text : List ℕ) (end : NoLine) → Driven State before left r index text
      → Follows r r' left left' (Err end) → failed_to_write (Err end) ≡ false
      → NoLineDone (given_text wrote text before left') end
  lines_end State wrote before left left' r r' index text (no_lines.TooLong number) d (is, next) whole =
      let reads = reads_fills s.say before d.events r next.mid left left' d.reads next.fills in
      let long = next.answer.1 in
      let some : 0 < length next.mid.pending = omega (arith, long.long, line_length-le next.mid.pending) in (
        whole_trace wrote before left' d.events (AtLine r'.number line_faults.LineTooLong) text _
            (whole_too_long s.say before d.events next.mid r' left' reads long) d.ran
            (ap (λ m. s.answer_of None (AtLine m line_faults.LineTooLong)) is),
        takes_lines (given_text wrote text before left') d.events next.mid text [] reads d.ran some next.room next.file
            (nothing_more wrote text),
      )
  lines_end State wrote before left left' r r' index text no_lines.FileTooLong d next whole =
      let reads = reads_fills s.say before d.events r next.mid left left' d.reads next.fills in
      let past = next.answer.1 in
      let some : 0 < length next.mid.pending = omega (arith, past.held, reads.place.within) in (
        whole_trace wrote before left' d.events AtLimit text _
            (whole_past_file s.say before d.events next.mid r' left' reads past) d.ran refl,
        takes_lines (given_text wrote text before left') d.events next.mid text [] reads d.ran some next.room next.file
            (nothing_more wrote text),
      )
  lines_end State wrote before left left' r r' index text no_lines.Read d next whole =
      let reads = reads_fills s.say before d.events r next.mid left left' d.reads next.fills in
      let lines = whole_lines s.say before d.events next.mid left' reads next.answer.wanted in
      let are_events : (file_of s.say lines.whole).events ≡ d.events =
      ap (λ (f : FileOf s.Step). f.events) lines.are_events in
      record {
        given = lines.given;
        taken = lines.bytes;
        whole = lines.whole;
        has_whole = lines.has_whole;
        good = ap (λ (f : FileOf s.Step). f.stop) lines.are_events;
        short = lines.short;
        within = lines.within;
        trace = text;
        ran = subst (λ (z : List s.Step). s.Ran z text None) (sym are_events) d.ran;
        wrote = refl;
      }
  lines_end State wrote before left left' r r' index text no_lines.Write d next whole = absurd (cc)

  -- ---- a line that was taken

  -- what the line says comes next
  pub line_says : (State : List s.Step → List ℕ → Type 0) (before left left' : Option (List ℕ)) (r r' : Reading)
      (index : ℕ)
      (text : List ℕ) → (d : Driven State before left r index text) → Nexts r r' left left' (Ok true)
      → LineSays s.say before d.events r' left'
  line_says State before left left' r r' index text d next =
      reads_line s.say before d.events next.mid r' left'
      (reads_fills s.say before d.events r next.mid left left' d.reads next.fills) next.answer.1

  -- no more was taken than that line and what is at hand after it
  pub line_takes : (State : List s.Step → List ℕ → Type 0) (wrote before left left' : Option (List ℕ)) (r r' : Reading)
      (index : ℕ) (text more : List ℕ) → Driven State before left r index text → Nexts r r' left left' (Ok true)
      → TakesNoMore s (given_text wrote (text ++ more) before left')
  line_takes State wrote before left left' r r' index text more d next =
      takes_lines (given_text wrote (text ++ more) before left') d.events next.mid text more
      (reads_fills s.say before d.events r next.mid left left' d.reads next.fills) d.ran
      (line_at_hand next.mid r' next.answer.1) next.room next.file refl

  module _ (State : List s.Step → List ℕ → Type 0) (before left left' : Option (List ℕ)) (r r' : Reading) (index : ℕ)
      (text : List ℕ) (d : Driven State before left r index text) (next : Nexts r r' left left' (Ok true)) where
    few_so_far : (b : Bool) → nat_le FILE_EVENT_LIMIT index ≡ b → nat_le FILE_EVENT_LIMIT (length d.events) ≡ b
    few_so_far b is = ap (nat_le FILE_EVENT_LIMIT) d.counted ∙ is

    -- the line is skipped
    pub line_passed : (State' : List s.Step → List ℕ → Type 0) → s.say r'.line ≡ Ok None → State' d.events text
        → Driven State' before left' r' index text
    line_passed State' is state = record {
      events = d.events;
      counted = d.counted;
      limit = d.limit;
      reads = line_skipped s.say before d.events r' left' (line_says State before left left' r r' index text d next) is;
      ran = d.ran;
      begins = d.begins;
      state = state;
    }

    -- the line says a step, after which the run goes on
    pub line_stepped : (State' : List s.Step → List ℕ → Type 0) (step : s.Step) (line : List ℕ)
        → s.say r'.line ≡ Ok (Some step)
        → nat_le FILE_EVENT_LIMIT index ≡ false → s.Ran (d.events ++ step ∷ []) (text ++ line) None
        → State' (d.events ++ step ∷ []) (text ++ line) → Driven State' before left' r' (index + 1) (text ++ line)
    line_stepped State' step line is few ran state = record {
      events = d.events ++ step ∷ [];
      counted = length-append d.events (step ∷ []) ∙ ap (λ m. m + 1) d.counted;
      limit = grind (arith, nat_tests);
      reads = line_with_event s.say before d.events r' left' step
          (line_says State before left left' r r' index text d next) is (few_so_far false few);
      ran = ran;
      begins = record {
        first = d.begins.first;
        is_begin = d.begins.is_begin;
        more = d.begins.more ++ line;
        begins = ap (λ (z : List ℕ). z ++ line) d.begins.begins ∙ append_assoc d.begins.first d.begins.more line;
      };
      state = state;
    }

    -- the steps stop at the line, and nothing is put
    stopped_at : (stop : Stop) → Whole s.say before (record { events = d.events; stop = stop })
        → (wrote : Option (List ℕ))
        → Wrote s (given_text wrote (text ++ []) before left') (s.answer_of None stop)
    stopped_at stop file wrote = (
      whole_trace wrote before left' d.events stop (text ++ []) (s.answer_of None stop) file
          (subst (λ (z : List ℕ). s.Ran d.events z None) (sym (append-nil text)) d.ran) refl,
      line_takes State wrote before left left' r r' index text [] d next,
    )

    -- the line is refused
    pub line_refused : (fault : LineFault) → s.say r'.line ≡ Err fault → (wrote : Option (List ℕ))
        → Wrote s (given_text wrote (text ++ []) before left') (s.answer_of None (AtLine r'.number fault))
    line_refused fault is =
        stopped_at (AtLine r'.number fault) (whole_refused s.say before d.events r' left' fault
        (line_says State before left left' r r' index text d next) is)

    -- the step is one too many
    pub line_too_many : (step : s.Step) → s.say r'.line ≡ Ok (Some step) → nat_le FILE_EVENT_LIMIT index ≡ true
        → (wrote : Option (List ℕ)) → Wrote s (given_text wrote (text ++ []) before left') (s.answer_of None AtEvent)
    line_too_many step is many =
        stopped_at AtEvent (whole_too_many s.say before d.events r' left' step
        (line_says State before left left' r r' index text d next) is (few_so_far true many))

    -- the run ends at the step
    pub line_ended : (step : s.Step) (line : List ℕ) (end : s.End) (result : Result (Unit {0}) s.Error)
        → s.say r'.line ≡ Ok (Some step) → nat_le FILE_EVENT_LIMIT index ≡ false
        → ((rest : List s.Step) → s.Ran (d.events ++ step ∷ rest) (text ++ line) (Some end))
        → ((stop : Stop) → result ≡ s.answer_of (Some end) stop) → (wrote : Option (List ℕ))
        → Wrote s (given_text wrote (text ++ line) before left') result
    line_ended step line end result is few ran answer wrote =
        let file = whole_event s.say before d.events r' left' step
        (line_says State before left left' r r' index text d next) is (few_so_far false few) in (
          record {
            text = file.text;
            is_text = file.is_text;
            trace = text ++ line;
            end = Some end;
            ran = subst (λ (z : List s.Step). s.Ran z (text ++ line) (Some end)) (sym file.are_events) (ran file.later);
            wrote = refl;
            answer = answer (file_of s.say file.text).stop;
          },
          line_takes State wrote before left left' r r' index text line d next,
        )

    -- a write fails in the line of the step
    pub line_cut : (step : s.Step) (line : List ℕ) (end : Option s.End) → RunLaws s → s.say r'.line ≡ Ok (Some step)
        → nat_le FILE_EVENT_LIMIT index ≡ false → s.Ran (d.events ++ step ∷ []) (text ++ line) end
        → FirstRun before (text ++ line)
    line_cut step line end laws is few ran =
        let file = whole_event s.say before d.events r' left' step
        (line_says State before left left' r r' index text d next) is (few_so_far false few) in
        let steps : (d.events ++ step ∷ []) ++ file.later ≡ (file_of s.say file.text).events =
        append_assoc d.events (step ∷ []) file.later ∙ sym file.are_events in
        record {
          text = file.text;
          is_text = file.is_text;
          end = end;
          ran = subst (λ (z : List s.Step). s.RanFirst z (text ++ line) end) steps
              (laws.first (d.events ++ step ∷ []) file.later (text ++ line) end ran);
        }

    -- memory runs out at the step, and nothing is put
    pub line_wants : (step : s.Step) → RunLaws s → s.say r'.line ≡ Ok (Some step) → nat_le FILE_EVENT_LIMIT index ≡ false
        → (wrote : Option (List ℕ))
        → WroteSome s (given_text wrote (text ++ []) before left') × TakesNoMore s
        (given_text wrote (text ++ []) before left')
    line_wants step laws is few wrote =
        let file = whole_event s.say before d.events r' left' step
        (line_says State before left left' r r' index text d next) is (few_so_far false few) in (
          record {
            text = file.text;
            is_text = file.is_text;
            trace = text;
            ran = inr (subst (λ (z : List s.Step). s.RanFirst z text None) (sym file.are_events)
                (laws.first d.events (step ∷ file.later) text None d.ran));
            wrote = ap (append_known wrote) (append-nil text);
          },
          line_takes State wrote before left left' r r' index text [] d next,
        )

  -- ---- before the first line

  -- nothing was taken, and the trace is that of the first steps
  pub begun_first : (before : Option (List ℕ)) (text : List ℕ) (end : Option s.End)
      → ((steps : List s.Step) → s.RanFirst steps text end) → FirstRun before text
  begun_first before text end ran =
      let file = first_text before in
      record { text = file.0; is_text = file.1; end = end; ran = ran (file_of s.say file.0).events }

  -- nothing was taken, and the run ended
  pub begun_ended : (wrote before : Option (List ℕ)) (text : List ℕ) (end : s.End) (result : Result (Unit {0}) s.Error)
      → ((steps : List s.Step) → s.Ran steps text (Some end)) → ((stop : Stop) → result ≡ s.answer_of (Some end) stop)
      → Wrote s (given_text wrote text before before) result
  begun_ended wrote before text end result ran answer =
      let file = first_text before in (
        record {
          text = file.0;
          is_text = file.1;
          trace = text;
          end = Some end;
          ran = ran (file_of s.say file.0).events;
          wrote = refl;
          answer = answer (file_of s.say file.0).stop;
        },
        inl refl,
      )

  -- nothing was taken, and memory ran out
  pub begun_wants : (wrote before : Option (List ℕ)) (text : List ℕ)
      → ((steps : List s.Step) → (text ≡ []) ⊎ s.RanFirst steps text None)
      → WroteSome s (given_text wrote text before before) × TakesNoMore s (given_text wrote text before before)
  begun_wants wrote before text ran =
      let file = first_text before in (
        record {
          text = file.0;
          is_text = file.1;
          trace = text;
          ran = ran (file_of s.say file.0).events;
          wrote = refl;
        },
        inl refl,
      )
