-- What a file says, as its lines are taken one after the other.
use Rattle.std.proofs.Common.{◌≡◌, ℕ, ◌+◌, ◌<◌, ◌≤◌, Bool, true, false, nat_lt, nat_le, List, [], ◌∷◌, ◌++◌, length}
use Rattle.std.proofs.Common.{take, drop, Option, Some, None, Result, Ok, Err, refl, sym, ap, ◌∙◌, subst, arith}
use Rattle.std.proofs.Common.{append_assoc, append-nil, length-append, inl, inr}
use Rattle.event_file.specs.declared.limits.TheConstants.{LINE_LIMIT, FILE_LIMIT, FILE_EVENT_LIMIT}
use Rattle.std.specs.Io.KnownBytes.{prepend_known}
use Rattle.std.proofs.lemmas.Bool.Decides.{nat_tests}
use Rattle.std.proofs.lemmas.List.{length-take-le}
use Rattle.flow_base.proofs.Pieces.{prepend_known-append}
use Rattle.event_file.specs.declared.fault.LineFault.{LineFault}
use Rattle.event_file.specs.declared.fault.LineFault.TheVariants as faults
use Rattle.event_file.specs.EventFile.{FileOf, Stop, AtEnd, AtLine, AtEvent, AtLimit, stopped, begun_by, with_line}
use Rattle.event_file.specs.EventFile.{with_limit, events_of, file_of}
use Rattle.event_file.specs.Limits.{Limit, TooLong, PastFile, line_limit}
use Rattle.event_file.specs.Lines.{lines_of, line_length, without_return, IsPlain, spelled}
use Rattle.event_file.specs.NextLine.{TakesLine, IsTooLong, IsPastFile, Fills}
use Rattle.event_file.specs.Reading.{Reading, unused, is_ready}
use Rattle.event_file.proofs.LineLemmas.{line_length-le, lines_of-closed, lines_of-open, lines_of-first}
use Rattle.event_file.proofs.LineLemmas.{line_length-append, plain_all}
use Rattle.step_driver.specs.Driving.{IsText, HasWhole}
use Rattle.step_driver.proofs.FilePlaces.{Place, MayCome, prepend_none, kept_end, all_taken, closed_after, not_all}
use Rattle.step_driver.proofs.FilePlaces.{line_at_hand, told, told_end, told_text, not_ready}

-- ---- the limits of a line

no_limit : (long : Bool) (at n : ℕ) → n ≤ LINE_LIMIT → at + n + 1 ≤ FILE_LIMIT → line_limit long at n ≡ None
no_limit long at n short within = grind (arith, nat_tests)

no_limit_short : (at n : ℕ) → n ≤ LINE_LIMIT → line_limit false at n ≡ None
no_limit_short at n short = grind (arith, nat_tests)

long_limit : (long : Bool) (at n : ℕ) → LINE_LIMIT < n → at + LINE_LIMIT < FILE_LIMIT
    → line_limit long at n ≡ Some TooLong
long_limit long at n over early = grind (arith, nat_tests)

past_limit : (at n len : ℕ) → FILE_LIMIT ≤ at + n → FILE_LIMIT < at + len → FILE_LIMIT ≤ at + LINE_LIMIT
    → line_limit (nat_lt FILE_LIMIT (at + len)) at n ≡ Some PastFile
past_limit at n len past held first = grind (arith, nat_tests)

-- ---- what each line says is given by a function

module _ {A : Type 0} (say : List ℕ → Result (Option A) LineFault) where
  -- the events of a text that begins at that place of the file
  abbrev pub events_at : ℕ → ℕ → ℕ → List ℕ → FileOf A
  events_at at number count text = events_of say (nat_lt FILE_LIMIT (at + length text)) at number count (lines_of text)

  -- events in front
  abbrev pub after_events : List A → FileOf A → FileOf A
  after_events events file = record { events = events ++ file.events; stop = file.stop }

  -- ---- one line

  at_closed : (long : Bool) (at number count : ℕ) (raw text : List ℕ) → line_limit long at (length raw) ≡ None
      → events_of say long at number count (raw ∷ lines_of text)
      ≡ with_line number count (say (without_return raw))
      (λ next. events_of say long (at + (length raw + 1)) (number + 1) next (lines_of text))
  unfolding events_of
  at_closed long at number count raw text none =
      ap (λ (l : Option Limit). with_limit l number (with_line number count (say (without_return raw))
      (λ next. events_of say long (at + (length raw + 1)) (number + 1) next (lines_of text)))) none

  at_open : (long long' : Bool) (at at' number count : ℕ) (raw : List ℕ) → line_limit long at (length raw) ≡ None
      → events_of say long at number count (raw ∷ [])
      ≡ with_line number count (say (without_return raw)) (λ next. events_of say long' at' (number + 1) next [])
  unfolding events_of
  at_open long long' at at' number count raw none =
      ap (λ (l : Option Limit). with_limit l number (with_line number count (say (without_return raw))
      (λ next. stopped AtEnd))) none

  at_line : (at number count : ℕ) (raw text : List ℕ) (closed : Bool) → IsPlain raw → length raw ≤ LINE_LIMIT
      → at + length (spelled raw closed) ≤ FILE_LIMIT → 0 < length (spelled raw closed) → (closed ≡ false → text ≡ [])
      → events_at at number count (spelled raw closed ++ text)
      ≡ with_line number count (say (without_return raw))
      (λ next. events_at (at + length (spelled raw closed)) (number + 1) next text)
  at_line at number count raw text true plain short within some last =
      let one : length (raw ++ 10 ∷ []) ≡ length raw + 1 = length-append raw (10 ∷ []) in
      let long = nat_lt FILE_LIMIT (at + (length raw + 1) + length text) in
      let whole : at + length ((raw ++ 10 ∷ []) ++ text) ≡ at + (length raw + 1) + length text =
      omega (arith, length-append (raw ++ 10 ∷ []) text) in
      let lines : lines_of ((raw ++ 10 ∷ []) ++ text) ≡ raw ∷ lines_of text =
      ap lines_of (append_assoc raw (10 ∷ []) text) ∙ lines_of-closed raw text plain in
      let none : line_limit long at (length raw) ≡ None = no_limit long at (length raw) short (omega arith) in
      ap (λ m. events_of say (nat_lt FILE_LIMIT m) at number count (lines_of ((raw ++ 10 ∷ []) ++ text))) whole
      ∙ ap (events_of say long at number count) lines
      ∙ at_closed long at number count raw text none
      ∙ ap (λ m. with_line number count (say (without_return raw))
      (λ next. events_at (at + m) (number + 1) next text)) (sym one)
  at_line at number count raw text false plain short within some last =
      let nothing : text ≡ [] = last refl in
      let long : nat_lt FILE_LIMIT (at + length (raw ++ [])) ≡ false =
      let e = append-nil raw in grind (arith, nat_tests) in
      let lines : lines_of (raw ++ []) ≡ raw ∷ [] = ap lines_of (append-nil raw) ∙ lines_of-open raw plain some in
      rw nothing (ap (λ b. events_of say b at number count (lines_of (raw ++ []))) long
      ∙ ap (events_of say false at number count) lines
      ∙ at_open false _ at _ number count raw (no_limit_short at (length raw) short))

  -- ---- a line past a limit

  at_limit : (at number count : ℕ) (text : List ℕ) (limit : Limit) → 0 < length text
      → line_limit (nat_lt FILE_LIMIT (at + length text)) at (line_length text) ≡ Some limit
      → events_at at number count text ≡ with_limit (Some limit) number (stopped AtEnd)
  unfolding events_of
  at_limit at number count text limit some is =
      let raw : List ℕ = take (line_length text) text in
      let len : length raw ≡ line_length text = length-take-le (line_length text) text (line_length-le text) in
      let long = nat_lt FILE_LIMIT (at + length text) in
      let is' : line_limit long at (length raw) ≡ Some limit = ap (line_limit long at) len ∙ is in
      ap (events_of say long at number count) (lines_of-first text some)
      ∙ ap (λ (l : Option Limit). with_limit l number (with_line number count (say (without_return raw))
      (λ next. events_of say long (at + (length raw + 1)) (number + 1) next
      (lines_of (drop (line_length text + 1) text))))) is'
      ∙ either limit
    where
      either : (l : Limit) → with_limit (Some l) number
          (with_line number count (say (without_return (take (line_length text) text)))
          (λ next. events_of say (nat_lt FILE_LIMIT (at + length text))
          (at + (length (take (line_length text) text) + 1))
          (number + 1) next (lines_of (drop (line_length text + 1) text))))
          ≡ with_limit (Some l) number (stopped AtEnd)
      either TooLong = refl
      either PastFile = refl

  pub at_too_long : (at number count : ℕ) (pending rest : List ℕ) → LINE_LIMIT < line_length pending
      → at + LINE_LIMIT < FILE_LIMIT → events_at at number count (pending ++ rest) ≡ stopped
      (AtLine number faults.LineTooLong)
  at_too_long at number count pending rest over early =
      let text : List ℕ = pending ++ rest in
      let more : line_length pending ≤ line_length text = line_length-append pending rest in
      let fits : line_length text ≤ length text = line_length-le text in
      at_limit at number count text TooLong (omega arith) (long_limit _ at (line_length text) (omega arith) early)

  pub at_past_file : (at number count : ℕ) (pending rest : List ℕ) → at ≤ FILE_LIMIT
      → FILE_LIMIT ≤ at + line_length pending → FILE_LIMIT < at + length pending → FILE_LIMIT ≤ at + LINE_LIMIT
      → events_at at number count (pending ++ rest) ≡ stopped AtLimit
  at_past_file at number count pending rest within past held first =
      let text : List ℕ = pending ++ rest in
      let more : line_length pending ≤ line_length text = line_length-append pending rest in
      let len : length text ≡ length pending + length rest = length-append pending rest in
      let some : 0 < length text = omega arith in
      at_limit at number count text PastFile some
      (past_limit at (line_length text) (length text) (omega arith) (omega arith) first)

  pub at_end : (at number count : ℕ) → events_at at number count [] ≡ stopped AtEnd
  unfolding events_of
  at_end at number count = refl

  -- ---- where a reader is in a file

  -- a reader is there, and the events of the file are what is said of the bytes to come
  pub record Comes (before : Option (List ℕ)) (r : Reading) (left : Option (List ℕ))
      (rest : List ℕ → FileOf A) : Type 0 where
    pub place : Place before r left
    pub file : (to_come : List ℕ) → MayCome r to_come → file_of say (place.taken ++ to_come) ≡ rest to_come

  -- these events were taken
  abbrev pub Reads : Option (List ℕ) → List A → Reading → Option (List ℕ) → Type 0
  Reads before events r left =
      Comes before r left (λ to_come. after_events events (events_at r.at (r.number + 1) (length events) to_come))

  -- nothing was read
  pub reads_nothing : (left : Option (List ℕ)) (r : Reading) → r ≡ unused → Reads left [] r left
  reads_nothing left r is = subst (λ (r : Reading). Reads left [] r left) (sym is) (record {
    place = record {
      taken = [];
      bytes = prepend_none left;
      sized = refl;
      closed = inl refl;
      within = omega arith;
      ended = λ no. absurd (cc);
      failed = refl;
    };
    file = λ to_come _. ap (λ m. events_of say (nat_lt FILE_LIMIT m) 0 1 0 (lines_of to_come))
        (zero_in_front (length to_come));
  })
    where
      zero_in_front : (m : ℕ) → m ≡ 0 + m
      zero_in_front m = omega arith

  -- more bytes were read
  pub reads_fills : (before : Option (List ℕ)) (events : List A) (old mid : Reading) (left left' : Option (List ℕ))
      → Reads before events old left → Fills old mid left left' → Reads before events mid left'
  reads_fills before events old mid left left' r f = record {
    place = record {
      taken = r.place.taken;
      bytes = r.place.bytes ∙ ap (prepend_known r.place.taken) f.bytes;
      sized = r.place.sized ∙ sym f.at;
      closed = elim r.place.closed [ inl closed ↦ inl closed | inr all ↦ inr (all_taken old mid left left' f all) ];
      within = rw f.at r.place.within;
      ended = λ ended. kept_end before old mid left left' old.ended refl r.place f ended;
      failed = f.failed ∙ r.place.failed;
    };
    file = λ to_come may.
        r.file to_come (λ all. may (all_taken old mid left left' f all))
        ∙ ap (λ m. after_events events (events_at m (old.number + 1) (length events) to_come)) (sym f.at)
        ∙ ap (λ m. after_events events (events_at mid.at (m + 1) (length events) to_come)) (sym f.number);
  }

  -- what a line that was taken says comes next
  abbrev pub LineSays : Option (List ℕ) → List A → Reading → Option (List ℕ) → Type 0
  LineSays before events r left =
      Comes before r left (λ to_come. after_events events (with_line r.number (length events) (say r.line)
      (λ next. events_at r.at (r.number + 1) next to_come)))

  -- a line was taken
  pub reads_line : (before : Option (List ℕ)) (events : List A) (mid new : Reading) (left : Option (List ℕ))
      → Reads before events mid left → TakesLine mid new → LineSays before events new left
  reads_line before events mid new left r l =
      let piece : List ℕ = spelled l.raw l.closed in
      record {
        place = record {
          taken = r.place.taken ++ piece;
          bytes = r.place.bytes ∙ ap (λ (z : List ℕ). prepend_known r.place.taken (prepend_known z left)) l.pending
              ∙ ap (prepend_known r.place.taken) (sym (prepend_known-append left piece new.pending))
              ∙ prepend_known-append (prepend_known new.pending left) r.place.taken piece;
          sized = length-append r.place.taken piece ∙ ap (λ m. m + length piece) r.place.sized ∙ sym l.at;
          closed = closed_after r.place.taken l.raw new l.closed
              (λ open'. (l.ended ∙ (l.last open').1, (l.last open').0));
          within = omega (arith, l.at, l.within);
          ended = λ ended. r.place.ended (sym l.ended ∙ ended);
          failed = l.failed;
        };
        file = λ to_come may.
            let e = r.file (piece ++ to_come) (λ all. absurd (not_all mid (line_at_hand mid new l) all)) in
            ap (file_of say) (append_assoc r.place.taken piece to_come) ∙ e
            ∙ ap (after_events events) (at_line mid.at (mid.number + 1) (length events) l.raw to_come l.closed l.plain
            l.short l.within l.some (λ open'. may (l.ended ∙ (l.last open').1, (l.last open').0)))
            ∙ ap (λ m. after_events events (with_line (mid.number + 1) (length events) (say (without_return l.raw))
            (λ next. events_at m (mid.number + 1 + 1) next to_come))) (sym l.at)
            ∙ ap (λ m. after_events events (with_line m (length events) (say (without_return l.raw))
            (λ next. events_at new.at (m + 1) next to_come))) (sym l.number)
            ∙ ap (λ (z : List ℕ). after_events events (with_line new.number (length events) (say z)
            (λ next. events_at new.at (new.number + 1) next to_come))) (sym l.line);
      }

  -- ---- the whole file

  -- a text of the file, and its events
  pub record Whole (before : Option (List ℕ)) (file : FileOf A) : Type 0 where
    pub text : List ℕ
    pub is_text : IsText before text
    pub are_events : file_of say text ≡ file

  pub whole_file : (before : Option (List ℕ)) (r : Reading) (left : Option (List ℕ)) (rest : List ℕ → FileOf A)
      → Comes before r left rest → Whole before (rest (r.pending ++ told left))
  whole_file before r left rest c = record {
    text = c.place.taken ++ (r.pending ++ told left);
    is_text = told_text before left c.place.taken r.pending c.place.bytes;
    are_events = c.file (r.pending ++ told left) (λ all.
        ap (λ (z : List ℕ). z ++ told left) all.1 ∙ told_end left (c.place.ended all.0));
  }

  after_none : (events : List A) (stop : Stop)
      → after_events events (stopped stop) ≡ record { events = events; stop = stop }
  after_none events stop = ap (λ (z : List A). record { events = z; stop = stop }) (append-nil events)

  -- no line is left
  pub whole_end : (before : Option (List ℕ)) (events : List A) (mid : Reading) (left : Option (List ℕ))
      → Reads before events mid left → mid.pending ≡ [] → mid.ended ≡ true
      → Whole before (record { events = events; stop = AtEnd })
  whole_end before events mid left r none ended =
      let w = whole_file before mid left _ r in
      let nothing : mid.pending ++ told left ≡ [] =
      ap (λ (z : List ℕ). z ++ told left) none ∙ told_end left (r.place.ended ended) in
      record {
        text = w.text;
        is_text = w.is_text;
        are_events = w.are_events
            ∙ ap (λ (z : List ℕ). after_events events (events_at mid.at (mid.number + 1) (length events) z)) nothing
            ∙ ap (after_events events) (at_end mid.at (mid.number + 1) (length events)) ∙ after_none events AtEnd;
      }

  -- the next line is too long
  pub whole_too_long : (before : Option (List ℕ)) (events : List A) (mid new : Reading) (left : Option (List ℕ))
      → Reads before events mid left → IsTooLong mid new
      → Whole before (record { events = events; stop = AtLine new.number faults.LineTooLong })
  whole_too_long before events mid new left r l =
      let w = whole_file before mid left _ r in
      record {
        text = w.text;
        is_text = w.is_text;
        are_events = w.are_events
            ∙ ap (after_events events)
            (at_too_long mid.at (mid.number + 1) (length events) mid.pending (told left) l.long l.early)
            ∙ after_none events (AtLine (mid.number + 1) faults.LineTooLong)
            ∙ ap (λ m. record { events = events; stop = AtLine m faults.LineTooLong }) (sym l.number);
      }

  -- the next line is past the limit of the file
  pub whole_past_file : (before : Option (List ℕ)) (events : List A) (mid new : Reading) (left : Option (List ℕ))
      → Reads before events mid left → IsPastFile mid new
      → Whole before (record { events = events; stop = AtLimit })
  whole_past_file before events mid new left r l =
      let w = whole_file before mid left _ r in
      record {
        text = w.text;
        is_text = w.is_text;
        are_events = w.are_events
            ∙ ap (after_events events) (at_past_file mid.at (mid.number + 1) (length events) mid.pending (told left)
            r.place.within l.past l.held l.first)
            ∙ after_none events AtLimit;
      }

  -- ---- what was taken

  -- the lines taken have these events and no others
  pub taken_events : (before : Option (List ℕ)) (events : List A) (mid : Reading) (left : Option (List ℕ))
      → (r : Reads before events mid left) → file_of say r.place.taken ≡ record { events = events; stop = AtEnd }
  taken_events before events mid left r =
      ap (file_of say) (sym (append-nil r.place.taken)) ∙ r.file [] (λ _. refl)
      ∙ ap (after_events events) (at_end mid.at (mid.number + 1) (length events)) ∙ after_none events AtEnd

  -- a read failed: the events of the whole lines that were given
  pub record WholeLines (before : Option (List ℕ)) (left : Option (List ℕ)) (events : List A) : Type 0 where
    pub given : List ℕ
    pub bytes : before ≡ prepend_known given left
    pub whole : List ℕ
    pub has_whole : HasWhole given whole
    pub are_events : file_of say whole ≡ record { events = events; stop = AtEnd }
    pub short : length has_whole.rest ≤ LINE_LIMIT
    pub within : length given ≤ FILE_LIMIT

  pub whole_lines : (before : Option (List ℕ)) (events : List A) (mid : Reading) (left : Option (List ℕ))
      → Reads before events mid left → is_ready mid ≡ false → WholeLines before left events
  whole_lines before events mid left r wanted =
      let k = not_ready mid.at (line_length mid.pending) (length mid.pending) mid.ended wanted in
      let t : List ℕ = r.place.taken in
      record {
        given = t ++ mid.pending;
        bytes = r.place.bytes ∙ prepend_known-append left t mid.pending;
        whole = t;
        has_whole = record {
          rest = mid.pending;
          split = refl;
          closed = elim r.place.closed [
            | inl closed ↦ closed
            | inr all ↦ absurd (let o = k.open_end in let e = all.0 in cc)
          ];
          plain = plain_all mid.pending k.part;
        };
        are_events = taken_events before events mid left r;
        short = k.short;
        within = omega (arith, length-append t mid.pending, r.place.sized, k.within);
      }

  -- ---- what the line says

  -- nothing: the events stay
  pub line_skipped : (before : Option (List ℕ)) (events : List A) (r : Reading) (left : Option (List ℕ))
      → LineSays before events r left → say r.line ≡ Ok None → Reads before events r left
  line_skipped before events r left c is = record {
    place = c.place;
    file = λ to_come may. c.file to_come may
        ∙ ap (λ (said : Result (Option A) LineFault). after_events events (with_line r.number (length events) said
        (λ next. events_at r.at (r.number + 1) next to_come))) is;
  }

  kept_event : (number count : ℕ) (event : A) (later : ℕ → FileOf A) (b : Bool) → nat_le FILE_EVENT_LIMIT count ≡ b
      → b ≡ false
      → with_line number count (Ok (Some event)) later ≡ begun_by event (later (count + 1))
  kept_event number count event later true e f = absurd (cc)
  kept_event number count event later false e f = rw e refl

  -- an event
  pub line_with_event : (before : Option (List ℕ)) (events : List A) (r : Reading) (left : Option (List ℕ)) (event : A)
      → LineSays before events r left → say r.line ≡ Ok (Some event) → nat_le FILE_EVENT_LIMIT (length events) ≡ false
      → Reads before (events ++ event ∷ []) r left
  line_with_event before events r left event c is few = record {
    place = c.place;
    file = λ to_come may.
        let count : length (events ++ event ∷ []) ≡ length events + 1 = length-append events (event ∷ []) in
        let later : FileOf A = events_at r.at (r.number + 1) (length events + 1) to_come in
        c.file to_come may
        ∙ ap (λ (said : Result (Option A) LineFault). after_events events (with_line r.number (length events) said
        (λ next. events_at r.at (r.number + 1) next to_come))) is
        ∙ ap (after_events events) (kept_event r.number (length events) event
        (λ next. events_at r.at (r.number + 1) next to_come) _ refl few)
        ∙ ap (λ (z : List A). record { events = z; stop = later.stop })
        (sym (append_assoc events (event ∷ []) later.events))
        ∙ ap (λ m. after_events (events ++ event ∷ []) (events_at r.at (r.number + 1) m to_come)) (sym count);
  }

  -- an event, with what comes after it
  pub record WholeEvent (before : Option (List ℕ)) (events : List A) (event : A) : Type 0 where
    pub text : List ℕ
    pub is_text : IsText before text
    pub later : List A
    pub are_events : (file_of say text).events ≡ events ++ (event ∷ later)

  pub whole_event : (before : Option (List ℕ)) (events : List A) (r : Reading) (left : Option (List ℕ)) (event : A)
      → LineSays before events r left → say r.line ≡ Ok (Some event) → nat_le FILE_EVENT_LIMIT (length events) ≡ false
      → WholeEvent before events event
  whole_event before events r left event c is few =
      let w = whole_file before r left _ (line_with_event before events r left event c is few) in
      let later : FileOf A = events_at r.at (r.number + 1) (length (events ++ event ∷ [])) (r.pending ++ told left) in
      record {
        text = w.text;
        is_text = w.is_text;
        later = later.events;
        are_events = ap (λ (f : FileOf A). f.events) w.are_events ∙ append_assoc events (event ∷ []) later.events;
      }

  -- one event too many
  pub whole_too_many : (before : Option (List ℕ)) (events : List A) (r : Reading) (left : Option (List ℕ)) (event : A)
      → LineSays before events r left → say r.line ≡ Ok (Some event) → nat_le FILE_EVENT_LIMIT (length events) ≡ true
      → Whole before (record { events = events; stop = AtEvent })
  whole_too_many before events r left event c is many =
      let w = whole_file before r left _ c in
      record {
        text = w.text;
        is_text = w.is_text;
        are_events = w.are_events
            ∙ ap (λ (said : Result (Option A) LineFault). after_events events
            (with_line r.number (length events) said
            (λ next. events_at r.at (r.number + 1) next (r.pending ++ told left)))) is
            ∙ rw many (after_none events AtEvent);
      }

  -- a fault
  pub whole_refused : (before : Option (List ℕ)) (events : List A) (r : Reading) (left : Option (List ℕ))
      (fault : LineFault)
      → LineSays before events r left → say r.line ≡ Err fault
      → Whole before (record { events = events; stop = AtLine r.number fault })
  whole_refused before events r left fault c is =
      let w = whole_file before r left _ c in
      record {
        text = w.text;
        is_text = w.is_text;
        are_events = w.are_events
            ∙ ap (λ (said : Result (Option A) LineFault). after_events events
            (with_line r.number (length events) said
            (λ next. events_at r.at (r.number + 1) next (r.pending ++ told left)))) is
            ∙ after_none events (AtLine r.number fault);
      }
