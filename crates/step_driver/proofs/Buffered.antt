-- The trace of a run, some of which is kept until bytes are read: what was written, and what is still to be written.
use Rattle.std.proofs.Common.{◌≡◌, ℕ, ◌+◌, ◌≤◌, ◌⊎◌, Bool, true, false, List, [], ◌++◌, length, take, Option, Some}
use Rattle.std.proofs.Common.{None, Result, Ok, Err, refl, sym, ap, ◌∙◌, subst, arith, append_assoc, append-nil}
use Rattle.std.proofs.Common.{length-append, inl, inr}
use Rattle.std.specs.Prelude.{is_some}
use Rattle.std.specs.Io.KnownBytes.{append_known, IsAtEnd}
use Rattle.std.proofs.lemmas.List.{length-take-le}
use Rattle.std.proofs.Math.Seq.{take-append-add}
use Rattle.flow_base.specs.Bytes.{AppendsProperFront}
use Rattle.flow_base.specs.Causes.{Rose}
use Rattle.flow_base.proofs.Pieces.{append_known-append}
use Rattle.event_file.specs.EventFile.{AtEnd, file_of}
use Rattle.event_file.specs.NextLine.{Nexts}
use Rattle.event_file.specs.Reading.{Reading, is_ready}
use Rattle.event_file.specs.declared.line_reader.LineEnd.{LineEnd}
use Rattle.event_file.specs.declared.line_reader.LineEnd.TheVariants as line_ends
use Rattle.trace_text.specs.Pieces.{Held, Passed, CutOff, Written, Puts, Ends, nothing_held}
use Rattle.trace_text.proofs.PieceLemmas.{append_nothing, cut_off, kept_now, passed, put_after, put_first}
use Rattle.step_driver.specs.declared.lines.NoLine.{NoLine}
use Rattle.step_driver.specs.declared.lines.NoLine.TheVariants as no_lines
use Rattle.step_driver.specs.Driving.{Seen, TakesNoMore, WroteAll, WroteSome}
use Rattle.step_driver.specs.Ending.{BeginIsOut, DoneBy, Stopped, LinesEnd, given_text}
use Rattle.step_driver.specs.NextLines.{Follows, Flushes, Moves, failed_to_read, failed_to_write, found_or_none}
use Rattle.step_driver.specs.StepRuns.{StepRuns}
use Rattle.step_driver.proofs.Driven.{RunLaws, Driven, FirstRun, EndOf, NoLineDone, driven_first, takes_lines}
use Rattle.step_driver.proofs.Driven.{nothing_more, all_driven, lines_end}
use Rattle.step_driver.proofs.FileLemmas.{reads_fills}
use Rattle.step_driver.proofs.FilePlaces.{line_at_hand}

-- ---- a front of what is kept

-- a proper front of what is kept, after a text
front_after : (wrote now after : Option (List ℕ)) (text kept : List ℕ) → now ≡ append_known wrote text
    → AppendsProperFront now after kept → AppendsProperFront wrote after (text ++ kept)
front_after wrote now after text kept is f = record {
  count = length text + f.count;
  proper = omega (arith, f.proper, length-append text kept);
  bytes = f.bytes ∙ ap (λ (z : Option (List ℕ)). append_known z (take f.count kept)) is
      ∙ append_known-append wrote text (take f.count kept)
      ∙ ap (append_known wrote) (sym (take-append-add text kept f.count));
}

-- what goes on after a text is no proper front of that text
no_front : (bytes line more : List ℕ) (after : Option (List ℕ)) → after ≡ append_known (Some bytes) (line ++ more)
    → AppendsProperFront (Some bytes) after line → ⊥
no_front bytes line more after is f =
    let same : Some (bytes ++ (line ++ more)) ≡ Some (bytes ++ take f.count line) = sym is ∙ f.bytes in
    let inner : bytes ++ (line ++ more) ≡ bytes ++ take f.count line = cc in
    let fits : f.count ≤ length line = omega (arith, f.proper) in
    let len : length (take f.count line) ≡ f.count = length-take-le f.count line fits in
    absurd (omega (
      arith,
      ap length inner,
      length-append bytes (line ++ more),
      length-append line more,
      length-append bytes (take f.count line),
      f.proper,
    ))

not_first : (wrote after : Option (List ℕ)) (line more : List ℕ) → after ≡ append_known wrote (line ++ more)
    → is_some wrote ≡ true → AppendsProperFront wrote after line → ⊥
not_first None after line more is some f = absurd (cc)
not_first (Some bytes) after line more is some f = no_front bytes line more after is f

-- there is no proper front of nothing
no_front_of_nothing : (now after : Option (List ℕ)) (held : List ℕ) → held ≡ [] → AppendsProperFront now after held → ⊥
no_front_of_nothing now after held is f = absurd (omega (arith, ap length is, f.proper))

-- a text after what was written, of which some is written now and the rest is kept
parts_of : (sent text more held : List ℕ) → text ≡ more ++ held → sent ++ text ≡ (sent ++ more) ++ held
parts_of sent text more held is = ap (λ (z : List ℕ). sent ++ z) is ∙ sym (append_assoc sent more held)

rose_after : (f f1 f2 : ℕ) → f1 ≡ f → Rose f1 f2 → Rose f f2
rose_after f f1 f2 same rose = subst (λ (m : ℕ). Rose m f2) same rose

-- ---- the next line

-- what is kept was written
pub flush_done : (wrote wrote' : Option (List ℕ)) (f f' : ℕ) (held held' : Held) (number : ℕ)
    (found : Result Bool LineEnd)
    → held.failed ≡ false
    → ((w : Option (List ℕ)) (g : ℕ) (all : List ℕ) → Written w wrote g f all held → Ends w wrote' g f' all (Ok tt))
    → held' ≡ nothing_held → Flushes (failed_to_write (found_or_none number found)) wrote wrote' f f' held held'
flush_done wrote wrote' f f' held held' number (Ok found) usable ends none =
    (ends wrote f held.bytes (kept_now wrote f held usable), none)
flush_done wrote wrote' f f' held held' number (Err line_ends.Read) usable ends none =
    (ends wrote f held.bytes (kept_now wrote f held usable), none)
flush_done wrote wrote' f f' held held' number (Err line_ends.TooLong) usable ends none =
    (ends wrote f held.bytes (kept_now wrote f held usable), none)
flush_done wrote wrote' f f' held held' number (Err line_ends.FileTooLong) usable ends none =
    (ends wrote f held.bytes (kept_now wrote f held usable), none)

-- the bytes at hand tell no read fault
pub at_hand_reads : (number : ℕ) (r r' : Reading) (found : Result Bool LineEnd) → is_ready r ≡ true
    → Nexts r r' None None found → failed_to_read (found_or_none number found) ≡ false
at_hand_reads number r r' (Ok found) ready next = refl
at_hand_reads number r r' (Err line_ends.Read) ready next =
    let same = (next.fills.kept ready).0 in
    absurd (let wanted = next.answer.wanted in let e = ap is_ready same ∙ ready in cc)
at_hand_reads number r r' (Err line_ends.TooLong) ready next = refl
at_hand_reads number r r' (Err line_ends.FileTooLong) ready next = refl

-- the bytes at hand tell no read fault
not_read : (r r' : Reading) (left left' : Option (List ℕ)) (end : NoLine) → is_ready r ≡ true
    → Follows r r' left left' (Err end) → failed_to_read (Err end) ≡ false
not_read r r' left left' (no_lines.TooLong number) ready next = refl
not_read r r' left left' no_lines.FileTooLong ready next = refl
not_read r r' left left' no_lines.Read ready next =
    let same = (next.fills.kept ready).0 in
    absurd (let wanted = next.answer.wanted in let e = ap is_ready same ∙ ready in cc)
not_read r r' left left' no_lines.Write ready next = refl

module _ (s : StepRuns) where
  -- ---- what was written

  -- No write failed and the sink was given that text. No more was taken of the file than lines whose trace it has, and
  -- a buffer, and nothing before it had what the trace begins with.
  pub record Sent (wrote now : Option (List ℕ)) (f f' : ℕ) (before left : Option (List ℕ))
      (sent : List ℕ) : Type 0 where
    pub written : now ≡ append_known wrote sent
    pub count : f' ≡ f
    pub no_more : TakesNoMore s (given_text wrote sent before left)
    pub begun : BeginIsOut s before left sent

  -- more is written
  takes_later : (wrote now before left : Option (List ℕ)) (sent more : List ℕ) → now ≡ append_known wrote (sent ++ more)
      → TakesNoMore s (given_text wrote sent before left)
      → TakesNoMore s (record { wrote_before = wrote; wrote_after = now; left_before = before; left_after = left })
  takes_later wrote now before left sent more is (inl same) = inl same
  takes_later wrote now before left sent more is (inr k) = inr (record {
    lines = k.lines;
    ahead = k.ahead;
    taken = k.taken;
    closed = k.closed;
    good = k.good;
    few = k.few;
    within = k.within;
    trace = k.trace;
    more = k.more ++ more;
    ran = k.ran;
    wrote = is ∙ sym (append_known-append wrote sent more) ∙ ap (λ (z : Option (List ℕ)). append_known z more) k.wrote
        ∙ append_known-append wrote (k.trace ++ k.more) more
        ∙ ap (append_known wrote) (append_assoc k.trace k.more more);
  })

  begun_later : (before left : Option (List ℕ)) (sent more : List ℕ) → BeginIsOut s before left sent
      → BeginIsOut s before left (sent ++ more)
  begun_later before left sent more (inl same) = inl same
  begun_later before left sent more (inr b) = inr (record {
    first = b.first;
    is_begin = b.is_begin;
    more = b.more ++ more;
    begins = ap (λ (z : List ℕ). z ++ more) b.begins ∙ append_assoc b.first b.more more;
  })

  sent_more : (wrote now now' : Option (List ℕ)) (f f1 f2 : ℕ) (before left : Option (List ℕ)) (sent text held : List ℕ)
      → Sent wrote now f f1 before left sent → (p : Passed now now' f1 f2 text held)
      → Sent wrote now' f f2 before left (sent ++ p.sent)
  sent_more wrote now now' f f1 f2 before left sent text held k p = record {
    written = p.written ∙ ap (λ (z : Option (List ℕ)). append_known z p.sent) k.written
        ∙ append_known-append wrote sent p.sent;
    count = p.count ∙ k.count;
    no_more = takes_later wrote _ before left sent p.sent refl k.no_more;
    begun = begun_later before left sent p.sent k.begun;
  }

  nothing_sent : (wrote : Option (List ℕ)) (f : ℕ) (before : Option (List ℕ)) → Sent wrote wrote f f before before []
  nothing_sent wrote f before =
      record { written = append_nothing wrote; count = refl; no_more = inl refl; begun = inl refl }

  -- ---- the lines

  -- the lines taken so far gave these steps, and their trace is what was written and then what is kept
  pub record Buffered (State : List s.Step → List ℕ → Type 0) (wrote now : Option (List ℕ)) (f f' : ℕ)
      (before left : Option (List ℕ)) (held : Held) (r : Reading) (index : ℕ) : Type 0 where
    pub sent : List ℕ
    pub out : Sent wrote now f f' before left sent
    pub usable : held.failed ≡ false
    pub driven : Driven s State before left r index (sent ++ held.bytes)

  -- what the trace begins with was put, and no line was taken
  pub buffered_start : (State : List s.Step → List ℕ → Type 0) (wrote now : Option (List ℕ)) (f f' : ℕ)
      (before : Option (List ℕ)) (old new : Held) (r : Reading) (index : ℕ) (put : List ℕ) → old ≡ nothing_held
      → new.failed ≡ false → Puts wrote now f f' old new put → Driven s State before before r index put
      → Buffered State wrote now f f' before before new r index
  buffered_start State wrote now f f' before old new r index put empty usable puts driven =
      let p = passed wrote now f f' put new usable (put_first wrote now f f' old new put empty puts) in
      record {
        sent = p.sent;
        out = sent_more wrote wrote now f f f' before before [] put new.bytes (nothing_sent wrote f before) p;
        usable = usable;
        driven = subst (λ (z : List ℕ). Driven s State before before r index z) p.parts driven;
      }

  -- a line was taken after these, and nothing was put for it yet
  pub record Between (State : List s.Step → List ℕ → Type 0) (wrote now : Option (List ℕ)) (f f' : ℕ)
      (before left left' : Option (List ℕ)) (held : Held) (r r' : Reading) (index : ℕ) : Type 0 where
    pub sent : List ℕ
    pub out : Sent wrote now f f' before left' sent
    pub usable : held.failed ≡ false
    pub driven : Driven s State before left r index (sent ++ held.bytes)
    pub next : Nexts r r' left left' (Ok true)

  pub between : (State : List s.Step → List ℕ → Type 0) (wrote now now' : Option (List ℕ)) (f f1 f2 : ℕ)
      (before left left' : Option (List ℕ)) (held held' : Held) (r r' : Reading) (index : ℕ)
      → Buffered State wrote now f f1 before left held r index → Nexts r r' left left' (Ok true)
      → Moves false r left left' now now' f1 f2 held held'
      → Between State wrote now' f f2 before left left' held' r r' index
  between State wrote now now' f f1 f2 before left left' held held' r r' index b next
      (inl (ready, same_left, same_now, same_count, same_held, _)) = record {
        sent = b.sent;
        out = rw (same_left, same_now, same_count) b.out;
        usable = rw same_held b.usable;
        driven = rw same_held b.driven;
        next = next;
      }
  between State wrote now now' f f1 f2 before left left' held held' r r' index b next (inr (p, none)) =
      let sent : List ℕ = b.sent ++ p.sent in
      let k = sent_more wrote now now' f f1 f2 before left b.sent held.bytes [] b.out p in
      let driven = subst (λ (z : List ℕ). Driven s State before left r index z)
      (parts_of b.sent held.bytes p.sent [] p.parts ∙ append-nil sent) b.driven in
      record {
        sent = sent;
        out = record {
          written = k.written;
          count = k.count;
          no_more = takes_lines s (given_text wrote sent before left') driven.events next.mid sent []
              (reads_fills s.say before driven.events r next.mid left left' driven.reads next.fills) driven.ran
              (line_at_hand next.mid r' next.answer.1) next.room next.file (nothing_more wrote sent);
          begun = inr driven.begins;
        };
        usable = rw none refl;
        driven = rw none (subst (λ (z : List ℕ). Driven s State before left r index z) (sym (append-nil sent)) driven);
        next = next;
      }

  -- whether a write failed is told of what is kept
  pub next_failed : (State : List s.Step → List ℕ → Type 0) (wrote now now' : Option (List ℕ)) (f f1 f2 : ℕ)
      (before left left' : Option (List ℕ)) (held held' : Held) (r : Reading) (index : ℕ) (failed : Bool)
      → Buffered State wrote now f f1 before left held r index → Moves failed r left left' now now' f1 f2 held held'
      → held'.failed ≡ failed
  next_failed State wrote now now' f f1 f2 before left left' held held' r index failed b
      (inl (_, _, _, _, same, none)) =
      ap (λ (h : Held). h.failed) same ∙ b.usable ∙ sym none
  next_failed State wrote now now' f f1 f2 before left left' held held' r index false b (inr (_, none)) =
      ap (λ (h : Held). h.failed) none
  next_failed State wrote now now' f f1 f2 before left left' held held' r index true b (inr (_, is)) = is

  -- the line was taken, and the run goes on
  pub line_buffered : (State State' : List s.Step → List ℕ → Type 0) (wrote now now' : Option (List ℕ)) (f f1 f2 : ℕ)
      (before left left' : Option (List ℕ)) (held held' : Held) (r r' : Reading) (index next_index : ℕ) (put : List ℕ)
      → (b : Between State wrote now f f1 before left left' held r r' index) → held'.failed ≡ false
      → Puts now now' f1 f2 held held' put → Driven s State' before left' r' next_index ((b.sent ++ held.bytes) ++ put)
      → Buffered State' wrote now' f f2 before left' held' r' next_index
  line_buffered State State' wrote now now' f f1 f2 before left left' held held' r r' index next_index put b usable puts
      driven =
      let p = passed now now' f1 f2 (held.bytes ++ put) held' usable
      (put_after now now' f1 f2 held held' put b.usable puts) in
      record {
        sent = b.sent ++ p.sent;
        out = sent_more wrote now now' f f1 f2 before left' b.sent (held.bytes ++ put) held'.bytes b.out p;
        usable = usable;
        driven = subst (λ (z : List ℕ). Driven s State' before left' r' next_index z)
            (append_assoc b.sent held.bytes put
            ∙ parts_of b.sent (held.bytes ++ put) p.sent held'.bytes p.parts) driven;
      }

-- ---- what a driver says by its answers

-- What holds of a driver of steps: what it answers where no line can be taken and at the end of the file, what it does
-- then, and that what it wrote after any other answer is the trace of the first steps, or nothing.
pub record DriverLaws (s : StepRuns) (D : DoneBy s) : Type 0 where
  pub runs : RunLaws s
  pub error_of : NoLine → s.Error
  pub no_line : (seen : Seen) (end : NoLine) → NoLineDone s seen end → D seen (Err (error_of end))
  pub done : (seen : Seen) → WroteAll s seen (s.answer_of None AtEnd) × IsAtEnd seen.left_after → D seen (Ok tt)
  pub is_read : Result (Unit {0}) s.Error → Bool
  pub is_write : Result (Unit {0}) s.Error → Bool
  pub reads : (end : NoLine) → is_read (Err (error_of end)) ≡ failed_to_read (Err end)
  pub writes : (end : NoLine) → is_write (Err (error_of end)) ≡ failed_to_write (Err end)
  pub last : (before left : Option (List ℕ)) (text : List ℕ) (result : Result (Unit {0}) s.Error)
      → is_read result ≡ false
      → is_write result ≡ false → D (given_text (Some []) text before left) result
      → (text ≡ []) ⊎ FirstRun s before text

-- the whole trace is that of the first steps
pub run_of_all : (s : StepRuns) (before left : Option (List ℕ)) (text : List ℕ) (result : Result (Unit {0}) s.Error)
    → RunLaws s
    → WroteAll s (given_text (Some []) text before left) result → FirstRun s before text
run_of_all s before left text result laws a =
    let same : text ≡ a.trace = let e = a.wrote in cc in
    let steps : List s.Step = (file_of s.say a.text).events in
    record {
      text = a.text;
      is_text = a.is_text;
      end = a.end;
      ran = rw same (subst (λ (z : List s.Step). s.RanFirst z a.trace a.end) (append-nil steps)
          (laws.first steps [] a.trace a.end a.ran));
    }

-- where memory ran out it is, or there is none
pub run_of_some : (s : StepRuns) (before left : Option (List ℕ)) (text : List ℕ)
    → WroteSome s (given_text (Some []) text before left) → (text ≡ []) ⊎ FirstRun s before text
run_of_some s before left text k =
    let same : text ≡ k.trace = let e = k.wrote in cc in
    elim k.ran [
      | inl none ↦ inl (same ∙ none)
      | inr ran ↦ inr (record { text = k.text; is_text = k.is_text; end = None; ran = rw same ran })
    ]

module _ (s : StepRuns) (D : DoneBy s) (laws : DriverLaws s D) where
  -- ---- a write fails

  write_failed : (wrote now now' : Option (List ℕ)) (f f' : ℕ) (before left : Option (List ℕ)) (sent held : List ℕ)
      → Sent s wrote now f f' before left sent → AppendsProperFront now now' held → FirstRun s before (sent ++ held)
      → D (record { wrote_before = wrote; wrote_after = now'; left_before = before; left_after = left })
      (Err (laws.error_of no_lines.Write))
  write_failed wrote now now' f f' before left sent held k front run = laws.no_line _ no_lines.Write (
    record {
      text = run.text;
      is_text = run.is_text;
      trace = sent ++ held;
      end = run.end;
      ran = run.ran;
      front = front_after wrote now now' sent held k.written front;
      untouched = λ begin is_begin told short. by_begun begin is_begin told short k.begun;
    },
    takes_later s wrote now' before left sent piece out_is k.no_more,
  )
    where
      piece : List ℕ
      piece = take front.count held

      out_is : now' ≡ append_known wrote (sent ++ piece)
      out_is = front.bytes ∙ ap (λ (z : Option (List ℕ)). append_known z piece) k.written
          ∙ append_known-append wrote sent piece

      by_begun : (begin : List ℕ) → s.IsBegin begin → is_some wrote ≡ true → AppendsProperFront wrote now' begin
          → BeginIsOut s before left sent → left ≡ before
      by_begun begin is_begin told short (inl same) = same
      by_begun begin is_begin told short (inr b) =
          let same : begin ≡ b.first = laws.runs.one_begin begin b.first is_begin b.is_begin in
          let short_is : AppendsProperFront wrote now' b.first =
          subst (λ (z : List ℕ). AppendsProperFront wrote now' z) same short in
          let begins : sent ++ piece ≡ b.first ++ (b.more ++ piece) =
          ap (λ (z : List ℕ). z ++ piece) b.begins ∙ append_assoc b.first b.more piece in
          absurd (not_first wrote now' b.first (b.more ++ piece)
          (out_is ∙ ap (append_known wrote) begins) told short_is)

  -- how the lines end, by the laws
  abbrev pub End : Bool → Bool → Option (List ℕ) → Option (List ℕ) → ℕ → ℕ → Option (List ℕ) → Option (List ℕ) → List ℕ
      → Result (Unit {0}) s.Error → Type 0
  End failed read wrote now f f' before left held result =
      LinesEnd s D failed (laws.error_of no_lines.Write) read wrote now f f' before left held result

  -- a last text was put, and the lines end
  ends_at : (wrote now now' : Option (List ℕ)) (f f1 f2 : ℕ) (before left : Option (List ℕ)) (sent text : List ℕ)
      (new : Held)
      (b read : Bool) (result : Result (Unit {0}) s.Error) → Sent s wrote now f f1 before left sent
      → Written now now' f1 f2 text new → new.failed ≡ b → EndOf s D b before left (sent ++ text) result → read ≡ false
      → End b read wrote now' f f2 before left new.bytes result
  ends_at wrote now now' f f1 f2 before left sent text new false read result k h failed e no_read =
      let p = passed now now' f1 f2 text new failed h in
      let k' = sent_more s wrote now now' f f1 f2 before left sent text new.bytes k p in
      record {
        sent = sent ++ p.sent;
        written = k'.written;
        count = k'.count;
        drives = λ w. subst (λ (z : List ℕ). D (given_text w z before left) result)
            (parts_of sent text p.sent new.bytes p.parts) (e w);
        kept = inr (k'.no_more, k'.begun);
        read_all = λ is. absurd (cc);
      }
  ends_at wrote now now' f f1 f2 before left sent text new true read result k h failed e no_read =
      let c = cut_off now now' f1 f2 text new failed h in
      (write_failed wrote now now' f f1 before left sent text k c.front e, rose_after f f1 f2 k.count c.count)

  -- ---- before the first line

  -- the run ends with what was put
  pub start_stops : (wrote now : Option (List ℕ)) (f f' : ℕ) (before : Option (List ℕ)) (old new : Held) (b read : Bool)
      (put : List ℕ) (result : Result (Unit {0}) s.Error) → old ≡ nothing_held → new.failed ≡ b → read ≡ false
      → Puts wrote now f f' old new put → EndOf s D b before before put result
      → End b read wrote now f f' before before new.bytes result
  start_stops wrote now f f' before old new b read put result empty failed no_read puts e =
      ends_at wrote wrote now f f f' before before [] put new b read result (nothing_sent s wrote f before)
      (put_first wrote now f f' old new put empty puts) failed e no_read

  -- ---- a line that was taken

  -- the line was taken, and the run ends
  pub line_stops : (State : List s.Step → List ℕ → Type 0) (wrote now now' : Option (List ℕ)) (f f1 f2 : ℕ)
      (before left left' : Option (List ℕ)) (held held' : Held) (r r' : Reading) (index : ℕ) (failed read : Bool)
      (put : List ℕ) (result : Result (Unit {0}) s.Error)
      → (b : Between s State wrote now f f1 before left left' held r r' index) → held'.failed ≡ failed → read ≡ false
      → Puts now now' f1 f2 held held' put → EndOf s D failed before left' ((b.sent ++ held.bytes) ++ put) result
      → End failed read wrote now' f f2 before left' held'.bytes result
  line_stops State wrote now now' f f1 f2 before left left' held held' r r' index failed read put result b
      is no_read puts e =
      ends_at wrote now now' f f1 f2 before left' b.sent (held.bytes ++ put) held' failed read result b.out
      (put_after now now' f1 f2 held held' put b.usable puts) is
      (subst (λ (z : List ℕ). EndOf s D failed before left' z result) (append_assoc b.sent held.bytes put) e) no_read

  -- ---- no line is taken

  -- what was kept was written before a read, and nothing is kept any more
  all_sent : (wrote now now' : Option (List ℕ)) (f f1 f2 : ℕ) (before left left' : Option (List ℕ)) (sent held : List ℕ)
      (read : Bool) (result : Result (Unit {0}) s.Error) → Sent s wrote now f f1 before left sent
      → Passed now now' f1 f2 held [] → ((w : Option (List ℕ)) → D (given_text w (sent ++ held) before left') result)
      → Stopped s D read wrote now' f f2 before left' [] result
  all_sent wrote now now' f f1 f2 before left left' sent held read result k p drives =
      let k' = sent_more s wrote now now' f f1 f2 before left sent held [] k p in
      record {
        sent = sent ++ p.sent;
        written = k'.written;
        count = k'.count;
        drives = λ w. subst (λ (z : List ℕ). D (given_text w z before left') result)
            (parts_of sent held p.sent [] p.parts)
            (drives w);
        kept = inl refl;
        read_all = λ _. refl;
      }

  -- nothing was read: what is kept stays
  all_kept : (wrote now : Option (List ℕ)) (f f' : ℕ) (before left : Option (List ℕ)) (sent held : List ℕ) (read : Bool)
      (result : Result (Unit {0}) s.Error) → Sent s wrote now f f' before left sent → read ≡ false
      → ((w : Option (List ℕ)) → D (given_text w (sent ++ held) before left) result)
      → Stopped s D read wrote now f f' before left held result
  all_kept wrote now f f' before left sent held read result k no_read drives = record {
    sent = sent;
    written = k.written;
    count = k.count;
    drives = drives;
    kept = inr (k.no_more, k.begun);
    read_all = λ is. absurd (cc);
  }

  -- the end of the file
  pub end_stops : (State : List s.Step → List ℕ → Type 0) (wrote now now' : Option (List ℕ)) (f f1 f2 : ℕ)
      (before left left' : Option (List ℕ)) (held held' : Held) (r r' : Reading) (index : ℕ)
      → Buffered s State wrote now f f1 before left held r index → Nexts r r' left left' (Ok false)
      → Moves false r left left' now now' f1 f2 held held'
      → Stopped s D false wrote now' f f2 before left' held'.bytes (Ok tt)
  end_stops State wrote now now' f f1 f2 before left left' held held' r r' index b next
      (inl (ready, same_left, same_now, same_count, same_held, _)) =
      let k : Sent s wrote now' f f2 before left' b.sent = rw (same_left, same_now, same_count) b.out in
      rw same_held (all_kept wrote now' f f2 before left' b.sent held.bytes false (Ok tt) k refl
      (λ z. laws.done (given_text z (b.sent ++ held.bytes) before left')
      (all_driven s State z before left left' r r' index (b.sent ++ held.bytes) b.driven next)))
  end_stops State wrote now now' f f1 f2 before left left' held held' r r' index b next (inr (p, none)) =
      rw none (all_sent wrote now now' f f1 f2 before left left' b.sent held.bytes false (Ok tt) b.out p
      (λ z. laws.done (given_text z (b.sent ++ held.bytes) before left')
      (all_driven s State z before left left' r r' index (b.sent ++ held.bytes) b.driven next)))

  -- the next line can't be taken, and no write failed
  lines_stop : (State : List s.Step → List ℕ → Type 0) (wrote now now' : Option (List ℕ)) (f f1 f2 : ℕ)
      (before left left' : Option (List ℕ)) (held held' : Held) (r r' : Reading) (index : ℕ) (end : NoLine)
      → Buffered s State wrote now f f1 before left held r index → Follows r r' left left' (Err end)
      → failed_to_write (Err end) ≡ false → Moves false r left left' now now' f1 f2 held held'
      → Stopped s D (failed_to_read (Err end)) wrote now' f f2 before left' held'.bytes (Err (laws.error_of end))
  lines_stop State wrote now now' f f1 f2 before left left' held held' r r' index end b next whole
      (inl (ready, same_left, same_now, same_count, same_held, _)) =
      let k : Sent s wrote now' f f2 before left' b.sent = rw (same_left, same_now, same_count) b.out in
      rw same_held (all_kept wrote now' f f2 before left' b.sent held.bytes (failed_to_read (Err end))
      (Err (laws.error_of end)) k (not_read r r' left left' end ready next)
      (λ z. laws.no_line (given_text z (b.sent ++ held.bytes) before left') end
      (lines_end s State z before left left' r r' index (b.sent ++ held.bytes) end b.driven next whole)))
  lines_stop State wrote now now' f f1 f2 before left left' held held' r r' index end b next whole (inr (p, none)) =
      rw none (all_sent wrote now now' f f1 f2 before left left' b.sent held.bytes (failed_to_read (Err end))
      (Err (laws.error_of end)) b.out p
      (λ z. laws.no_line (given_text z (b.sent ++ held.bytes) before left') end
      (lines_end s State z before left left' r r' index (b.sent ++ held.bytes) end b.driven next whole)))

  -- what is kept can't be written before a read
  flush_stops : (State : List s.Step → List ℕ → Type 0) (wrote now now' : Option (List ℕ)) (f f1 f2 : ℕ)
      (before left left' : Option (List ℕ)) (held held' : Held) (r : Reading) (index : ℕ)
      → Buffered s State wrote now f f1 before left held r index → left' ≡ left
      → Moves true r left left' now now' f1 f2 held held'
      → D (record { wrote_before = wrote; wrote_after = now'; left_before = before; left_after = left' })
      (Err (laws.error_of no_lines.Write)) × Rose f f2
  flush_stops State wrote now now' f f1 f2 before left left' held held' r index b same (inl (_, _, _, _, _, never)) =
      absurd (cc)
  flush_stops State wrote now now' f f1 f2 before left left' held held' r index b same (inr (c, failed)) =
      rw same (
        write_failed wrote now now' f f1 before left b.sent held.bytes b.out c.front
            (driven_first s State before left r index (b.sent ++ held.bytes) laws.runs b.driven),
        rose_after f f1 f2 b.out.count c.count,
      )

  no_line_stops : (State : List s.Step → List ℕ → Type 0) (wrote now now' : Option (List ℕ)) (f f1 f2 : ℕ)
      (before left left' : Option (List ℕ)) (held held' : Held) (r r' : Reading) (index : ℕ) (end : NoLine)
      → Buffered s State wrote now f f1 before left held r index → Follows r r' left left' (Err end)
      → Moves (failed_to_write (Err end)) r left left' now now' f1 f2 held held'
      → End (failed_to_write (Err end)) (failed_to_read (Err end)) wrote now' f f2 before left' held'.bytes
      (Err (laws.error_of end))
  no_line_stops State wrote now now' f f1 f2 before left left' held held' r r' index
      (no_lines.TooLong number) b next moves =
      lines_stop State wrote now now' f f1 f2 before left left' held held' r r' index
      (no_lines.TooLong number) b next refl
      moves
  no_line_stops State wrote now now' f f1 f2 before left left' held held' r r' index no_lines.FileTooLong b next moves =
      lines_stop State wrote now now' f f1 f2 before left left' held held' r r' index no_lines.FileTooLong b next refl
      moves
  no_line_stops State wrote now now' f f1 f2 before left left' held held' r r' index no_lines.Read b next moves =
      lines_stop State wrote now now' f f1 f2 before left left' held held' r r' index no_lines.Read b next refl moves
  no_line_stops State wrote now now' f f1 f2 before left left' held held' r r' index no_lines.Write b next moves =
      flush_stops State wrote now now' f f1 f2 before left left' held held' r index b next.1 moves

  -- the next line can't be taken
  pub next_stops : (State : List s.Step → List ℕ → Type 0) (wrote now now' : Option (List ℕ)) (f f1 f2 : ℕ)
      (before left left' : Option (List ℕ)) (held held' : Held) (r r' : Reading) (index : ℕ) (end : NoLine)
      → Buffered s State wrote now f f1 before left held r index → Follows r r' left left' (Err end)
      → Moves (failed_to_write (Err end)) r left left' now now' f1 f2 held held'
      → End (laws.is_write (Err (laws.error_of end)))
      (laws.is_read (Err (laws.error_of end))) wrote now' f f2 before left'
      held'.bytes (Err (laws.error_of end))
  next_stops State wrote now now' f f1 f2 before left left' held held' r r' index end b next moves =
      subst (λ (failed : Bool). End failed
      (laws.is_read (Err (laws.error_of end))) wrote now' f f2 before left' held'.bytes
      (Err (laws.error_of end))) (sym (laws.writes end))
      (subst (λ (read : Bool). End (failed_to_write (Err end)) read wrote now' f f2 before left' held'.bytes
      (Err (laws.error_of end))) (sym (laws.reads end))
      (no_line_stops State wrote now now' f f1 f2 before left left' held held' r r' index end b next moves))

  -- ---- what is kept at the end

  -- it was written
  pub finished : (wrote now now' : Option (List ℕ)) (f f1 f2 : ℕ) (before left : Option (List ℕ)) (held : List ℕ)
      (read : Bool)
      (result : Result (Unit {0}) s.Error) → Stopped s D read wrote now f f1 before left held result
      → Passed now now' f1 f2 held []
      → D (record { wrote_before = wrote; wrote_after = now'; left_before = before; left_after = left }) result
  finished wrote now now' f f1 f2 before left held read result k p =
      let is : now' ≡ append_known wrote (k.sent ++ held) =
      p.written ∙ ap (λ (z : Option (List ℕ)). append_known z p.sent) k.written
      ∙ append_known-append wrote k.sent p.sent
      ∙ ap (λ (z : List ℕ). append_known wrote (k.sent ++ z)) (sym (p.parts ∙ append-nil p.sent)) in
      subst (λ (z : Option (List ℕ)). D (record {
        wrote_before = wrote;
        wrote_after = z;
        left_before = before;
        left_after = left;
      }) result) (sym is) (k.drives wrote)

  -- it can't be written
  pub not_finished : (wrote now now' : Option (List ℕ)) (f f1 f2 : ℕ) (before left : Option (List ℕ)) (held : List ℕ)
      (result : Result (Unit {0}) s.Error) → laws.is_write result ≡ false
      → Stopped s D (laws.is_read result) wrote now f f1 before left held result → CutOff now now' f1 f2 held
      → D (record { wrote_before = wrote; wrote_after = now'; left_before = before; left_after = left })
      (Err (laws.error_of no_lines.Write)) × (laws.is_read result ≡ false) × Rose f f2
  not_finished wrote now now' f f1 f2 before left held result no_write k c = by_read (laws.is_read result) refl
    where
      by_kept : laws.is_read result ≡ false
          → (held ≡ []) ⊎ (TakesNoMore s (given_text wrote k.sent before left) × BeginIsOut s before left k.sent)
          → D (record { wrote_before = wrote; wrote_after = now'; left_before = before; left_after = left })
          (Err (laws.error_of no_lines.Write))
      by_kept no_read (inl none) = absurd (no_front_of_nothing now now' held none c.front)
      by_kept no_read (inr (no_more, begun)) =
          let out : Sent s wrote now f f1 before left k.sent =
          record { written = k.written; count = k.count; no_more = no_more; begun = begun } in
          elim (laws.last before left (k.sent ++ held) result no_read no_write (k.drives (Some []))) [
            | inl none ↦ absurd (omega (arith, ap length none, length-append k.sent held, c.front.proper))
            | inr run ↦ write_failed wrote now now' f f1 before left k.sent held out c.front run
          ]

      by_read : (b : Bool) → laws.is_read result ≡ b
          → D (record { wrote_before = wrote; wrote_after = now'; left_before = before; left_after = left })
          (Err (laws.error_of no_lines.Write)) × (laws.is_read result ≡ false) × Rose f f2
      by_read true is = absurd (no_front_of_nothing now now' held (k.read_all is) c.front)
      by_read false other = (by_kept other k.kept, other, rose_after f f1 f2 k.count c.count)
