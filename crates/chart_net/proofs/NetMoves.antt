-- The moves of the driver of a net: what was written, and what is kept, after the starts and after each line.
use Rattle.std.proofs.Common.{◌≡◌, ℕ, ◌+◌, ◌<◌, Bool, false, List, ◌++◌, length, Option, Result, Ok, Err, refl, subst}
use Rattle.event_file.specs.Reading.{Reading, unused}
use Rattle.trace_text.specs.Pieces.{Held, Puts, nothing_held}
use Rattle.trace_text.proofs.PutLemmas.{puts_both}
use Rattle.step_driver.specs.Ending.{LinesEnd}
use Rattle.step_driver.specs.NextLines.{Follows, Moves, failed_to_write}
use Rattle.step_driver.specs.StepRuns.{StepRuns}
use Rattle.step_driver.specs.declared.lines.NoLine.{NoLine}
use Rattle.step_driver.proofs.Buffered.{Buffered, Between, buffered_start, line_buffered, start_stops, line_stops}
use Rattle.step_driver.proofs.Buffered.{next_stops}
use Rattle.chart_net.specs.Moving.{LineDone, StepEnds}
use Rattle.chart_net.specs.Causes.{is_read, is_write}
use Rattle.chart_net.specs.NetDriving.{NetDrives, end_of_line, net_runs}
use Rattle.chart_net.specs.Nets.{Net, NetWorld}
use Rattle.chart_net.specs.NetRuns.{NetStep, Starts}
use Rattle.chart_net.specs.Schedules.{step_of_line}
use Rattle.chart_net.specs.declared.driver.NetEnd.{NetEnd}
use Rattle.chart_net.specs.declared.driver.NetEnd.TheVariants as ends
use Rattle.chart_net.proofs.NetDriven.{NetState, Starting, driver_laws, line_driven, line_fails, net_started}
use Rattle.chart_net.proofs.NetDriven.{starting_more, starts_over}
use Rattle.chart_net.proofs.NetRunLemmas.{GivesOne}

-- a step of one net is that of the same net by another name
step_same : (net net' : Net) (now : NetWorld) (step : NetStep) (q : ℕ) (Stands : NetWorld → Type 0)
    (P : List ℕ → Type 0)
    (failed : Bool) (result : Result (Unit {0}) NetEnd) → net' ≡ net → StepEnds net' now step q Stands P failed result
    → StepEnds net now step q Stands P failed result
step_same net net' now step q Stands P failed result same done =
    subst (λ (z : Net). StepEnds z now step q Stands P failed result) same done

-- and so is what a line did
line_same : (net net' : Net) (now : NetWorld) (number p : ℕ) (line : List ℕ) (Stands : NetWorld → Type 0)
    (P : List ℕ → Type 0) (failed : Bool) (result : Result ℕ NetEnd) → net' ≡ net
    → LineDone net' now number p (step_of_line net' line) Stands P failed result
    → LineDone net now number p (step_of_line net line) Stands P failed result
line_same net net' now number p line Stands P failed result same done =
    subst (λ (z : Net). LineDone z now number p (step_of_line z line) Stands P failed result) same done

module _ (net : Net) where
  -- the runs
  abbrev s : StepRuns
  s = net_runs net

  -- how the lines end, by the answer
  abbrev End : Option (List ℕ) → Option (List ℕ) → ℕ → ℕ → Option (List ℕ) → Option (List ℕ) → List ℕ
      → Result (Unit {0}) NetEnd → Type 0
  End wrote now f f' before left held result =
      LinesEnd s (NetDrives net) (is_write result) ends.Write (is_read result) wrote now f f' before left held result

  -- the start of a chart ends the run
  pub start_over : (net' : Net) (Stands Stands' : NetWorld → Type 0) (w0 w1 w2 : Option (List ℕ)) (f0 f1 f2 : ℕ)
      (before : Option (List ℕ)) (h0 h1 h2 : Held) (c : ℕ) (end : NetEnd) → net' ≡ net → GivesOne net
      → h0 ≡ nothing_held
      → h2.failed ≡ is_write {T = Unit {0}} (Err end) → is_read {T = Unit {0}} (Err end) ≡ false → c < length net.names
      → Starting net Stands (Puts w0 w1 f0 f1 h0 h1) c
      → ((w : NetWorld) → Stands w → StepEnds net' w (Starts c) 0 Stands' (Puts w1 w2 f1 f2 h1 h2) h2.failed (Err end))
      → End w0 w2 f0 f2 before before h2.bytes (Err end)
  start_over net' Stands Stands' w0 w1 w2 f0 f1 f2 before h0 h1 h2 c end same one empty failed no_read few k done =
      let ends' = step_same net net' k.now (Starts c) 0 Stands' (Puts w1 w2 f1 f2 h1 h2) h2.failed (Err end) same
      (done k.now k.stands) in
      let (put, puts, e) = starts_over net c Stands Stands' (Puts w0 w1 f0 f1 h0 h1) (Puts w1 w2 f1 f2 h1 h2)
      (Puts w0 w2 f0 f2 h0 h2) h2.failed
      (λ first second x y. puts_both w0 w1 w2 f0 f1 f2 h0 h1 h2 first second
      (first ++ second) x y refl) k end one few before
      ends' in
      start_stops s (NetDrives net) (driver_laws net one) w0 w2 f0 f2 before h0 h2 (is_write {T = Unit {0}} (Err end))
      (is_read {T = Unit {0}} (Err end)) put (Err end) empty failed no_read puts e

  -- one chart more was started
  pub start_more : (net' : Net) (Stands Stands' : NetWorld → Type 0) (w0 w1 w2 : Option (List ℕ)) (f0 f1 f2 : ℕ)
      (h0 h1 h2 : Held) (c : ℕ) → net' ≡ net → Starting net Stands (Puts w0 w1 f0 f1 h0 h1) c
      → ((w : NetWorld) → Stands w → StepEnds net' w (Starts c) 0 Stands' (Puts w1 w2 f1 f2 h1 h2) h2.failed (Ok tt))
      → Starting net Stands' (Puts w0 w2 f0 f2 h0 h2) (c + 1)
  start_more net' Stands Stands' w0 w1 w2 f0 f1 f2 h0 h1 h2 c same k done =
      starting_more net c Stands Stands' (Puts w0 w1 f0 f1 h0 h1) (Puts w1 w2 f1 f2 h1 h2)
      (Puts w0 w2 f0 f2 h0 h2) h2.failed
      (λ first second x y. puts_both w0 w1 w2 f0 f1 f2 h0 h1 h2 first second (first ++ second) x y refl) k
      (step_same net net' k.now (Starts c) 0 Stands' (Puts w1 w2 f1 f2 h1 h2) h2.failed (Ok tt) same
      (done k.now k.stands))

  -- after all starts
  pub starts_put : (Stands : NetWorld → Type 0) (wrote now : Option (List ℕ)) (f f' : ℕ) (before : Option (List ℕ))
      (old new : Held) (r : Reading) → r ≡ unused → old ≡ nothing_held → new.failed ≡ false
      → Starting net Stands (Puts wrote now f f' old new) (length net.names)
      → Buffered s (NetState net Stands 0) wrote now f f' before before new r 0
  starts_put Stands wrote now f f' before old new r fresh empty usable k =
      buffered_start s (NetState net Stands 0) wrote now f f' before old new r 0 k.text empty usable k.put
      (net_started net Stands (Puts wrote now f f' old new) before r fresh k)

  -- the next line can't be taken
  pub next_over : (Stands : NetWorld → Type 0) (wrote now now' : Option (List ℕ)) (f f1 f2 : ℕ)
      (before left left' : Option (List ℕ)) (held held' : Held) (r r' : Reading) (p : ℕ) (end : NoLine) → GivesOne net
      → Buffered s (NetState net Stands p) wrote now f f1 before left held r p → Follows r r' left left' (Err end)
      → Moves (failed_to_write (Err end)) r left left' now now' f1 f2 held held'
      → End wrote now' f f2 before left' held'.bytes (Err (end_of_line end))
  next_over Stands wrote now now' f f1 f2 before left left' held held' r r' p end one b next moves =
      next_stops s (NetDrives net) (driver_laws net one)
      (NetState net Stands p) wrote now now' f f1 f2 before left left' held
      held' r r' p end b next moves

  -- the line was taken, and the run goes on
  pub line_put : (net' : Net) (Stands Stands' : NetWorld → Type 0) (wrote now now' : Option (List ℕ)) (f f1 f2 : ℕ)
      (before left left' : Option (List ℕ)) (held held' : Held) (r r' : Reading) (p next_p : ℕ) (failed : Bool)
      → net' ≡ net
      → Between s (NetState net Stands p) wrote now f f1 before left left' held r r' p → held'.failed ≡ false
      → ((w : NetWorld) → Stands w → LineDone net' w r'.number p (step_of_line net' r'.line) Stands'
      (Puts now now' f1 f2 held held') failed (Ok next_p))
      → Buffered s (NetState net Stands' next_p) wrote now' f f2 before left' held' r' next_p
  line_put net' Stands Stands' wrote now now' f f1 f2 before left left' held held' r r' p next_p failed same b
      usable taken =
      let d = b.driven in
      let (put, puts, driven) = line_driven net before left left' r r' p (b.sent ++ held.bytes) Stands Stands'
      (Puts now now' f1 f2 held held') failed d b.next next_p
      (line_same net net' d.state.now r'.number p r'.line Stands'
      (Puts now now' f1 f2 held held') failed (Ok next_p) same (taken d.state.now d.state.stands)) in
      line_buffered s (NetState net Stands p)
      (NetState net Stands' next_p) wrote now now' f f1 f2 before left left' held held'
      r r' p next_p put b usable puts driven

  -- the line was taken, and the run ends
  pub line_over : (net' : Net) (Stands Stands' : NetWorld → Type 0) (wrote now now' : Option (List ℕ)) (f f1 f2 : ℕ)
      (before left left' : Option (List ℕ)) (held held' : Held) (r r' : Reading) (p : ℕ) (failed : Bool) (end : NetEnd)
      → net' ≡ net → GivesOne net → Between s (NetState net Stands p) wrote now f f1 before left left' held r r' p
      → held'.failed ≡ is_write {T = Unit {0}} (Err end) → is_read {T = Unit {0}} (Err end) ≡ false
      → ((w : NetWorld) → Stands w → LineDone net' w r'.number p (step_of_line net' r'.line) Stands'
      (Puts now now' f1 f2 held held') failed (Err end))
      → End wrote now' f f2 before left' held'.bytes (Err end)
  line_over net' Stands Stands' wrote now now' f f1 f2 before left left' held held' r r' p failed end same one b
      fails no_read taken =
      let d = b.driven in
      let (put, puts, e) = line_fails net before left left' r r' p (b.sent ++ held.bytes) Stands Stands'
      (Puts now now' f1 f2 held held') failed d b.next end one
      (line_same net net' d.state.now r'.number p r'.line Stands'
      (Puts now now' f1 f2 held held') failed (Err end) same (taken d.state.now d.state.stands)) in
      line_stops s (NetDrives net) (driver_laws net one)
      (NetState net Stands p) wrote now now' f f1 f2 before left left' held
      held' r r' p (is_write {T = Unit {0}} (Err end)) (is_read {T = Unit {0}} (Err end)) put
      (Err end) b fails no_read puts e
