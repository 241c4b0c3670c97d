-- The moves of the driver of an engine: what was written, and what is kept, after the start and after each line.
use Rattle.std.proofs.Common.{◌≡◌, ℕ, false, List, ◌++◌, Option, None, Result, Ok, Err}
use Rattle.active_config.specs.Tree.{Tree}
use Rattle.actions.specs.Names.{Names}
use Rattle.actions.specs.Runs.{StartRelation, ReactionRelation}
use Rattle.actions.specs.World.{World}
use Rattle.actions.specs.declared.event.Event.TheVariants.{Start}
use Rattle.event_file.specs.EventLines.{event_of_line}
use Rattle.event_file.specs.Reading.{Reading, unused}
use Rattle.trace_text.specs.Pieces.{Held, Puts, nothing_held}
use Rattle.trace_text.specs.Trace.{trace_line}
use Rattle.step_driver.specs.declared.driver.DriveEnd.{DriveEnd}
use Rattle.step_driver.specs.declared.driver.DriveEnd.TheVariants as ends
use Rattle.step_driver.specs.declared.lines.NoLine.{NoLine}
use Rattle.step_driver.specs.Causes.{is_read, is_write}
use Rattle.step_driver.specs.Driving.{Drives, engine_runs}
use Rattle.step_driver.specs.Ending.{LinesEnd}
use Rattle.step_driver.specs.NextLines.{Follows, Moves, failed_to_write}
use Rattle.step_driver.specs.Parts.{Done, LineTaken, end_of_line}
use Rattle.step_driver.specs.StepRuns.{StepRuns}
use Rattle.step_driver.proofs.Buffered.{Buffered, Between, buffered_start, line_buffered, start_stops, line_stops}
use Rattle.step_driver.proofs.Buffered.{next_stops}
use Rattle.step_driver.proofs.EngineRuns.{OneStart, so_far, driver_laws, engine_started, start_ends, line_driven}
use Rattle.step_driver.proofs.EngineRuns.{line_fails}

module _ (start : StartRelation) (react : ReactionRelation) (t : Tree) (n : Names) where
  -- the runs, and the run so far
  abbrev s : StepRuns
  s = engine_runs start react t n

  -- how the lines end, by the answer
  abbrev End : Option (List ℕ) → Option (List ℕ) → ℕ → ℕ → Option (List ℕ) → Option (List ℕ) → List ℕ
      → Result (Unit {0}) DriveEnd → Type 0
  End wrote now f f' before left held result =
      LinesEnd s (Drives start react t n) (is_write result) ends.Write
      (is_read result) wrote now f f' before left held result

  -- the start ends the run
  pub start_over : (wrote now : Option (List ℕ)) (f f' : ℕ) (before : Option (List ℕ)) (old new : Held) (w : World)
      (end : DriveEnd) → OneStart start → old ≡ nothing_held → new.failed ≡ is_write {T = Unit {0}} (Err end)
      → is_read {T = Unit {0}} (Err end) ≡ false
      → Done start (λ x g. trace_line t n x 0 Start g) 0 w (Puts wrote now f f' old new) (Err end)
      → End wrote now f f' before before new.bytes (Err end)
  start_over wrote now f f' before old new w end one empty failed no_read done =
      let (put, puts, e) = start_ends start react t n before w (Puts wrote now f f' old new) end done in
      start_stops s (Drives start react t n) (driver_laws start react t n one) wrote now f f' before old new
      (is_write {T = Unit {0}} (Err end)) (is_read {T = Unit {0}} (Err end)) put (Err end) empty failed no_read puts e

  -- after the start
  pub start_put : (wrote now : Option (List ℕ)) (f f' : ℕ) (before : Option (List ℕ)) (old new : Held) (r : Reading)
      (w : World)
      → r ≡ unused → old ≡ nothing_held → new.failed ≡ false
      → Done start (λ x g. trace_line t n x 0 Start g) 0 w (Puts wrote now f f' old new) (Ok tt)
      → Buffered s (so_far start react t n w) wrote now f f' before before new r 0
  start_put wrote now f f' before old new r w fresh empty usable (starts, puts) =
      buffered_start s (so_far start react t n w) wrote now f f' before old new r 0
      (trace_line t n w 0 Start None) empty usable
      puts (engine_started start react t n before r w fresh starts)

  -- the next line can't be taken
  pub next_over : (wrote now now' : Option (List ℕ)) (f f1 f2 : ℕ) (before left left' : Option (List ℕ))
      (held held' : Held)
      (r r' : Reading) (w : World) (index : ℕ) (end : NoLine) → OneStart start
      → Buffered s (so_far start react t n w) wrote now f f1 before left held r index
      → Follows r r' left left' (Err end)
      → Moves (failed_to_write (Err end)) r left left' now now' f1 f2 held held'
      → End wrote now' f f2 before left' held'.bytes (Err (end_of_line end))
  next_over wrote now now' f f1 f2 before left left' held held' r r' w index end one b next moves =
      next_stops s (Drives start react t n) (driver_laws start react t n one)
      (so_far start react t n w) wrote now now' f f1 f2
      before left left' held held' r r' index end b next moves

  -- the line was taken, and the run goes on
  pub line_put : (wrote now now' : Option (List ℕ)) (f f1 f2 : ℕ) (before left left' : Option (List ℕ))
      (held held' : Held)
      (r r' : Reading) (w w' : World) (index next_index : ℕ)
      → Between s (so_far start react t n w) wrote now f f1 before left left' held r r' index → held'.failed ≡ false
      → LineTaken react t n r'.number index (event_of_line n r'.line) w w' (Puts now now' f1 f2 held held')
      (Ok next_index)
      → Buffered s (so_far start react t n w') wrote now' f f2 before left' held' r' next_index
  line_put wrote now now' f f1 f2 before left left' held held' r r' w w' index next_index b usable taken =
      let (put, puts, driven) = line_driven start react t n before left left' r r' w w' index (b.sent ++ held.bytes)
      (Puts now now' f1 f2 held held') b.driven b.next next_index taken in
      line_buffered s (so_far start react t n w)
      (so_far start react t n w') wrote now now' f f1 f2 before left left' held held'
      r r' index next_index put b usable puts driven

  -- the line was taken, and the run ends
  pub line_over : (wrote now now' : Option (List ℕ)) (f f1 f2 : ℕ) (before left left' : Option (List ℕ))
      (held held' : Held)
      (r r' : Reading) (w w' : World) (index : ℕ) (end : DriveEnd) → OneStart start
      → Between s (so_far start react t n w) wrote now f f1 before left left' held r r' index
      → held'.failed ≡ is_write {T = Unit {0}} (Err end) → is_read {T = Unit {0}} (Err end) ≡ false
      → LineTaken react t n r'.number index (event_of_line n r'.line) w w' (Puts now now' f1 f2 held held') (Err end)
      → End wrote now' f f2 before left' held'.bytes (Err end)
  line_over wrote now now' f f1 f2 before left left' held held' r r' w w' index end one b failed no_read taken =
      let (put, puts, e) = line_fails start react t n before left left' r r' w w' index (b.sent ++ held.bytes)
      (Puts now now' f1 f2 held held') b.driven b.next end one taken in
      line_stops s (Drives start react t n) (driver_laws start react t n one)
      (so_far start react t n w) wrote now now' f f1 f2
      before left left' held held' r r' index (is_write {T = Unit {0}} (Err end)) (is_read {T = Unit {0}} (Err end)) put
      (Err end) b failed no_read puts e
