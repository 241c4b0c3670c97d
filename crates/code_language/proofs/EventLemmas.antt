-- The two counts of an event of well-formed code.
use Rattle.std.proofs.Common.{ℕ, ◌<◌, ◌≤◌, length, None, refl}
use Rattle.std.specs.Prelude.{slice_index}
use Rattle.flow_base.specs.declared.bounds.Bounds.{Bounds}
use Rattle.actions.specs.declared.event.Event.{Event}
use Rattle.actions.specs.declared.event.Event.TheVariants.{Start}
use Rattle.actions.specs.World.{World, world_before, begun}
use Rattle.actions.specs.Work.{from_outside}
use Rattle.code_language.specs.Code.{Code}
use Rattle.code_language.specs.Machine.{CodeState, fresh, step, run}
use Rattle.code_language.specs.Measures.{greatest, heights, works}
use Rattle.code_language.specs.Reactions.{program_of, start_machine, react_machine}
use Rattle.code_language.specs.WellFormed.{IsCode, known_of}
use Rattle.code_language.specs.Ahead.{ahead, IsOver}
use Rattle.code_language.specs.Left.{most_instructions, left_of, LeavesLess}
use Rattle.code_language.specs.Room.{most_frames, HasFrames, IsRoomy, StaysRoomy}
use Rattle.code_language.proofs.LeftLemmas as lefts
use Rattle.code_language.proofs.Numbers.{AreWorks, AreHeights, are_works, are_heights}
use Rattle.code_language.proofs.RoomLemmas as rooms
use Rattle.code_language.proofs.Sound.{code_parts}

module _ (k : Code) (b : Bounds) (is : IsCode k) where
  -- the works and the heights of its procedures
  abbrev ws : ℕ → ℕ
  ws = slice_index (works k.procedures.procs)

  abbrev hs : ℕ → ℕ
  hs = slice_index (heights k.procedures.procs)

  -- they bound what a run takes
  works_are : AreWorks k.procedures ws (greatest (works k.procedures.procs))
  works_are = are_works (known_of k) k.procedures (code_parts k is).procs

  -- and how high its calls stack up
  heights_are : AreHeights k.procedures hs (greatest (heights k.procedures.procs))
  heights_are = are_heights (known_of k) k.procedures (code_parts k is).procs

  -- ---- instructions

  -- each step takes from what is left
  pub step_falls : (m : CodeState) → LeavesLess k b (left_of k b m) (step (program_of k b) m)
  step_falls m = lefts.step_falls (program_of k b) ws (greatest (works k.procedures.procs)) works_are m

  -- so a run is over after more steps than are left
  pub run_ends : (m : CodeState) (n : ℕ) → left_of k b m < n → IsOver (run (program_of k b) n m)
  run_ends m n lt = lefts.run_ends (program_of k b) ws (greatest (works k.procedures.procs)) works_are n m lt

  -- and a start and a reaction are over in time
  pub start_ends : IsOver (run (program_of k b) (most_instructions k b) (start_machine k))
  start_ends = run_ends (start_machine k) (most_instructions k b)
      (lefts.start_left (program_of k b) ws (greatest (works k.procedures.procs)) works_are
      (world_before k.tree k.names) (from_outside Start) 0 k.procedures.start 0 0 None None refl)

  -- a reaction is over in time
  pub reaction_ends : (w : World) (e : Event)
      → IsOver (run (program_of k b) (most_instructions k b) (react_machine k w e))
  reaction_ends w e = run_ends (react_machine k w e) (most_instructions k b)
      (lefts.start_left (program_of k b) ws (greatest (works k.procedures.procs)) works_are
      (begun w) (from_outside e) 0 k.procedures.react 0 0 None None refl)

  -- ---- frames

  -- each step keeps the room
  pub step_roomy : (m : CodeState) → IsRoomy k b m → StaysRoomy k b (step (program_of k b) m)
  step_roomy m room = rooms.step_roomy (program_of k b) hs (greatest (heights k.procedures.procs)) heights_are m room

  -- so there are few frames
  pub frames_bounded : (m : CodeState) → IsRoomy k b m → length m.frames ≤ most_frames k b
  frames_bounded m room =
      rooms.frames_bounded (program_of k b) hs (greatest (heights k.procedures.procs)) heights_are m room

  -- a start and a reaction begin with room
  pub start_is_roomy : IsRoomy k b (start_machine k)
  start_is_roomy =
      rooms.start_roomy (program_of k b) hs (greatest (heights k.procedures.procs)) heights_are
      (world_before k.tree k.names) (from_outside Start) 0 (fresh k.procedures.start None 0 0 None) refl

  -- a reaction begins with room
  pub reaction_is_roomy : (w : World) (e : Event) → IsRoomy k b (react_machine k w e)
  reaction_is_roomy w e =
      rooms.start_roomy (program_of k b) hs (greatest (heights k.procedures.procs)) heights_are
      (begun w) (from_outside e) 0 (fresh k.procedures.react None 0 0 None) refl

  -- and have few frames at each moment
  few_ahead : (n : ℕ) (m : CodeState) → IsRoomy k b m → HasFrames (most_frames k b) (ahead (program_of k b) n m)
  few_ahead n m room =
      let C = program_of k b in
      let most = greatest (heights k.procedures.procs) in
      rooms.few_frames C hs most heights_are (ahead C n m) (rooms.ahead_roomy C hs most heights_are n m room)

  -- a start has few frames at each moment
  pub start_few : (n : ℕ) → HasFrames (most_frames k b) (ahead (program_of k b) n (start_machine k))
  start_few n = few_ahead n (start_machine k) start_is_roomy

  -- and so has a reaction
  pub reaction_few : (n : ℕ) (w : World) (e : Event)
      → HasFrames (most_frames k b) (ahead (program_of k b) n (react_machine k w e))
  reaction_few n w e = few_ahead n (react_machine k w e) (reaction_is_roomy w e)
