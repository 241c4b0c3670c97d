-- How the C program stands to a run of code.
use Rattle.std.specs.Prelude.{◌≡◌, ◌≢◌, ◌≤◌, ◌++◌, ℕ, suc, List, [], ◌∷◌, length, drop, Option, Some, None, Result, Ok}
use Rattle.std.specs.Prelude.{Err}
use Rattle.flow_base.specs.declared.fault.Fault.{Fault}
use Rattle.std.specs.Prelude.{◌==◌, ◌&&◌, map, slice_index_or}
use Rattle.std.specs.List.{find, range_with_len}
use Rattle.active_config.specs.Tree.{Tree, state_count, is_child}
use Rattle.active_config.specs.Marks.{Configuration, IsConsistent}
use Rattle.actions.specs.declared.event.Event.{Event}
use Rattle.actions.specs.Exprs.{Expr}
use Rattle.actions.specs.World.{World}
use Rattle.actions.specs.Changes.{truth_of, assigned_in}
use Rattle.actions.specs.Work.{Now}
use Rattle.code_language.specs.Code.{Procedures, instructions}
use Rattle.code_language.specs.Instrs.{Instr}
use Rattle.code_language.specs.Machine.{Program, Frame, CodeState, machine, returned, later, step, Stops}
use Rattle.code_language.specs.Reactions.{Leads}
use Rattle.actions.specs.Runs.{Moment}
use Rattle.code_language.specs.Reach.{ReachesIn, Reaches, Falls, with_note, pending}
use Rattle.c_functions.specs.States.{States, Shows, c_on}
use Rattle.c_functions.specs.Statements.{CMemory, Locals, Out, Fell, Left, Failed, Starved, Wrong}
use Rattle.c_functions.specs.Meaning.{Sums, Calls, begins}

-- the memory stands for a world
pub record Stands (t : Tree) (n : ℕ → ℕ) (m : CMemory) (w : World) : Type 0 where
  pub states : Shows t n m.states w.marks
  pub consistent : IsConsistent t w.marks
  pub vals : m.vals ≡ w.vals
  pub outputs : m.outputs ≡ w.outputs
  pub used : m.used ≡ w.used

-- after a store
abbrev pub Stored : Tree → (ℕ → ℕ) → CMemory → Result CMemory Fault → Result World Fault → Type 0
Stored t n m (Ok v) (Ok w) = Stands t n v w × (v.notes ≡ m.notes)
Stored t n m (Err x) (Err y) = x ≡ y
Stored t n m (Ok v) (Err y) = ⊥
Stored t n m (Err x) (Ok w) = ⊥

-- the arithmetic of C agrees with that of code
pub record Agree (t : Tree) (n : ℕ → ℕ) (sums : Sums) : Type 0 where
  pub truth : (x : Expr) (m : CMemory) (w : World) → Stands t n m w → sums.truth x m ≡ truth_of x w
  pub store : (v : ℕ) (x : Expr) (m : CMemory) (w : World) → Stands t n m w → Stored t n m (sums.store v x m)
      (assigned_in v x w)

-- The function stands where the top frame is: these instructions follow; memory stands for the world, its notes are
-- those of the frames; home and last result are the frame's and the machine's; `base` says how many notes lie up to the
-- frame's base, and the later of `cursor` and `base` how many lie below those that `Play` may still find. The frame has
-- this note and this saved event.
pub record IsAt (t : Tree) (n : ℕ → ℕ) (k : Procedures) (note : Option ℕ) (saved : Option Event) (xs : List Instr)
    (m : CMemory)
    (l : Locals) (w : World) (r : ℕ) (f : Frame) (fs : List Frame) : Type 0 where
  pub code : drop f.place (instructions k f.proc) ≡ xs
  pub stands : Stands t n m w
  pub notes : m.notes ≡ pending 0 (f ∷ fs)
  pub note_is : f.note ≡ note
  pub saved_is : f.saved ≡ saved
  pub home : l.home ≡ f.home
  pub result : l.result ≡ r
  pub within : f.base ≤ length fs
  pub base : l.base ≤ length m.notes
  pub above_base : drop l.base m.notes ≡ pending (suc f.base) (f ∷ fs)
  pub cursor : l.cursor ≤ length m.notes
  pub above_cursor : drop (later l.cursor l.base) m.notes ≡ pending (later f.cursor (suc f.base)) (f ∷ fs)

-- code comes to a place where no instruction stands, which well-formed code never does
pub record Stuck (C : Program) (start : CodeState) : Type 0 where
  pub last : CodeState
  pub reached : Reaches C start last
  pub frames : last.frames ≢ []
  pub stops : step C last ≡ Stops last.world None

-- code goes on for at least so many steps
pub record GoesFor (C : Program) (least : ℕ) (start : CodeState) : Type 0 where
  pub steps : ℕ
  pub last : CodeState
  pub by : ReachesIn C steps start last
  pub enough : least ≤ steps

module _ (C : Program) (n : ℕ → ℕ) (now : Now) (note : Option ℕ) (saved : Option Event) (fs : List Frame) where
  -- a function that returned: the frame returns with the same result, and the notes are what they were
  pub record Returned (start : CodeState) (m : CMemory) (r : ℕ) : Type 0 where
    pub world : World
    pub stands : Stands C.tree n m world
    pub notes : m.notes ≡ pending 0 fs ++ with_note note []
    pub reached : Reaches C start (returned world now r saved fs)

  -- a function that failed: code ends with the same fault
  pub record Lost (start : CodeState) (m : CMemory) (x : Fault) : Type 0 where
    pub world : World
    pub stands : Stands C.tree n m world
    pub falls : Falls C start world x

module _ (C : Program) (n : ℕ → ℕ) (least : ℕ) (now : Now) (note : Option ℕ) (saved : Option Event)
    (fs : List Frame) where
  -- code does what a function did; where it was starved it goes on for so many steps
  abbrev pub DoesCall : CodeState → Out → Type 0
  DoesCall start (Fell m l) = ⊥
  DoesCall start (Left m r) = Returned C n now note saved fs start m r
  DoesCall start (Failed m x) = Lost C n now note saved fs start m x
  DoesCall start Starved = GoesFor C least start
  DoesCall start Wrong = Stuck C start

-- calls do what a frame of the procedure does
abbrev pub CallsDo : Program → (ℕ → ℕ) → ℕ → Calls → Type 0
CallsDo C n least call = (p base home r : ℕ) (now : Now) (note : Option ℕ) (saved : Option Event) (m : CMemory)
    (w : World)
    (f : Frame) (fs : List Frame) → f.proc ≡ p → f.place ≡ 0
    → IsAt C.tree n C.procedures note saved (instructions C.procedures p) m (begins base home r) w r f fs
    → DoesCall C n least now note saved fs (machine w now r (f ∷ fs)) (call p now base home r m)

-- how a call from outside ends, and how code ends: the memory stands for the world of the moment, which has the same
-- fault or none
pub record EndsAs (t : Tree) (n : ℕ → ℕ) (m : CMemory) (x : Option Fault) (moment : Moment) : Type 0 where
  pub stands : Stands t n m moment.world
  pub fault : moment.fault ≡ x

-- a call from outside that ended, and where code leads
pub record IsMoment (C : Program) (n : ℕ → ℕ) (start : CodeState) (m : CMemory) (x : Option Fault) : Type 0 where
  pub moment : Moment
  pub leads : Leads C start moment
  pub ends : EndsAs C.tree n m x moment

-- code ends as a call from outside; where the call is starved it goes on for so many steps
abbrev pub EndsWith : Program → (ℕ → ℕ) → ℕ → CodeState → Out → Type 0
EndsWith C n least start (Fell m l) = ⊥
EndsWith C n least start (Left m r) = IsMoment C n start m None
EndsWith C n least start (Failed m x) = IsMoment C n start m (Some x)
EndsWith C n least start Starved = GoesFor C least start
EndsWith C n least start Wrong = Stuck C start

-- a call from outside ends, as code does
abbrev pub EndsAsCode : Program → (ℕ → ℕ) → CodeState → Out → Type 0
EndsAsCode C n start (Fell m l) = ⊥
EndsAsCode C n start (Left m r) = IsMoment C n start m None
EndsAsCode C n start (Failed m x) = IsMoment C n start m (Some x)
EndsAsCode C n start Starved = ⊥
EndsAsCode C n start Wrong = ⊥

-- the marks that fields tell
unfoldable pub told : Tree → (ℕ → ℕ) → States → Configuration
told t n st = record {
  flags = map (λ s. c_on t n s st) (range_with_len 0 (state_count t));
  last = map (λ p. find (λ x. is_child t p x && (n x == slice_index_or st.kept p 0)) (range_with_len 0 (state_count t)))
      (range_with_len 0 (state_count t));
}

-- the world that memory tells
abbrev pub world_of : Tree → (ℕ → ℕ) → CMemory → World
world_of t n m = record { marks = told t n m.states; vals = m.vals; outputs = m.outputs; used = m.used }

-- memory with the data of a world, where there is one
abbrev pub with_vals : CMemory → Result World Fault → Result CMemory Fault
with_vals m (Ok w) = Ok (record m { vals = w.vals })
with_vals m (Err x) = Err x

-- the arithmetic of code, on the world that memory tells: it agrees with itself
abbrev pub own_sums : Tree → (ℕ → ℕ) → Sums
own_sums t n = record {
  truth = λ x m. truth_of x (world_of t n m);
  store = λ v x m. with_vals m (assigned_in v x (world_of t n m));
}
