-- The answer and the world after a call are what a run gives, unless memory ran out.
use Rattle.std.specs.Prelude.{◌≡◌, ℕ, Result, Ok, Err}
use Rattle.actions.specs.declared.engine.Halt.{Halt}
use Rattle.actions.specs.declared.engine.Halt.TheVariants as halts
use Rattle.actions.specs.World.{World}
use Rattle.actions.specs.Work.{Run, Ended, Faulted}
use Rattle.sos_interpreter.specs.Settled.{Settled}

-- the answer and the world after the call are the end of this run
abbrev pub Does : {A B : Type 0} → (A → B) → Run B → Result A Halt → World → Type 0
Does view r (Ok a) w = r ≡ Ended (view a) w
Does view r (Err (halts.Fault x)) w = r ≡ Faulted x w
Does view r (Err halts.Memory) w = Unit {0}

-- they are the end of the runs from some height on
abbrev pub Gives : {A B : Type 0} → (A → B) → (ℕ → Run B) → Result A Halt → World → Type 0
Gives view m (Ok a) w = Settled m (Ended (view a) w)
Gives view m (Err (halts.Fault x)) w = Settled m (Faulted x w)
Gives view m (Err halts.Memory) w = Unit {0}
