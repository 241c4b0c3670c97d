-- Work on a world and a log: the forms of work of a run, with the log handed on.
use Rattle.std.specs.Prelude.{ℕ, List, ◌∷◌, Option, Some, None, Bool, true, false}
use Rattle.flow_base.specs.declared.fault.Fault.{Fault}
use Rattle.actions.specs.World.{World}
use Rattle.actions.specs.Work as work
use Rattle.actions.specs.Work.{End, Done, Cut}
use Rattle.counting_log.specs.Log.{Note}

-- what work leaves: an answer, the world and the log; a fault with both; or it isn't over
pub data Logged (A : Type 0) : Type 0 where
  Ended : A → World → List Note → Logged A
  Faulted : Fault → World → List Note → Logged A
  Unfinished : Logged A

-- work on a world and a log
abbrev pub Work : Type 0 → Type 0
Work A = World → List Note → Logged A

-- after work that ended comes more, with its answer
abbrev pub then_do : {A B : Type 0} → Logged A → (A → Work B) → Logged B
then_do (Ended a w l) f = f a w l
then_do (Faulted x w l) f = Faulted x w l
then_do Unfinished f = Unfinished

-- one after the other, the second with the answer of the first
infixl 10 ◌>>=◌
abbrev pub ◌>>=◌ : {A B : Type 0} → Work A → (A → Work B) → Work B
m >>= f = λ w l. then_do (m w l) f

-- one after the other
infixl 10 ◌>>◌
abbrev pub ◌>>◌ : {A B : Type 0} → Work A → Work B → Work B
m >> k = λ w l. then_do (m w l) (λ _. k)

-- what work without a log leaves, and the log as it was
abbrev pub with_log : {A : Type 0} → work.Run A → List Note → Logged A
with_log (work.Ended a w) l = Ended a w l
with_log (work.Faulted x w) l = Faulted x w l
with_log work.Unfinished l = Unfinished

-- work without a log
abbrev pub lift : {A : Type 0} → work.Work A → Work A
lift m w l = with_log (m w) l

-- a note is taken
abbrev pub note : Note → Work (Unit {0})
note n w l = Ended tt w (n ∷ l)

-- an answer, and nothing is done
abbrev pub give : {A : Type 0} → A → Work A
give a w l = Ended a w l

-- nothing is done
abbrev pub nothing : Work (Unit {0})
nothing w l = Ended tt w l

-- a test of the world
abbrev pub test : (World → Bool) → Work Bool
test p w l = Ended (p w) w l

-- a look at the world
abbrev pub look : {A : Type 0} → (World → A) → Work A
look f w l = Ended (f w) w l

-- a change of the world
abbrev pub change : (World → World) → Work (Unit {0})
change f w l = Ended tt (f w) l

-- the first where it is true, else the second
abbrev pub choose : {A : Type 0} → Bool → Work A → Work A → Work A
choose true m k = m
choose false m k = k

-- the first where there is none, else the second with what there is
abbrev pub if_some : {A : Type 0} → Option ℕ → Work A → (ℕ → Work A) → Work A
if_some None m f = m
if_some (Some x) m f = f x

-- the work where an action wasn't cut, else the answer
abbrev pub if_done : {A : Type 0} → End → A → Work A → Work A
if_done Done a m = m
if_done Cut a m = give a
