-- How a piece of work ends, and how pieces of work are joined.
use Rattle.std.specs.Prelude.{◌==◌, ℕ, suc, Option, Some, None, Result, Ok, Err, Bool, true, false}
use Rattle.flow_base.specs.declared.fault.Fault.{Fault}
use Rattle.actions.specs.declared.event.Event.{Event}
use Rattle.actions.specs.declared.event.Event.TheVariants.{Start, Tick, Named}
use Rattle.actions.specs.World.{World}

-- how a piece of work ends, with the world as it then stands; or Unfinished: no derivation of the given height gives an
-- end
pub data Run (A : Type 0) : Type 0 where
  Ended : A → World → Run A
  Faulted : Fault → World → Run A
  Unfinished : Run A

-- work from a world, which answers an A
abbrev pub Work : Type 0 → Type 0
Work A = World → Run A

-- f continues a run that has ended; a fault, or an unfinished run, is the outcome of both
abbrev pub then_do : {A B : Type 0} → Run A → (A → Work B) → Run B
then_do (Ended a w) f = f a w
then_do (Faulted x w) f = Faulted x w
then_do Unfinished f = Unfinished

infixl 10 ◌>>=◌
-- first m, and then what f says of its answer
abbrev pub ◌>>=◌ : {A B : Type 0} → Work A → (A → Work B) → Work B
m >>= f = λ w. then_do (m w) f

infixl 10 ◌>>◌
-- first m, and then k
abbrev pub ◌>>◌ : {A B : Type 0} → Work A → Work B → Work B
m >> k = λ w. then_do (m w) (λ _. k)

-- ends at once with that answer
abbrev pub give : {A : Type 0} → A → Work A
give a w = Ended a w

-- ends at once
abbrev pub nothing : Work (Unit {0})
nothing w = Ended tt w

-- ends in a fault, in the world as it stands
abbrev pub fault : {A : Type 0} → Fault → Work A
fault x w = Faulted x w

-- answers what a test says of the world
abbrev pub test : (World → Bool) → Work Bool
test p w = Ended (p w) w

-- answers what is looked up in the world
abbrev pub look : {A : Type 0} → (World → A) → Work A
look f w = Ended (f w) w

-- changes the world
abbrev pub change : (World → World) → Work (Unit {0})
change f w = Ended tt (f w)

-- what a payment or an assignment gives, which is never unfinished
abbrev pub change_or_fault : Result World Fault → Work (Unit {0})
change_or_fault (Ok v) w = Ended tt v
change_or_fault (Err x) w = Faulted x w

-- what a guard gives
abbrev pub flag_or_fault : Result Bool Fault → Work Bool
flag_or_fault (Ok b) w = Ended b w
flag_or_fault (Err x) w = Faulted x w

-- the first of two pieces of work where the test holds, else the second
abbrev pub choose : {A : Type 0} → Bool → Work A → Work A → Work A
choose true m k = m
choose false m k = k

-- the first piece of work where there is no number, else the second at that number
abbrev pub if_some : {A : Type 0} → Option ℕ → Work A → (ℕ → Work A) → Work A
if_some None m f = m
if_some (Some x) m f = f x

-- how a block ends: all of it was run, or it was cut, that is, it returned early, since its life was over
pub data End : Type 0 where
  Done : End
  Cut : End

-- the work m where a block was done, else the answer a at once
abbrev pub if_done : {A : Type 0} → End → A → Work A → Work A
if_done Done a m = m
if_done Cut a m = give a

-- ---- the current event

-- the current event, and how deep it was sent
pub record Now : Type 0 where
  pub event : Event
  pub depth : ℕ

-- the event is that of a number
abbrev pub is_event : ℕ → Event → Bool
is_event e Start = false
is_event e Tick = false
is_event e (Named x) = x == e

-- an event that was sent from here: it is current one level deeper
abbrev pub deeper : ℕ → Now → Now
deeper e now = record { event = Named e; depth = suc now.depth }

-- an event from outside is at depth 0
abbrev pub from_outside : Event → Now
from_outside e = record { event = e; depth = 0 }
