-- What a call that failed says of the work that it did.
use Rattle.std.proofs.Common.{◌≡◌, ℕ, Result, Ok, Err, IsErrAnd, sym, subst}
use Rattle.flow_base.specs.declared.fault.Fault.{Fault}
use Rattle.actions.specs.declared.engine.Halt.{Halt}
use Rattle.actions.specs.declared.engine.Halt.TheVariants as halts
use Rattle.actions.specs.World.{World}
use Rattle.actions.specs.Work.{Run, Ended, Faulted}
use Rattle.sos_interpreter.specs.Gives.{Does}
use Rattle.sos_interpreter.specs.Settled.{Settled, Continues}
use Rattle.sos_interpreter.specs.Gives.{Gives}

-- what a call without a value answers
abbrev pub nothing_of : Unit {0} → Unit {0}
nothing_of a = tt

-- a call that failed in a part fails in the whole: a fault of the part is a fault of the whole
pub failed_through : {A A' B B' : Type 0} (v : A → B) (v' : A' → B') {m : ℕ → Run B} {m' : ℕ → Run B'} (e : Halt)
    (r : Result A' Halt) (w : World)
    → IsErrAnd r (λ y. y ≡ e) → Gives v m (Err e) w → ((x : Fault) → Settled m (Faulted x w) → Settled m' (Faulted x w))
    → Gives v' m' r w
failed_through v v' e (Ok a) w is g h = absurd is
failed_through v v' {m} {m'} (halts.Fault x) (Err y) w is g h =
    subst (λ z. Gives v' m' (Err z) w) (sym is) (h x g)
failed_through v v' {m} {m'} halts.Memory (Err y) w is g h = subst (λ z. Gives v' m' (Err z) w) (sym is) tt

-- the same where the part is a single change and no run
pub failed_does : {A A' B B' : Type 0} (v : A → B) (v' : A' → B') {q : Run B} {m' : ℕ → Run B'} (e : Halt)
    (r : Result A' Halt) (w : World)
    → IsErrAnd r (λ y. y ≡ e) → Does v q (Err e) w → ((x : Fault) → q ≡ Faulted x w → Settled m' (Faulted x w))
    → Gives v' m' r w
failed_does v v' e (Ok a) w is g h = absurd is
failed_does v v' {q} {m'} (halts.Fault x) (Err y) w is g h =
    subst (λ z. Gives v' m' (Err z) w) (sym is) (h x g)
failed_does v v' {q} {m'} halts.Memory (Err y) w is g h = subst (λ z. Gives v' m' (Err z) w) (sym is) tt

-- a result that is passed on
pub passed : {A B : Type 0} (v : A → B) {m m' : ℕ → Run B} (r : Result A Halt) (w : World) → Gives v m r w
    → ((q : Run B) → Settled m q → Settled m' q) → Gives v m' r w
passed v (Ok a) w g h = h (Ended (v a) w) g
passed v (Err (halts.Fault x)) w g h = h (Faulted x w) g
passed v (Err halts.Memory) w g h = tt

-- what was answered is this
pub ended_as : {A B : Type 0} (v : A → B) {m : ℕ → Run B} {w : World} {a a' : A} → a ≡ a' → Settled m (Ended (v a) w)
    → Settled m (Ended (v a') w)
ended_as v {m} {w} e h = subst (λ z. Settled m (Ended (v z) w)) e h

-- a change that was made and gave this world
abbrev pub did : World → Run (Unit {0})
did w = Ended tt w

-- another world that is the same
pub settled_at : {B : Type 0} {m : ℕ → Run B} {a : B} {u v : World} → did u ≡ did v → Settled m (Ended a u)
    → Settled m (Ended a v)
settled_at {m} {a} {u} {v} e h = let f : u ≡ v = cc in subst (λ z. Settled m (Ended a z)) f h

-- work continues itself
pub continues_same : {A : Type 0} {m : ℕ → Run A} → Continues m m
continues_same = record { by = λ r h. h }
