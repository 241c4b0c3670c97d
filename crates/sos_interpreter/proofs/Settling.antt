-- How an outcome follows from the outcomes of the parts.
use Rattle.flow_base.specs.declared.fault.Fault.{Fault}
use Rattle.std.proofs.Common.{◌≡◌, ℕ, zero, suc, ◌≤◌, max, Option, Some, None, Bool, true, false, refl, ap, ◌∙◌, subst}
use Rattle.std.proofs.Common.{arith}
use Rattle.actions.specs.World.{World}
use Rattle.actions.specs.Work.{Run, Ended, Faulted, Work, then_do, choose, if_some}
use Rattle.sos_interpreter.specs.Settled.{Settled, settled}

-- an outcome that needs no height
pub settled_now : {A : Type 0} (r : Run A) → Settled (λ n. r) r
settled_now r = settled 0 (λ n le. refl)

-- an outcome that is known by an equation
pub settled_is : {A : Type 0} {q r : Run A} → q ≡ r → Settled (λ n. q) r
settled_is e = settled 0 (λ n le. e)

-- what holds of every later successor holds of every later number
stays_next : {A : Type 0} (m : ℕ → Run A) (r : Run A) (from : ℕ) → ((n : ℕ) → from ≤ n → m (suc n) ≡ r) → (n : ℕ)
    → suc from ≤ n → m n ≡ r
stays_next m r from h zero le = absurd (omega arith)
stays_next m r from h (suc n) le = h n (omega arith)

-- the outcome at the heights from 1 on is the outcome
pub settled_next : {A : Type 0} (m : ℕ → Run A) (r : Run A) → Settled (λ n. m (suc n)) r → Settled m r
settled_next m r (settled from h) = settled (suc from) (stays_next m r from h)

-- two pieces of work, one after the other, where the first ends
pub settled_then : {A B : Type 0} (m : ℕ → Run A) (f : ℕ → A → Work B) (a : A) (w : World) (r : Run B)
    → Settled m (Ended a w) → Settled (λ n. f n a w) r → Settled (λ n. then_do (m n) (f n)) r
settled_then m f a w r (settled i h) (settled j k) =
    settled (max i j) (λ n le. ap (λ q. then_do q (f n)) (h n (omega arith)) ∙ k n (omega arith))

-- a fault of the first piece of work is the outcome of both
pub settled_fault : {A B : Type 0} (m : ℕ → Run A) (f : ℕ → A → Work B) (x : Fault) (w : World)
    → Settled m (Faulted x w) → Settled (λ n. then_do (m n) (f n)) (Faulted x w)
settled_fault m f x w (settled i h) = settled i (λ n le. ap (λ q. then_do q (f n)) (h n le))

-- a choice whose test holds
pub settled_true : {A : Type 0} (b : Bool) (m k : ℕ → Work A) (w : World) (r : Run A) → b ≡ true
    → Settled (λ n. m n w) r → Settled (λ n. choose b (m n) (k n) w) r
settled_true true m k w r e s = s
settled_true false m k w r e s = absurd cc

-- a choice whose test fails
pub settled_false : {A : Type 0} (b : Bool) (m k : ℕ → Work A) (w : World) (r : Run A) → b ≡ false
    → Settled (λ n. k n w) r → Settled (λ n. choose b (m n) (k n) w) r
settled_false true m k w r e s = absurd cc
settled_false false m k w r e s = s

-- a choice where there is a state
pub settled_some : {A : Type 0} (o : Option ℕ) (x : ℕ) (m : ℕ → Work A) (f : ℕ → ℕ → Work A) (w : World) (r : Run A)
    → o ≡ Some x → Settled (λ n. f n x w) r → Settled (λ n. if_some o (m n) (f n) w) r
settled_some None x m f w r e s = absurd cc
settled_some (Some y) x m f w r e s = let k : x ≡ y = cc in subst (λ z. Settled (λ n. f n z w) r) k s

-- a choice where there is no state
pub settled_none : {A : Type 0} (o : Option ℕ) (m : ℕ → Work A) (f : ℕ → ℕ → Work A) (w : World) (r : Run A) → o ≡ None
    → Settled (λ n. m n w) r → Settled (λ n. if_some o (m n) (f n) w) r
settled_none None m f w r e s = s
settled_none (Some y) m f w r e s = absurd cc

-- work goes on from the outcome of the first piece
pub settled_on : {A B : Type 0} (m : ℕ → Run A) (f : ℕ → A → Work B) (q : Run A) (r : Run B) → Settled m q
    → Settled (λ n. then_do q (f n)) r → Settled (λ n. then_do (m n) (f n)) r
settled_on m f q r (settled i h) (settled j k) =
    settled (max i j) (λ n le. ap (λ q. then_do q (f n)) (h n (omega arith)) ∙ k n (omega arith))

-- the lemmas by which an outcome is put together
pub ruleset settling = (
  settled_now,
  settled_is,
  settled_then,
  settled_fault,
  settled_true,
  settled_false,
  settled_some,
  settled_none,
)
