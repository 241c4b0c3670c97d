-- The code that an expression needs before it: what it does, and the statements that are written for it.
use Rattle.std.specs.Prelude.{◌≡◌, ℕ, ◌∷◌, [], ℤ, if◌then◌else◌}
use Rattle.flow_base.specs.declared.fault.Fault.{Fault}
use Rattle.fixed_point.specs.Numbers.{floor_div}
use Rattle.c_subset.specs.Trees.{CExpr, Block, End}
use Rattle.c_subset.specs.declared.trees.Width.{Width}
use Rattle.c_subset.specs.declared.trees.CType.{CType}
use Rattle.c_subset.specs.declared.trees.CType.TheVariants.{Signed}
use Rattle.c_subset.specs.Trees as c
use Rattle.c_subset.specs.Meaning.{CValue, Meaning, Gives, Wrong, with_meaning, gives, as_signed, converted, is_true}
use Rattle.c_subset.specs.Meaning.{Store, Locals, meaning}
use Rattle.c_subset.specs.Running.{with_local, Calls, Returns, outcome}

-- code
pub data CCode : Type 0 where
  Nothing : CCode
  Then : CCode → CCode → CCode
  -- x = e;
  Set : CType → ℕ → CExpr → CCode
  -- x = flow_divW(a, b);
  Divide : Width → ℕ → CExpr → CExpr → CCode
  -- if (e) { fault }
  FaultIf : Fault → CExpr → CCode
  -- if (e) { .. }
  If : CExpr → CCode → CCode

-- ---- what it does

-- how code ends: with these locals, in a fault, or without a meaning
pub data Ending : Type 0 where
  Goes : Locals → Ending
  Faults : Fault → Ending
  Lost : Ending

-- what f gives for the locals
abbrev pub with_locals : Ending → (Locals → Ending) → Ending
with_locals (Goes l) f = f l
with_locals (Faults x) f = Faults x
with_locals Lost f = Lost

-- what f gives for the value
abbrev pub with_result : Meaning → (CValue → Ending) → Ending
with_result (Gives x) f = f x
with_result Wrong f = Lost

-- what flow_divW gives: the floor of the quotient, where the arguments and the floor are values of the type
abbrev pub floored_by : Width → ℤ → ℤ → Meaning
floored_by w x y = with_meaning (as_signed w x) (λ a. with_meaning (as_signed w y) (λ b.
    if is_true b.value then as_signed w (floor_div a.value b.value) else Wrong))

-- the ending of code
unfoldable pub ending : Width → Store → Locals → CCode → Ending
ending int s l Nothing = Goes l
ending int s l (Then a b) = with_locals (ending int s l a) (λ m. ending int s m b)
ending int s l (Set t k e) = with_result (with_meaning (meaning int s l e) (λ x. converted t x.value))
    (λ x. Goes (with_local l t k x.value))
ending int s l (Divide w k a b) = with_result (meaning int s l a) (λ x. with_result (meaning int s l b) (λ y.
    with_result (floored_by w x.value y.value) (λ z. Goes (with_local l (Signed w) k z.value))))
ending int s l (FaultIf x e) = with_result (meaning int s l e) (λ y. if is_true y.value then Faults x else Goes l)
ending int s l (If e code) =
    with_result (meaning int s l e) (λ x. if is_true x.value then ending int s l code else Goes l)

-- ---- the statements

-- The statements of code, and then others. `helper` tells the number of flow_divW, and `faulted` what is written for a
-- fault.
unfoldable pub written : (Width → ℕ) → (Fault → Block) → CCode → Block → Block
written helper faulted Nothing rest = rest
written helper faulted (Then a b) rest = written helper faulted a (written helper faulted b rest)
written helper faulted (Set t k e) rest = c.Set t k e rest
written helper faulted (Divide w k a b) rest = c.Call (Signed w) k (helper w) (a ∷ b ∷ []) rest
written helper faulted (FaultIf x e) rest = c.If e (faulted x) End rest
written helper faulted (If e code) rest = c.If e (written helper faulted code End) End rest

-- a call of flow_divW gives what it is said to give, and the struct stays
abbrev pub Divides : Calls → (Width → ℕ) → Store → Type 0
Divides call helper s = (w : Width) (x y : CValue) (z : ℤ) → floored_by w x.value y.value ≡ gives (Signed w) z
    → call (helper w) (x ∷ y ∷ []) s ≡ Returns s (record { type = Signed w; value = z })

-- what is written for a fault returns, with the struct and the value that are told
abbrev pub Returning : Width → Calls → ℕ → (Fault → Block) → (Fault → Store → Store) → CValue → Store → Type 0
Returning int call k faulted after bad s = (x : Fault) (l : Locals)
    → outcome int call k (faulted x) s l ≡ Returns (after x s) bad
