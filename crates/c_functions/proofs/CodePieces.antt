-- Code that runs before an expression, one piece after another.
use Rattle.std.proofs.Common.{◌≡◌, ℕ, ◌≤◌, nat_eq, ℤ, Bool, true, false, cond, ◌&&◌, Some, Ok, Err, refl, sym, ap, ◌∙◌}
use Rattle.std.proofs.Common.{subst, arith}
use Rattle.flow_base.specs.declared.fault.Fault.{Fault}
use Rattle.actions.specs.declared.expr.Value.{Value}
use Rattle.actions.specs.Values.{Valued, with_value}
use Rattle.c_subset.specs.Trees.{CExpr}
use Rattle.c_subset.specs.declared.trees.Width.{Width}
use Rattle.c_subset.specs.declared.trees.CType.{CType}
use Rattle.c_subset.specs.Meaning.{Store, Locals}
use Rattle.c_subset.specs.Running.{same_type, with_local}
use Rattle.c_subset.proofs.TypeLemmas.{same_type-itself}
use Rattle.c_functions.specs.Code.{CCode, Then, Ending, Goes, Faults, with_locals, ending}
use Rattle.c_functions.specs.Translation.{Flat}
use Rattle.c_functions.specs.Claims.{Has, shown, AgreeBelow, EndsAs}

-- locals that agree with locals that agree
pub agree-through : (k j : ℕ) (l m o : Locals) → k ≤ j → AgreeBelow k l m → AgreeBelow j m o → AgreeBelow k l o
agree-through k j l m o within first second = λ t i lt. second t i (omega arith) ∙ first t i lt

pub agree-less : (k j : ℕ) (l m : Locals) → k ≤ j → AgreeBelow j l m → AgreeBelow k l m
agree-less k j l m within agree = λ t i lt. agree t i (omega arith)

pub agree-itself : (k : ℕ) (l : Locals) → AgreeBelow k l l
agree-itself k l = λ t i lt. refl

-- a local at or above k that is set
pub agree-set : (k j : ℕ) (l : Locals) (t : CType) (z : ℤ) → k ≤ j → AgreeBelow k l (with_local l t j z)
agree-set k j l t z above = λ u i lt. let other : nat_eq i j ≡ false = grind arith in
    ap (λ (b : Bool). cond (b && same_type u t) (Some z) (l u i)) other

-- what was set is there
pub set-there : (l : Locals) (t : CType) (k : ℕ) (z : ℤ) → with_local l t k z t k ≡ Some z
set-there l t k z =
    let same : nat_eq k k ≡ true = grind arith in
    ap (λ (b : Bool). cond (b && same_type t t) (Some z) (l t k)) same
    ∙ ap (λ (b : Bool). cond b (Some z) (l t k)) (same_type-itself t)

-- the code of the left side, then that of the right, gives locals with which both expressions have their values
pub then-goes : (int : Width) (s : Store) (l m o : Locals) (a b : CCode) → ending int s l a ≡ Goes m
    → ending int s m b ≡ Goes o → ending int s l (Then a b) ≡ Goes o
unfolding ending
then-goes int s l m o a b first second =
    ap (λ (e : Ending). with_locals e (λ m. ending int s m b)) first ∙ second

pub then-ends : (int : Width) (s : Store) (l m : Locals) (a b : CCode) (e : Ending) → ending int s l a ≡ Goes m
    → ending int s m b ≡ e → ending int s l (Then a b) ≡ e
unfolding ending
then-ends int s l m a b e first second =
    ap (λ (e : Ending). with_locals e (λ m. ending int s m b)) first ∙ second

pub then-faults : (int : Width) (s : Store) (l : Locals) (a b : CCode) (x : Fault) → ending int s l a ≡ Faults x
    → ending int s l (Then a b) ≡ Faults x
unfolding ending
then-faults int s l a b x first = ap (λ (e : Ending). with_locals e (λ m. ending int s m b)) first

-- both operands are evaluated
pub eager-ends : (int : Width) (s : Store) (l : Locals) (n : ℕ) (a b : Flat) (e : CExpr) (va vb : Valued)
    (apply : Value → Value → Valued) → n ≤ a.next → a.next ≤ b.next → EndsAs int s n a l va
    → ((m : Locals) → EndsAs int s a.next b m vb)
    → ((x y : Value) → va ≡ Ok x → vb ≡ Ok y → (z : Value) × (apply x y ≡ Ok z) × ((later : Locals)
    → Has int s later a.expr (shown x) → Has int s later b.expr (shown y) → Has int s later e (shown z)))
    → EndsAs int s n (record { code = Then a.code b.code; expr = e; next = b.next }) l
    (with_value va (λ x. with_value vb (apply x)))
eager-ends int s l n a b e (Err f) vb apply na nb ha hb computes = then-faults int s l a.code b.code f ha
eager-ends int s l n a b e (Ok x) (Err f) apply na nb ha hb computes =
    then-ends int s l ha.0 a.code b.code (Faults f) ha.1 (hb ha.0)
eager-ends int s l n a b e (Ok x) (Ok y) apply na nb ha hb computes =
    let second = hb ha.0 in
    let c = computes x y refl refl in
    subst (λ (v : Valued). EndsAs int s n (record { code = Then a.code b.code; expr = e; next = b.next }) l v)
    (sym c.1) (
      second.0,
      then-goes int s l ha.0 second.0 a.code b.code ha.1 second.1,
      agree-through n a.next l ha.0 second.0 na ha.2 second.2,
      λ later agree. c.2 later
          (ha.3 later (agree-through a.next b.next ha.0 second.0 later nb second.2 agree))
          (second.3 later agree),
    )
