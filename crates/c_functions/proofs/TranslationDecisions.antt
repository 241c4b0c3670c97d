-- && and ||: the right side is evaluated only where the left doesn't decide.
use Rattle.std.proofs.Common.{◌≡◌, ℕ, ◌≤◌, Bool, true, false, cond, not, ◌&&◌, Ok, Err, IfOk, refl, ap, ◌∙◌, arith}
use Rattle.actions.specs.declared.expr.Value.TheVariants as values
use Rattle.actions.specs.declared.sort.ExprSort.TheVariants as kinds
use Rattle.actions.specs.Values.{Valued, HasSort}
use Rattle.c_subset.specs.Trees.{CExpr, Bang, Both, Either, Local}
use Rattle.c_subset.specs.declared.trees.Width.{Width}
use Rattle.c_subset.specs.declared.trees.CType.TheVariants.{Signed, Truth}
use Rattle.c_subset.specs.Meaning.{Meaning, with_meaning, gives, is_true, one_if, truth, Store, Locals, meaning}
use Rattle.c_subset.specs.Running.{with_local}
use Rattle.c_functions.specs.Code.{CCode, Nothing, Then, Set, Divide, FaultIf, If, Ending, Goes, Faults, with_result}
use Rattle.c_functions.specs.Code.{ending}
use Rattle.c_functions.specs.Translation.{Flat, is_nothing, lazy_flat}
use Rattle.c_functions.specs.Claims.{Has, EndsAs}
use Rattle.c_subset.proofs.TypeLemmas.{truth-stays}
use Rattle.c_functions.proofs.TranslationOperators.{bang-has}
use Rattle.c_functions.proofs.CodePieces.{agree-through, agree-less, agree-itself, agree-set, set-there, then-goes}
use Rattle.c_functions.proofs.CodePieces.{then-ends, then-faults}
use Rattle.c_functions.proofs.TranslationQuotients.{set-goes, local-has}

-- ---- both sides in one expression

both-decided : (int : Width) (s : Store) (l : Locals) (a b : CExpr) → Has int s l a (one_if false)
    → Has int s l (Both a b) (one_if false)
unfolding meaning
both-decided int s l a b has = (
  Signed int,
  ap (λ (m : Meaning). with_meaning m
      (λ x. cond (is_true x.value) (with_meaning (meaning int s l b) (λ y. truth int (is_true y.value)))
      (truth int false))) has.1,
)

both-goes_on : (int : Width) (s : Store) (l : Locals) (a b : CExpr) (q : Bool) → Has int s l a (one_if true)
    → Has int s l b (one_if q) → Has int s l (Both a b) (one_if q)
unfolding meaning
both-goes_on int s l a b q ha hb = (
  Signed int,
  ap (λ (m : Meaning). with_meaning m
      (λ x. cond (is_true x.value) (with_meaning (meaning int s l b) (λ y. truth int (is_true y.value)))
      (truth int false))) ha.1
      ∙ ap (λ (m : Meaning). with_meaning m (λ y. truth int (is_true y.value))) hb.1
      ∙ ap (truth int) (truth-stays q),
)

either-decided : (int : Width) (s : Store) (l : Locals) (a b : CExpr) → Has int s l a (one_if true)
    → Has int s l (Either a b) (one_if true)
unfolding meaning
either-decided int s l a b has = (
  Signed int,
  ap (λ (m : Meaning). with_meaning m
      (λ x. cond (is_true x.value) (truth int true)
      (with_meaning (meaning int s l b) (λ y. truth int (is_true y.value))))) has.1,
)

either-goes_on : (int : Width) (s : Store) (l : Locals) (a b : CExpr) (q : Bool) → Has int s l a (one_if false)
    → Has int s l b (one_if q) → Has int s l (Either a b) (one_if q)
unfolding meaning
either-goes_on int s l a b q ha hb = (
  Signed int,
  ap (λ (m : Meaning). with_meaning m
      (λ x. cond (is_true x.value) (truth int true)
      (with_meaning (meaning int s l b) (λ y. truth int (is_true y.value))))) ha.1
      ∙ ap (λ (m : Meaning). with_meaning m (λ y. truth int (is_true y.value))) hb.1
      ∙ ap (truth int) (truth-stays q),
)

-- what is needed of the expression: it gives what decides, or what the right side gives
pub record Decides (int : Width) (s : Store) (decided : Bool) (a b e : CExpr) : Type 0 where
  pub at_once : (l : Locals) → Has int s l a (one_if decided) → Has int s l e (one_if decided)
  pub goes_on : (l : Locals) (q : Bool) → Has int s l a (one_if (not decided)) → Has int s l b (one_if q)
      → Has int s l e (one_if q)

pub both-decides : (int : Width) (s : Store) (a b : CExpr) → Decides int s false a b (Both a b)
both-decides int s a b = record { at_once = λ l. both-decided int s l a b; goes_on = λ l. both-goes_on int s l a b }

pub either-decides : (int : Width) (s : Store) (a b : CExpr) → Decides int s true a b (Either a b)
either-decides int s a b =
    record { at_once = λ l. either-decided int s l a b; goes_on = λ l. either-goes_on int s l a b }

-- both of two tests hold
both-hold : (p q : Bool) → (p && q) ≡ true → (p ≡ true) × (q ≡ true)
both-hold true q is = (refl, is)
both-hold false q is = absurd cc

-- code that is nothing
pub nothing-goes : (int : Width) (s : Store) (l : Locals) (c : CCode) → is_nothing c ≡ true → ending int s l c ≡ Goes l
unfolding ending
nothing-goes int s l Nothing is = refl
nothing-goes int s l (Then a b) is =
    let both = both-hold (is_nothing a) (is_nothing b) is in
    then-goes int s l l l a b (nothing-goes int s l a both.0) (nothing-goes int s l b both.1)
nothing-goes int s l (Set t k e) is = cc
nothing-goes int s l (Divide w k a b) is = cc
nothing-goes int s l (FaultIf x e) is = cc
nothing-goes int s l (If e c) is = cc

-- the left side is what decides, and the right side has no code
pub plain-decided : (int : Width) (s : Store) (l : Locals) (n : ℕ) (a b : Flat) (e : CExpr) (decided : Bool)
    → n ≤ a.next → a.next ≤ b.next → is_nothing b.code ≡ true → Decides int s decided a.expr b.expr e
    → EndsAs int s n a l (Ok (values.Flag decided))
    → EndsAs int s n (record { code = Then a.code b.code; expr = e; next = b.next }) l (Ok (values.Flag decided))
plain-decided int s l n a b e decided na nb nothing d ha = (
  ha.0,
  then-goes int s l ha.0 ha.0 a.code b.code ha.1 (nothing-goes int s ha.0 b.code nothing),
  ha.2,
  λ later agree. d.at_once later (ha.3 later (agree-less a.next b.next ha.0 later nb agree)),
)

-- it isn't
pub plain-goes_on : (int : Width) (s : Store) (l : Locals) (n : ℕ) (a b : Flat) (e : CExpr) (decided : Bool)
    (vb : Valued)
    → n ≤ a.next → a.next ≤ b.next → Decides int s decided a.expr b.expr e → IfOk vb (HasSort kinds.Flag)
    → EndsAs int s n a l (Ok (values.Flag (not decided))) → ((m : Locals) → EndsAs int s a.next b m vb)
    → EndsAs int s n (record { code = Then a.code b.code; expr = e; next = b.next }) l vb
plain-goes_on int s l n a b e decided (Err f) na nb d has ha hb =
    then-ends int s l ha.0 a.code b.code (Faults f) ha.1 (hb ha.0)
plain-goes_on int s l n a b e decided (Ok (values.Number x)) na nb d has ha hb = absurd has
plain-goes_on int s l n a b e decided (Ok (values.Flag q)) na nb d has ha hb =
    let second = hb ha.0 in (
      second.0,
      then-goes int s l ha.0 second.0 a.code b.code ha.1 second.1,
      agree-through n a.next l ha.0 second.0 na ha.2 second.2,
      λ later agree. d.goes_on later q
          (ha.3 later (agree-through a.next b.next ha.0 second.0 later nb second.2 agree)) (second.3 later agree),
    )

-- ---- the left side as a local

-- a flag is brought to bool as it is
truth-set : (int : Width) (s : Store) (l : Locals) (k : ℕ) (e : CExpr) (p : Bool) → Has int s l e (one_if p)
    → ending int s l (Set Truth k e) ≡ Goes (with_local l Truth k (one_if p))
truth-set int s l k e p has =
    set-goes int s l k Truth e (one_if p) (one_if p) has (ap (λ (b : Bool). gives Truth (one_if b)) (truth-stays p))

if-ends : (int : Width) (s : Store) (l : Locals) (e : CExpr) (c : CCode) (p : Bool) → Has int s l e (one_if p)
    → ending int s l (If e c) ≡ cond p (ending int s l c) (Goes l)
unfolding ending
if-ends int s l e c p has =
    ap (λ (m : Meaning). with_result m (λ x. cond (is_true x.value) (ending int s l c) (Goes l))) has.1
    ∙ ap (λ (b : Bool). cond b (ending int s l c) (Goes l)) (truth-stays p)

-- the code of the left side, and the local
start : (int : Width) (s : Store) (l m : Locals) (k : ℕ) (a : Flat) (p : Bool) (c : CCode) (end : Ending)
    → ending int s l a.code ≡ Goes m → Has int s m a.expr (one_if p)
    → ending int s (with_local m Truth k (one_if p)) c ≡ end
    → ending int s l (Then a.code (Then (Set Truth k a.expr) c)) ≡ end
start int s l m k a p c end first has rest =
    then-ends int s l m a.code _ end first
    (then-ends int s m (with_local m Truth k (one_if p)) _ c end (truth-set int s m k a.expr p has) rest)

lazy-decided : (int : Width) (s : Store) (l : Locals) (n : ℕ) (a b : Flat) (goes_on : CExpr → CExpr) (p : Bool)
    → n ≤ a.next → a.next ≤ b.next
    → ((m : Locals) → Has int s m (Local Truth b.next) (one_if p) → Has int s m (goes_on (Local Truth b.next))
    (one_if false))
    → EndsAs int s n a l (Ok (values.Flag p))
    → EndsAs int s n (lazy_flat goes_on a b) l (Ok (values.Flag p))
lazy-decided int s l n a b goes_on p na nb tests ha =
    let k = b.next in
    let after = with_local ha.0 Truth k (one_if p) in
    let local = local-has int s after Truth k (one_if p) (set-there ha.0 Truth k (one_if p)) in (
      after,
      start int s l ha.0 k a p _ (Goes after) ha.1 (ha.3 ha.0 (agree-itself a.next ha.0))
          (if-ends int s after (goes_on (Local Truth k)) (Then b.code (Set Truth k b.expr)) false (tests after local)),
      agree-through n a.next l ha.0 after na ha.2 (agree-set a.next k ha.0 Truth (one_if p) nb),
      λ later agree. local-has int s later Truth k (one_if p)
          (agree Truth k (omega arith) ∙ set-there ha.0 Truth k (one_if p)),
    )

lazy-goes_on : (int : Width) (s : Store) (l : Locals) (n : ℕ) (a b : Flat) (goes_on : CExpr → CExpr) (p : Bool)
    (vb : Valued)
    → n ≤ a.next → a.next ≤ b.next
    → ((m : Locals) → Has int s m (Local Truth b.next) (one_if p) → Has int s m (goes_on (Local Truth b.next))
    (one_if true))
    → IfOk vb (HasSort kinds.Flag) → EndsAs int s n a l (Ok (values.Flag p)) →
    ((m : Locals) → EndsAs int s a.next b m vb)
    → EndsAs int s n (lazy_flat goes_on a b) l vb
lazy-goes_on int s l n a b goes_on p (Ok (values.Number y)) na nb tests has ha hb = absurd has
lazy-goes_on int s l n a b goes_on p (Err f) na nb tests has ha hb =
    let k = b.next in
    let after = with_local ha.0 Truth k (one_if p) in
    let local = local-has int s after Truth k (one_if p) (set-there ha.0 Truth k (one_if p)) in
    start int s l ha.0 k a p _ (Faults f) ha.1 (ha.3 ha.0 (agree-itself a.next ha.0))
    (if-ends int s after (goes_on (Local Truth k)) (Then b.code (Set Truth k b.expr)) true (tests after local)
    ∙ then-faults int s after b.code _ f (hb after))
lazy-goes_on int s l n a b goes_on p (Ok (values.Flag q)) na nb tests has ha hb =
    let k = b.next in
    let before = with_local ha.0 Truth k (one_if p) in
    let local = local-has int s before Truth k (one_if p) (set-there ha.0 Truth k (one_if p)) in
    let second = hb before in
    let after = with_local second.0 Truth k (one_if q) in (
      after,
      start int s l ha.0 k a p _ (Goes after) ha.1 (ha.3 ha.0 (agree-itself a.next ha.0))
          (if-ends int s before (goes_on (Local Truth k)) (Then b.code (Set Truth k b.expr)) true (tests before local)
          ∙ then-goes int s before second.0 after b.code _ second.1
          (truth-set int s second.0 k b.expr q (second.3 second.0 (agree-itself b.next second.0)))),
      agree-through n a.next l ha.0 after na ha.2
          (agree-through a.next a.next ha.0 before after (omega arith) (agree-set a.next k ha.0 Truth (one_if p) nb)
          (agree-through a.next a.next before second.0 after (omega arith) second.2
          (agree-set a.next k second.0 Truth (one_if q) nb))),
      λ later agree. local-has int s later Truth k (one_if q)
          (agree Truth k (omega arith) ∙ set-there second.0 Truth k (one_if q)),
    )

-- ---- operators on flags

pub and-ends : (int : Width) (s : Store) (l : Locals) (n : ℕ) (a b : Flat) (p : Bool) (vb : Valued) (nothing : Bool)
    → n ≤ a.next → a.next ≤ b.next → is_nothing b.code ≡ nothing → IfOk vb (HasSort kinds.Flag)
    → EndsAs int s n a l (Ok (values.Flag p)) → ((m : Locals) → EndsAs int s a.next b m vb)
    → EndsAs int s n (cond nothing (record { code = Then a.code b.code; expr = Both a.expr b.expr; next = b.next })
    (lazy_flat (λ e. e) a b)) l
    (cond p vb (Ok (values.Flag p)))
and-ends int s l n a b true vb true na nb is has ha hb =
    plain-goes_on int s l n a b _ false vb na nb (both-decides int s a.expr b.expr) has ha hb
and-ends int s l n a b false vb true na nb is has ha hb =
    plain-decided int s l n a b _ false na nb is (both-decides int s a.expr b.expr) ha
and-ends int s l n a b true vb false na nb is has ha hb =
    lazy-goes_on int s l n a b (λ e. e) true vb na nb (λ m h. h) has ha hb
and-ends int s l n a b false vb false na nb is has ha hb =
    lazy-decided int s l n a b (λ e. e) false na nb (λ m h. h) ha

pub or-ends : (int : Width) (s : Store) (l : Locals) (n : ℕ) (a b : Flat) (p : Bool) (vb : Valued) (nothing : Bool)
    → n ≤ a.next → a.next ≤ b.next → is_nothing b.code ≡ nothing → IfOk vb (HasSort kinds.Flag)
    → EndsAs int s n a l (Ok (values.Flag p)) → ((m : Locals) → EndsAs int s a.next b m vb)
    → EndsAs int s n (cond nothing (record { code = Then a.code b.code; expr = Either a.expr b.expr; next = b.next })
    (lazy_flat Bang a b)) l
    (cond p (Ok (values.Flag p)) vb)
or-ends int s l n a b false vb true na nb is has ha hb =
    plain-goes_on int s l n a b _ true vb na nb (either-decides int s a.expr b.expr) has ha hb
or-ends int s l n a b true vb true na nb is has ha hb =
    plain-decided int s l n a b _ true na nb is (either-decides int s a.expr b.expr) ha
or-ends int s l n a b false vb false na nb is has ha hb =
    lazy-goes_on int s l n a b Bang false vb na nb (λ m h. bang-has int s m (Local Truth b.next) false h) has ha hb
or-ends int s l n a b true vb false na nb is has ha hb =
    lazy-decided int s l n a b Bang true na nb (λ m h. bang-has int s m (Local Truth b.next) true h) ha
