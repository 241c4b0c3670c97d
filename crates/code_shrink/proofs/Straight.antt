-- What is known of a procedure with constant tests decided and jumps past skips.
use Rattle.std.proofs.Common.{◌≡◌, ◌≢◌, ℕ, zero, suc, ◌+◌, Bool, true, false, List, [], ◌∷◌, map, Option, Some, None}
use Rattle.std.proofs.Common.{refl, sym, ap, ◌∙◌, subst, arith}
use Rattle.std.specs.Prelude.{slice_get, slice_index}
use Rattle.actions.specs.Exprs.{Expr}
use Rattle.code_language.specs.Instrs.{Cond, On, Bare, OnHome, BareHome, Current, Result, Test, Last}
use Rattle.code_language.specs.Instrs.{Instr, Assign, Emit, Mark, Clear, Keep, Unless, Skip, Call, Visit, Send}
use Rattle.code_language.specs.Instrs.{SendTo, Play, Home, Begin, Pass, Ret}
use Rattle.code_shrink.specs.Neat.{constant_truth, IsNoSkip}
use Rattle.code_shrink.specs.Smaller.{decided, folded_test, folded, slide_from, slides, threaded, threads, straight}
use Rattle.code_shrink.proofs.Squeezed.{plain}
use Rattle.code_shrink.proofs.Shapes.{Shape, GoesOn, Returns, Tests, Skips, shape, other}

-- where skips lead there is no skip; the first place, if that is so of the rest
landed_first : (y : Instr) (js : List Instr) → Shape y
    → ((k : ℕ) → IsNoSkip (threads js) (k + slice_index (slides js) k))
    → IsNoSkip (threaded y (slides js) ∷ threads js) (zero + slide_from y (slides js))
landed_first y js (GoesOn _ g) later k h =
    let known = plain (λ n. n) y g in
    let e : zero + slide_from y (slides js) ≡ zero = omega (arith, known.stays (slides js)) in
    let h' = subst (λ i. slice_get (threaded y (slides js) ∷ threads js) i ≡ Some (Skip k)) e h in
    let same : threaded y (slides js) ≡ Skip k = cc h' in
    (other (λ n. n) y g).never_skip k (sym (known.threads (slides js)) ∙ same)
landed_first y js (Returns r) later k h =
    let e : zero + 0 ≡ zero = omega arith in
    let h' = subst (λ i. slice_get (Ret r ∷ threads js) i ≡ Some (Skip k)) e h in cc h'
landed_first y js (Tests n c) later k h =
    let e : zero + 0 ≡ zero = omega arith in
    let h' = subst (λ i. slice_get (Unless (n + slice_index (slides js) n) c ∷ threads js) i ≡ Some
    (Skip k)) e h in cc h'
landed_first y js (Skips n) later k h =
    let s = slice_index (slides js) n in
    let e : zero + suc (n + s) ≡ suc (n + s) = omega arith in
    later n k (subst (λ i. slice_get (Skip (n + s) ∷ threads js) i ≡ Some (Skip k)) e h)

-- where skips lead there is no skip
pub landed : (js : List Instr) (k : ℕ) → IsNoSkip (threads js) (k + slice_index (slides js) k)
landed [] k n h = cc h
landed (y ∷ js) zero n h = landed_first y js (shape y) (landed js) n h
landed (y ∷ js) (suc k) n h =
    let s = slice_index (slides js) k in
    let e : suc k + s ≡ suc (k + s) = omega arith in
    landed js k n (subst (λ i. slice_get (threaded y (slides js) ∷ threads js) i ≡ Some (Skip n)) e h)

-- a jump of the first instruction, by its shape
jump_first : (y : Instr) (js : List Instr) (k : ℕ) (n : ℕ) → Shape y
    → ((c : Cond) → threaded y (slides js) ≡ Unless k c → slice_get (threads js) k ≢ Some (Skip n))
    × (threaded y (slides js) ≡ Skip k → slice_get (threads js) k ≢ Some (Skip n))
jump_first y js k n (GoesOn _ g) =
    let known = plain (λ n. n) y g in (
      λ c e. absurd ((other (λ n. n) y g).never_test k c (sym (known.threads (slides js)) ∙ e)),
      λ e. absurd ((other (λ n. n) y g).never_skip k (sym (known.threads (slides js)) ∙ e)),
    )
jump_first y js k n (Returns r) = (λ c e. absurd (cc e), λ e. absurd (cc e))
jump_first y js k n (Tests j d) = (
  λ c e h. let same : j + slice_index (slides js) j ≡ k = cc e in
      landed js j n (ap (λ i. slice_get (threads js) i) same ∙ h),
  λ e. absurd (cc e),
)
jump_first y js k n (Skips j) = (
  λ c e. absurd (cc e),
  λ e h. let same : j + slice_index (slides js) j ≡ k = cc e in
      landed js j n (ap (λ i. slice_get (threads js) i) same ∙ h),
)

-- no jump of threaded instructions leads to a skip: a test
pub test_far : (js : List Instr) (i k : ℕ) (c : Cond) → slice_get (threads js) i ≡ Some (Unless k c)
    → IsNoSkip (threads js) (i + 1 + k)
test_far [] i k c e n h = cc e
test_far (y ∷ js) zero k c e n h =
    let same : threaded y (slides js) ≡ Unless k c = cc e in
    let i : zero + 1 + k ≡ suc k = omega arith in
    (jump_first y js k n (shape y)).0 c same
    (subst (λ i. slice_get (threaded y (slides js) ∷ threads js) i ≡ Some (Skip n)) i h)
test_far (y ∷ js) (suc i) k c e n h =
    let j : suc i + 1 + k ≡ suc (i + 1 + k) = omega arith in
    test_far js i k c e n (subst (λ i. slice_get (threaded y (slides js) ∷ threads js) i ≡ Some (Skip n)) j h)

-- and a skip
pub skip_far : (js : List Instr) (i k : ℕ) → slice_get (threads js) i ≡ Some (Skip k)
    → IsNoSkip (threads js) (i + 1 + k)
skip_far [] i k e n h = cc e
skip_far (y ∷ js) zero k e n h =
    let same : threaded y (slides js) ≡ Skip k = cc e in
    let i : zero + 1 + k ≡ suc k = omega arith in
    (jump_first y js k n (shape y)).1 same
    (subst (λ i. slice_get (threaded y (slides js) ∷ threads js) i ≡ Some (Skip n)) i h)
skip_far (y ∷ js) (suc i) k e n h =
    let j : suc i + 1 + k ≡ suc (i + 1 + k) = omega arith in
    skip_far js i k e n (subst (λ i. slice_get (threaded y (slides js) ∷ threads js) i ≡ Some (Skip n)) j h)

-- ---- constant tests

-- a test that is left isn't constant
decided_open : (k : ℕ) (e : Expr) (o : Option Bool) (ls : List ℕ) (n : ℕ) (d : Expr) → constant_truth e ≡ o
    → threaded (decided k e o) ls ≡ Unless n (Test d) → constant_truth d ≡ None
decided_open k e None ls n d h s = let same : e ≡ d = cc s in ap constant_truth (sym same) ∙ h
decided_open k e (Some true) ls n d h s = absurd (cc s)
decided_open k e (Some false) ls n d h s = absurd (cc s)

-- the same of each condition
cond_open : (k : ℕ) (c : Cond) (ls : List ℕ) (n : ℕ) (d : Expr) → threaded (folded_test k c) ls ≡ Unless n (Test d)
    → constant_truth d ≡ None
cond_open k (On s) ls n d e = absurd (cc e)
cond_open k (Bare s) ls n d e = absurd (cc e)
cond_open k OnHome ls n d e = absurd (cc e)
cond_open k BareHome ls n d e = absurd (cc e)
cond_open k (Current s) ls n d e = absurd (cc e)
cond_open k (Result s) ls n d e = absurd (cc e)
cond_open k (Test x) ls n d e = decided_open k x (constant_truth x) ls n d refl e
cond_open k (Last s) ls n d e = absurd (cc e)

-- the same of each instruction
instr_open : (x : Instr) (ls : List ℕ) (n : ℕ) (d : Expr) → threaded (folded x) ls ≡ Unless n (Test d)
    → constant_truth d ≡ None
instr_open (Assign v x) ls n d h = absurd (cc h)
instr_open (Emit e) ls n d h = absurd (cc h)
instr_open (Mark s) ls n d h = absurd (cc h)
instr_open (Clear s) ls n d h = absurd (cc h)
instr_open (Keep s) ls n d h = absurd (cc h)
instr_open (Call p tag) ls n d h = absurd (cc h)
instr_open (Visit p tag) ls n d h = absurd (cc h)
instr_open (Send e) ls n d h = absurd (cc h)
instr_open (SendTo e s p) ls n d h = absurd (cc h)
instr_open Play ls n d h = absurd (cc h)
instr_open (Home s) ls n d h = absurd (cc h)
instr_open Begin ls n d h = absurd (cc h)
instr_open Pass ls n d h = absurd (cc h)
instr_open (Skip k) ls n d h = absurd (cc h)
instr_open (Ret r) ls n d h = absurd (cc h)
instr_open (Unless k c) ls n d h = cond_open k c ls n d h

-- no test of the straight procedure is constant
pub straight_open : (is : List Instr) (i k : ℕ) (d : Expr) → slice_get (straight is) i ≡ Some (Unless k (Test d))
    → constant_truth d ≡ None
straight_open [] i k d e = absurd (cc e)
straight_open (x ∷ is) zero k d e =
    let same : threaded (folded x) (slides (map folded is)) ≡ Unless k (Test d) = cc e in
    instr_open x (slides (map folded is)) k d same
straight_open (x ∷ is) (suc i) k d e = straight_open is i k d e
