-- Neat code comes back as it is.
use Rattle.std.proofs.Common.{◌≡◌, ◌≢◌, ◌<◌, ℕ, zero, suc, ◌+◌, Bool, true, false, List, [], ◌∷◌, length, map}
use Rattle.std.proofs.Common.{Option, Some, None}
use Rattle.std.proofs.Common.{refl, ap, ◌∙◌, arith}
use Rattle.std.specs.Prelude.{slice_get, slice_index, ◌==◌, ◌&&◌, not}
use Rattle.std.proofs.lemmas.Bool.Decides.{nat_tests}
use Rattle.actions.specs.Exprs.{Expr}
use Rattle.code_language.specs.Instrs.{Cond, On, Bare, OnHome, BareHome, Current, Result, Test, Last}
use Rattle.code_language.specs.Instrs.{Instr, Assign, Emit, Mark, Clear, Keep, Unless, Skip, Call, Visit, Send}
use Rattle.code_language.specs.Instrs.{SendTo, Play, Home, Begin, Pass, Ret}
use Rattle.code_shrink.specs.Follows.{renamed}
use Rattle.code_shrink.specs.Neat.{constant_truth, IsNoSkip, IsNeatProcedure}
use Rattle.code_shrink.specs.Smaller.{decided, folded_test, folded, slide_from, slides, threaded, threads, straight}
use Rattle.code_shrink.specs.Smaller.{one_if, count}
use Rattle.code_shrink.specs.Smaller.{is_idle, keeps, recounted, put_if, squeezed, smaller}
use Rattle.code_shrink.proofs.Squeezed.{plain}
use Rattle.code_shrink.proofs.Shapes.{Shape, GoesOn, Returns, Tests, Skips, shape}

-- the parts of neatness that say nothing of what is reached
pub record IsTidy (is : List Instr) : Type 0 where
  pub undecided : (i k : ℕ) (e : Expr) → slice_get is i ≡ Some (Unless k (Test e)) → constant_truth e ≡ None
  pub far : (i : ℕ) → slice_get is i ≢ Some (Skip 0)
  pub tests : (i k : ℕ) (c : Cond) → slice_get is i ≡ Some (Unless k c) → IsNoSkip is (i + 1 + k)
  pub skips : (i k : ℕ) → slice_get is i ≡ Some (Skip k) → IsNoSkip is (i + 1 + k)

-- a neat procedure has them
pub tidy_of : (is : List Instr) → IsNeatProcedure is → IsTidy is
tidy_of is h = record { undecided = h.undecided; far = h.far; tests = h.tests; skips = h.skips }

-- one place later
later_place : (x : Instr) (is : List Instr) (i k n : ℕ) → slice_get is (i + 1 + k) ≡ Some (Skip n)
    → slice_get (x ∷ is) (suc i + 1 + k) ≡ Some (Skip n)
later_place x is i k n e =
    let j : suc i + 1 + k ≡ suc (i + 1 + k) = omega arith in ap (λ l. slice_get (x ∷ is) l) j ∙ e

-- the rest has them
rest_tidy : (x : Instr) (is : List Instr) → IsTidy (x ∷ is) → IsTidy is
rest_tidy x is h = record {
  undecided = λ i k e q. h.undecided (suc i) k e q;
  far = λ i q. h.far (suc i) q;
  tests = λ i k c q n z. h.tests (suc i) k c q n (later_place x is i k n z);
  skips = λ i k q n z. h.skips (suc i) k q n (later_place x is i k n z);
}

-- a test that isn't constant stays
test_stays : (k : ℕ) (e : Expr) (o : Option Bool) → o ≡ None → decided k e o ≡ Unless k (Test e)
test_stays k e None h = refl
test_stays k e (Some b) h = absurd (cc h)

-- a condition stays
cond_stays : (k : ℕ) (c : Cond) → ((e : Expr) → c ≡ Test e → constant_truth e ≡ None) → folded_test k c ≡ Unless k c
cond_stays k (On s) h = refl
cond_stays k (Bare s) h = refl
cond_stays k OnHome h = refl
cond_stays k BareHome h = refl
cond_stays k (Current e) h = refl
cond_stays k (Result r) h = refl
cond_stays k (Test e) h = test_stays k e (constant_truth e) (h e refl)
cond_stays k (Last s) h = refl

-- an instruction without a constant test stays
fold_stays : (x : Instr) → ((k : ℕ) (e : Expr) → x ≡ Unless k (Test e) → constant_truth e ≡ None) → folded x ≡ x
fold_stays (Assign v x) h = refl
fold_stays (Emit e) h = refl
fold_stays (Mark s) h = refl
fold_stays (Clear s) h = refl
fold_stays (Keep s) h = refl
fold_stays (Call p tag) h = refl
fold_stays (Visit p tag) h = refl
fold_stays (Send e) h = refl
fold_stays (SendTo e s p) h = refl
fold_stays Play h = refl
fold_stays (Home s) h = refl
fold_stays Begin h = refl
fold_stays Pass h = refl
fold_stays (Skip k) h = refl
fold_stays (Ret r) h = refl
fold_stays (Unless k c) h = cond_stays k c (λ e q. h k e (ap (Unless k) q))

-- where no constant test stands all instructions stay
folds_stay : (is : List Instr) → IsTidy is → map folded is ≡ is
folds_stay [] h = refl
folds_stay (x ∷ is) h =
    ap (λ y. y ∷ map folded is) (fold_stays x (λ k e q. h.undecided 0 k e (ap Some q)))
    ∙ ap (λ l. x ∷ l) (folds_stay is (rest_tidy x is h))

-- at the first place there is no skip, so nothing slides
slide_zero : (x : Instr) (ls : List ℕ) → Shape x → ((n : ℕ) → x ≢ Skip n) → slide_from x ls ≡ 0
slide_zero x ls (GoesOn _ g) h = (plain (λ n. n) x g).stays ls
slide_zero x ls (Returns r) h = refl
slide_zero x ls (Tests k c) h = refl
slide_zero x ls (Skips k) h = absurd (h k refl)

-- where no skip stands nothing slides
no_slide : (is : List Instr) (k : ℕ) → IsNoSkip is k → slice_index (slides is) k ≡ 0
no_slide [] k h = refl
no_slide (x ∷ is) zero h = slide_zero x (slides is) (shape x) (λ n q. h n (ap Some q))
no_slide (x ∷ is) (suc k) h = no_slide is k h

-- a jump to no skip stays
thread_stays : (x : Instr) (ls : List ℕ) → Shape x → ((k : ℕ) (c : Cond) → x ≡ Unless k c → slice_index ls k ≡ 0)
    → ((k : ℕ) → x ≡ Skip k → slice_index ls k ≡ 0) → threaded x ls ≡ x
thread_stays x ls (GoesOn _ g) t s = (plain (λ n. n) x g).threads ls
thread_stays x ls (Returns r) t s = refl
thread_stays x ls (Tests k c) t s =
    let e : k + slice_index ls k ≡ k = omega (arith, t k c refl) in ap (λ n. Unless n c) e
thread_stays x ls (Skips k) t s =
    let e : k + slice_index ls k ≡ k = omega (arith, s k refl) in ap (λ n. Skip n) e

-- the place a jump of the first instruction leads to
first_target : (x : Instr) (is : List Instr) (k : ℕ) → IsNoSkip (x ∷ is) (0 + 1 + k) → IsNoSkip is k
first_target x is k h n e =
    let j : 0 + 1 + k ≡ suc k = omega arith in h n (ap (λ l. slice_get (x ∷ is) l) j ∙ e)

-- jumps that lead to no skip stay
threads_stay : (is : List Instr) → IsTidy is → threads is ≡ is
threads_stay [] h = refl
threads_stay (x ∷ is) h =
    ap (λ y. y ∷ threads is) (thread_stays x (slides is) (shape x)
    (λ k c q. no_slide is k (first_target x is k (h.tests 0 k c (ap Some q))))
    (λ k q. no_slide is k (first_target x is k (h.skips 0 k (ap Some q)))))
    ∙ ap (λ l. x ∷ l) (threads_stay is (rest_tidy x is h))

-- a tidy procedure is straight
pub straight_stays : (is : List Instr) → IsTidy is → straight is ≡ is
straight_stays is h = ap threads (folds_stay is h) ∙ threads_stay is h

-- ---- nothing is dropped

-- every flag is set
abbrev pub AllSet : List Bool → List Instr → Type 0
AllSet [] [] = Unit {0}
AllSet [] (x ∷ is) = ⊥
AllSet (b ∷ bs) [] = ⊥
AllSet (b ∷ bs) (x ∷ is) = (b ≡ true) × AllSet bs is

-- all of so many are counted
all_counted : (bs : List Bool) (is : List Instr) → AllSet bs is → (k : ℕ) → k < length is → count k bs ≡ k
all_counted [] [] s k h = absurd (omega arith)
all_counted [] (x ∷ is) s k h = absurd s
all_counted (b ∷ bs) [] s k h = absurd s
all_counted (b ∷ bs) (x ∷ is) s zero h = refl
all_counted (b ∷ bs) (x ∷ is) s (suc k) h =
    ap (λ c. one_if c (count k bs)) s.0 ∙ ap suc (all_counted bs is s.1 k (omega (arith, h)))

-- a positive number isn't 0
not_zero : (n : ℕ) → 0 < n → (n == 0) ≡ false
not_zero n h = grind (arith, nat_tests)

-- jumps of these instructions stay within them
abbrev pub JumpsWithin : List Instr → Type 0
JumpsWithin [] = Unit {0}
JumpsWithin (x ∷ is) = (((k : ℕ) (c : Cond) → x ≡ Unless k c → k < length is) × ((k : ℕ) → x ≡ Skip k → k < length is))
    × JumpsWithin is

-- a skip over something that is kept isn't idle
stays_busy : (x : Instr) (bs : List Bool) (is : List Instr) → Shape x → AllSet bs is
    → ((k : ℕ) → x ≡ Skip k → (k < length is) × (0 < k)) → is_idle x bs ≡ false
stays_busy x bs is (GoesOn _ g) s h = (plain (λ n. n) x g).keeps bs
stays_busy x bs is (Returns r) s h = refl
stays_busy x bs is (Tests k c) s h = refl
stays_busy x bs is (Skips k) s h =
    let w = h k refl in
    let e = all_counted bs is s k w.0 in
    not_zero (count k bs) (omega (arith, e, w.1))

-- a number that isn't 0 is positive
positive : (k : ℕ) → ((k ≡ 0) → ⊥) → 0 < k
positive zero h = absurd (h refl)
positive (suc k) h = omega arith

-- everything is kept
all_kept : (bs : List Bool) (is : List Instr) → AllSet bs is → IsTidy is → JumpsWithin is → AllSet (keeps bs is) is
all_kept [] [] s h w = tt
all_kept [] (x ∷ is) s h w = absurd s
all_kept (b ∷ bs) [] s h w = absurd s
all_kept (b ∷ bs) (x ∷ is) s h w =
    let rest = all_kept bs is s.1 (rest_tidy x is h) w.1 in
    let busy = stays_busy x (keeps bs is) is (shape x) rest
    (λ k q. (w.0.1 k q, positive k (λ z. h.far 0 (ap Some q ∙ ap (λ n. Some (Skip n)) z)))) in
    (ap (λ c. c && not (is_idle x (keeps bs is))) s.0 ∙ ap not busy, rest)

-- an instruction stays where all after it are kept and procedures keep their numbers
recount_stays : (m : ℕ → ℕ) (x : Instr) (bs : List Bool) (is : List Instr) → Shape x → AllSet bs is → renamed m x ≡ x
    → ((k : ℕ) (c : Cond) → x ≡ Unless k c → k < length is) → ((k : ℕ) → x ≡ Skip k → k < length is)
    → recounted m x bs ≡ x
recount_stays m x bs is (GoesOn _ g) s same t w = (plain m x g).counts bs ∙ same
recount_stays m x bs is (Returns r) s same t w = refl
recount_stays m x bs is (Tests k c) s same t w = ap (λ n. Unless n c) (all_counted bs is s k (t k c refl))
recount_stays m x bs is (Skips k) s same t w = ap (λ n. Skip n) (all_counted bs is s k (w k refl))

-- procedures that instructions name keep their numbers
abbrev pub KeepNumbers : (ℕ → ℕ) → List Instr → Type 0
KeepNumbers m [] = Unit {0}
KeepNumbers m (x ∷ is) = (renamed m x ≡ x) × KeepNumbers m is

-- where all are kept nothing changes
squeeze_stays : (m : ℕ → ℕ) (ms : List Bool) (is : List Instr) → AllSet ms is → JumpsWithin is → KeepNumbers m is
    → squeezed m ms is ≡ is
squeeze_stays m [] [] s w n = refl
squeeze_stays m [] (x ∷ is) s w n = absurd s
squeeze_stays m (b ∷ ms) [] s w n = absurd s
squeeze_stays m (b ∷ ms) (x ∷ is) s w n =
    ap (λ c. put_if c (recounted m x ms) (squeezed m ms is)) s.0
    ∙ ap (λ y. y ∷ squeezed m ms is) (recount_stays m x ms is (shape x) s.1 n.0 w.0.0 w.0.1)
    ∙ ap (λ l. x ∷ l) (squeeze_stays m ms is s.1 w.1 n.1)

-- a neat procedure, all of whose places are reached, stays as it is where procedures keep their numbers
pub neat_stays : (m : ℕ → ℕ) (is : List Instr) (bs : List Bool) → IsNeatProcedure is → AllSet bs is → JumpsWithin is
    → KeepNumbers m is → smaller m bs is ≡ is
neat_stays m is bs neat s w n =
    let h = tidy_of is neat in
    ap (λ t. squeezed m (keeps bs t) t) (straight_stays is h)
    ∙ squeeze_stays m (keeps bs is) is (all_kept bs is s h w) w n
