-- Height and work are measures.
use Rattle.std.proofs.Common.{◌≡◌, ℕ, zero, suc, ◌+◌, ◌<◌, ◌≤◌, max, true, List, [], ◌∷◌, Option, refl, ap, ◌∙◌, arith}
use Rattle.std.specs.Prelude.{slice_index}
use Rattle.std.proofs.lemmas.Bool.{ltb-true}
use Rattle.code_language.specs.Instrs.{Instr, Assign, Emit, Mark, Clear, Keep, Unless, Skip, Call, Visit, Send, SendTo}
use Rattle.code_language.specs.Instrs.{Play, Home, Begin, Pass, Ret}
use Rattle.code_language.specs.WellFormed.{calls_lower}
use Rattle.code_language.specs.Measures.{rise, height_by, work_from, lefts, work_by}
use Rattle.code_language.specs.Sound.{CallsBelow}
use Rattle.code_language.proofs.Reckoned.{IsMeasure}

-- a call that goes lower
pub call_lower : (n p : ℕ) (tag : Option ℕ) → calls_lower n (Call p tag) ≡ true → p < n
unfolding calls_lower
call_lower n p tag h = ltb-true p n h

-- ---- height

-- with greater heights an instruction stacks no fewer
rise_grows : (f g : ℕ → ℕ) (x : Instr) → ((p : ℕ) → f p ≤ g p) → rise f x ≤ rise g x
unfolding rise
rise_grows f g (Call p tag) h = omega (arith, h p)
rise_grows f g (Assign v x) h = omega arith
rise_grows f g (Emit e) h = omega arith
rise_grows f g (Mark s) h = omega arith
rise_grows f g (Clear s) h = omega arith
rise_grows f g (Keep s) h = omega arith
rise_grows f g (Unless k c) h = omega arith
rise_grows f g (Skip k) h = omega arith
rise_grows f g (Visit p tag) h = omega arith
rise_grows f g (Send e) h = omega arith
rise_grows f g (SendTo e s p) h = omega arith
rise_grows f g Play h = omega arith
rise_grows f g (Home s) h = omega arith
rise_grows f g Begin h = omega arith
rise_grows f g Pass h = omega arith
rise_grows f g (Ret r) h = omega arith

-- the same heights below give the same
rise_agrees : (f g : ℕ → ℕ) (n : ℕ) (x : Instr) → calls_lower n x ≡ true → ((p : ℕ) → p < n → f p ≡ g p)
    → rise f x ≡ rise g x
unfolding rise
rise_agrees f g n (Call p tag) low h = ap suc (h p (call_lower n p tag low))
rise_agrees f g n (Assign v x) low h = refl
rise_agrees f g n (Emit e) low h = refl
rise_agrees f g n (Mark s) low h = refl
rise_agrees f g n (Clear s) low h = refl
rise_agrees f g n (Keep s) low h = refl
rise_agrees f g n (Unless k c) low h = refl
rise_agrees f g n (Skip k) low h = refl
rise_agrees f g n (Visit p tag) low h = refl
rise_agrees f g n (Send e) low h = refl
rise_agrees f g n (SendTo e s p) low h = refl
rise_agrees f g n Play low h = refl
rise_agrees f g n (Home s) low h = refl
rise_agrees f g n Begin low h = refl
rise_agrees f g n Pass low h = refl
rise_agrees f g n (Ret r) low h = refl

-- and a procedure is no lower
height_grows : (f g : ℕ → ℕ) (is : List Instr) → ((p : ℕ) → f p ≤ g p) → height_by f is ≤ height_by g is
unfolding height_by
height_grows f g [] h = omega arith
height_grows f g (x ∷ is) h = omega (arith, rise_grows f g x h, height_grows f g is h)

-- the same heights below give the same height
height_agrees : (f g : ℕ → ℕ) (n : ℕ) (is : List Instr) → CallsBelow n is → ((p : ℕ) → p < n → f p ≡ g p)
    → height_by f is ≡ height_by g is
unfolding height_by
height_agrees f g n [] low h = refl
height_agrees f g n (x ∷ is) low h =
    ap (λ r. max r (height_by f is)) (rise_agrees f g n x low.0 h)
    ∙ ap (λ r. max (rise g x) r) (height_agrees f g n is low.1 h)

-- so the height is a measure
pub height_measure : IsMeasure height_by
height_measure = record { grows = height_grows; agrees = height_agrees }

-- ---- work

-- with greater works there is no less from an instruction on
work_from_grows : (f g : ℕ → ℕ) (x : Instr) (ls ms : List ℕ) → ((p : ℕ) → f p ≤ g p) → ((i : ℕ)
    → slice_index ls i ≤ slice_index ms i) → work_from f x ls ≤ work_from g x ms
unfolding work_from
work_from_grows f g (Call p tag) ls ms h k = omega (arith, h p, k 0)
work_from_grows f g (Unless n c) ls ms h k = omega (arith, k n, k 0)
work_from_grows f g (Skip n) ls ms h k = omega (arith, k n)
work_from_grows f g (Assign v x) ls ms h k = omega (arith, k 0)
work_from_grows f g (Emit e) ls ms h k = omega (arith, k 0)
work_from_grows f g (Mark s) ls ms h k = omega (arith, k 0)
work_from_grows f g (Clear s) ls ms h k = omega (arith, k 0)
work_from_grows f g (Keep s) ls ms h k = omega (arith, k 0)
work_from_grows f g (Visit p tag) ls ms h k = omega (arith, k 0)
work_from_grows f g (Send e) ls ms h k = omega (arith, k 0)
work_from_grows f g (SendTo e s p) ls ms h k = omega (arith, k 0)
work_from_grows f g Play ls ms h k = omega (arith, k 0)
work_from_grows f g (Home s) ls ms h k = omega (arith, k 0)
work_from_grows f g Begin ls ms h k = omega (arith, k 0)
work_from_grows f g Pass ls ms h k = omega (arith, k 0)
work_from_grows f g (Ret r) ls ms h k = omega arith

-- nor from any place on
lefts_grow : (f g : ℕ → ℕ) (is : List Instr) → ((p : ℕ) → f p ≤ g p) → (i : ℕ)
    → slice_index (lefts f is) i ≤ slice_index (lefts g is) i
unfolding lefts
lefts_grow f g [] h i = omega arith
lefts_grow f g (x ∷ is) h zero = work_from_grows f g x (lefts f is) (lefts g is) h (lefts_grow f g is h)
lefts_grow f g (x ∷ is) h (suc i) = lefts_grow f g is h i

-- the same works below give the same
work_from_agrees : (f g : ℕ → ℕ) (n : ℕ) (x : Instr) (ls : List ℕ) → calls_lower n x ≡ true → ((p : ℕ) → p < n
    → f p ≡ g p) → work_from f x ls ≡ work_from g x ls
unfolding work_from
work_from_agrees f g n (Call p tag) ls low h = ap (λ m. suc (m + slice_index ls 0)) (h p (call_lower n p tag low))
work_from_agrees f g n (Assign v x) ls low h = refl
work_from_agrees f g n (Emit e) ls low h = refl
work_from_agrees f g n (Mark s) ls low h = refl
work_from_agrees f g n (Clear s) ls low h = refl
work_from_agrees f g n (Keep s) ls low h = refl
work_from_agrees f g n (Unless k c) ls low h = refl
work_from_agrees f g n (Skip k) ls low h = refl
work_from_agrees f g n (Visit p tag) ls low h = refl
work_from_agrees f g n (Send e) ls low h = refl
work_from_agrees f g n (SendTo e s p) ls low h = refl
work_from_agrees f g n Play ls low h = refl
work_from_agrees f g n (Home s) ls low h = refl
work_from_agrees f g n Begin ls low h = refl
work_from_agrees f g n Pass ls low h = refl
work_from_agrees f g n (Ret r) ls low h = refl

-- the same works below give the same from each place on
pub lefts_agree : (f g : ℕ → ℕ) (n : ℕ) (is : List Instr) → CallsBelow n is → ((p : ℕ) → p < n → f p ≡ g p)
    → lefts f is ≡ lefts g is
unfolding lefts
lefts_agree f g n [] low h = refl
lefts_agree f g n (x ∷ is) low h =
    ap (λ ls. work_from f x ls ∷ ls) (lefts_agree f g n is low.1 h)
    ∙ ap (λ m. m ∷ lefts g is) (work_from_agrees f g n x (lefts g is) low.0 h)

-- with greater works a procedure has no less
work_grows : (f g : ℕ → ℕ) (is : List Instr) → ((p : ℕ) → f p ≤ g p) → work_by f is ≤ work_by g is
unfolding work_by
work_grows f g is h = lefts_grow f g is h 0

-- the same works below give the same work
work_agrees : (f g : ℕ → ℕ) (n : ℕ) (is : List Instr) → CallsBelow n is → ((p : ℕ) → p < n → f p ≡ g p)
    → work_by f is ≡ work_by g is
unfolding work_by
work_agrees f g n is low h = ap (λ ls. slice_index ls 0) (lefts_agree f g n is low h)

-- so the work is a measure
pub work_measure : IsMeasure work_by
work_measure = record { grows = work_grows; agrees = work_agrees }
