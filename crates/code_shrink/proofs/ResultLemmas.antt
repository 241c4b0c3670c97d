-- The results of smaller code are results of the code.
use Rattle.std.proofs.Common.{◌≡◌, ℕ, zero, suc, Bool, true, false, List, [], ◌∷◌, map, Option, Some, None}
use Rattle.std.proofs.Common.{refl, sym, ap, ◌∙◌, subst}
use Rattle.std.specs.Prelude.{slice_get, slice_index_or}
use Rattle.code_language.specs.Code.{Procedures, instructions, fetch}
use Rattle.code_language.specs.Instrs.{Instr, Assign, Emit, Mark, Clear, Keep, Unless, Skip, Call, Visit, Send}
use Rattle.code_language.specs.Instrs.{SendTo, Play, Home, Begin, Pass, Ret, Cond, Result}
use Rattle.code_language.proofs.Sound.{or_none, instructions_at}
use Rattle.code_shrink.specs.Follows.{renamed}
use Rattle.code_shrink.specs.Shrunk.{KeepsResults}
use Rattle.code_shrink.specs.Smaller.{folded, slides, threaded, straight, keeps, recounted, squeezed, smaller}
use Rattle.code_shrink.specs.Whole.{is_live, number_in, collected, smaller_procedures, IsExact}
use Rattle.code_shrink.proofs.InstrKinds.{Kind, Plain, Return, Tests, Jump, kind}
use Rattle.code_shrink.proofs.Orders.{comes_from}
use Rattle.code_shrink.proofs.Squeezed.{plain}
use Rattle.code_shrink.proofs.WholeCode.{exact_keeps}

-- ---- where an instruction comes from

-- a kept instruction: which one of these it was
pub record WasKept (m : ℕ → ℕ) (xs : List Instr) (y : Instr) : Type 0 where
  pub place : ℕ
  pub before : Instr
  pub marks : List Bool
  pub there : slice_get xs place ≡ Some before
  pub made : recounted m before marks ≡ y

-- it was one of more instructions too
was_later : (m : ℕ → ℕ) (x : Instr) (xs : List Instr) (y : Instr) → WasKept m xs y → WasKept m (x ∷ xs) y
was_later m x xs y w =
    record { place = suc w.place; before = w.before; marks = w.marks; there = w.there; made = w.made }

-- each instruction that is left is a kept one
was_kept : (m : ℕ → ℕ) (bs : List Bool) (xs : List Instr) (i : ℕ) (y : Instr)
    → slice_get (squeezed m bs xs) i ≡ Some y → WasKept m xs y
was_kept m [] xs i y e = absurd (cc e)
was_kept m (b ∷ bs) [] i y e = absurd (cc e)
was_kept m (true ∷ bs) (x ∷ xs) zero y e =
    let made : recounted m x bs ≡ y = cc e in
    record { place = 0; before = x; marks = bs; there = refl; made = made }
was_kept m (true ∷ bs) (x ∷ xs) (suc i) y e = was_later m x xs y (was_kept m bs xs i y e)
was_kept m (false ∷ bs) (x ∷ xs) i y e = was_later m x xs y (was_kept m bs xs i y e)

-- an instruction of a straight procedure: which one it was
pub record WasCurved (is : List Instr) (i : ℕ) (x : Instr) : Type 0 where
  pub before : Instr
  pub slides_after : List ℕ
  pub there : slice_get is i ≡ Some before
  pub made : threaded (folded before) slides_after ≡ x

was_curved : (is : List Instr) (i : ℕ) (x : Instr) → slice_get (straight is) i ≡ Some x → WasCurved is i x
was_curved [] i x e = absurd (cc e)
was_curved (y ∷ is) zero x e =
    let made : threaded (folded y) (slides (map folded is)) ≡ x = cc e in
    record { before = y; slides_after = slides (map folded is); there = refl; made = made }
was_curved (y ∷ is) (suc i) x e =
    let w = was_curved is i x e in
    record { before = w.before; slides_after = w.slides_after; there = w.there; made = w.made }

-- ---- a return

-- with new numbers
return_counted : (m : ℕ → ℕ) (x : Instr) (bs : List Bool) (r : ℕ) → recounted m x bs ≡ Ret r → x ≡ Ret r
unfolding renamed
return_counted m (Assign v x) bs r e = absurd (cc e)
return_counted m (Emit x) bs r e = absurd (cc e)
return_counted m (Mark s) bs r e = absurd (cc e)
return_counted m (Clear s) bs r e = absurd (cc e)
return_counted m (Keep s) bs r e = absurd (cc e)
return_counted m (Unless k c) bs r e = absurd (cc e)
return_counted m (Skip k) bs r e = absurd (cc e)
return_counted m (Call p tag) bs r e = absurd (cc e)
return_counted m (Visit p tag) bs r e = absurd (cc e)
return_counted m (Send x) bs r e = absurd (cc e)
return_counted m (SendTo x s p) bs r e = absurd (cc e)
return_counted m Play bs r e = absurd (cc e)
return_counted m (Home s) bs r e = absurd (cc e)
return_counted m Begin bs r e = absurd (cc e)
return_counted m Pass bs r e = absurd (cc e)
return_counted m (Ret n) bs r e = e

-- with jumps past skips
return_straight : (y z : Instr) (ls : List ℕ) (r : ℕ) → Kind y z → threaded z ls ≡ Ret r → y ≡ Ret r
return_straight y z ls r (Plain _ g) e = sym ((plain (λ n. n) y g).threads ls) ∙ e
return_straight y z ls r (Return n) e = e
return_straight y z ls r (Tests k c) e = absurd (cc e)
return_straight y z ls r (Jump _ k jumps costs inside no_ret) e = absurd (cc e)

-- ---- a test of the last result

-- an instruction tests whether it is r
abbrev pub TestsResult : ℕ → Instr → Type 0
TestsResult r x = (n : ℕ) × (x ≡ Unless n (Result r))

-- a test is one of its condition
same_test : (k j r : ℕ) (c : Cond) → Unless k c ≡ Unless j (Result r) → (n : ℕ) → TestsResult r (Unless n c)
same_test k j r c e n = let same : c ≡ Result r = cc e in (n, ap (Unless n) same)

-- with new numbers
test_counted : (m : ℕ → ℕ) (x : Instr) (bs : List Bool) (j r : ℕ) → recounted m x bs ≡ Unless j (Result r)
    → TestsResult r x
unfolding renamed
test_counted m (Assign v x) bs j r e = absurd (cc e)
test_counted m (Emit x) bs j r e = absurd (cc e)
test_counted m (Mark s) bs j r e = absurd (cc e)
test_counted m (Clear s) bs j r e = absurd (cc e)
test_counted m (Keep s) bs j r e = absurd (cc e)
test_counted m (Unless k c) bs j r e = same_test _ j r c e k
test_counted m (Skip k) bs j r e = absurd (cc e)
test_counted m (Call p tag) bs j r e = absurd (cc e)
test_counted m (Visit p tag) bs j r e = absurd (cc e)
test_counted m (Send x) bs j r e = absurd (cc e)
test_counted m (SendTo x s p) bs j r e = absurd (cc e)
test_counted m Play bs j r e = absurd (cc e)
test_counted m (Home s) bs j r e = absurd (cc e)
test_counted m Begin bs j r e = absurd (cc e)
test_counted m Pass bs j r e = absurd (cc e)
test_counted m (Ret n) bs j r e = absurd (cc e)

-- with jumps past skips
test_straight : (y z : Instr) (ls : List ℕ) (j r : ℕ) → Kind y z → threaded z ls ≡ Unless j (Result r)
    → TestsResult r y
test_straight y z ls j r (Plain _ g) e = (j, sym ((plain (λ n. n) y g).threads ls) ∙ e)
test_straight y z ls j r (Return n) e = absurd (cc e)
test_straight y z ls j r (Tests k c) e = same_test _ j r c e k
test_straight y z ls j r (Jump _ k jumps costs inside no_ret) e = absurd (cc e)

-- ---- a procedure, and all

-- an instruction of a smaller procedure: which one of the procedure it was
pub record WasBefore (m : ℕ → ℕ) (is : List Instr) (y : Instr) : Type 0 where
  pub place : ℕ
  pub before : Instr
  pub slides_after : List ℕ
  pub marks : List Bool
  pub there : slice_get is place ≡ Some before
  pub made : recounted m (threaded (folded before) slides_after) marks ≡ y

was_before : (m : ℕ → ℕ) (bs : List Bool) (is : List Instr) (i : ℕ) (y : Instr)
    → slice_get (smaller m bs is) i ≡ Some y → WasBefore m is y
was_before m bs is i y e =
    let kept = was_kept m (keeps bs (straight is)) (straight is) i y e in
    let curved = was_curved is kept.place kept.before kept.there in
    record {
      place = kept.place;
      before = curved.before;
      slides_after = curved.slides_after;
      marks = kept.marks;
      there = curved.there;
      made = ap (λ x. recounted m x kept.marks) curved.made ∙ kept.made;
    }

-- an instruction of smaller procedures: which procedure it was in, and which one of this it was
pub record WasIn (live : List Bool) (k : Procedures) (y : Instr) : Type 0 where
  pub proc : ℕ
  pub was : WasBefore (number_in live) (instructions k proc) y

was_in : (live : List Bool) (flags : List (List Bool)) (k : Procedures) (p i : ℕ) (y : Instr) → IsExact live flags k
    → fetch (smaller_procedures live flags k) p i ≡ Some y → WasIn live k y
unfolding fetch instructions
was_in live flags k p i y exact e = at (slice_get procs p) refl
  where
    procs : List (List Instr)
    procs = collected (number_in live) live flags k.procs

    at : (o : Option (List Instr)) → slice_get procs p ≡ o → WasIn live k y
    at None there =
        let none : slice_index_or procs p [] ≡ [] = instructions_at procs p ∙ ap or_none there in
        absurd (cc (subst (λ xs. slice_get xs i ≡ Some y) none e))
    at (Some now) there =
        let f = comes_from (is_live live) (number_in live) live flags k.procs p now
        (exact_keeps live flags k exact).each there in
        let here : slice_index_or procs p [] ≡ now = instructions_at procs p ∙ ap or_none there in
        let was : slice_index_or k.procs f.old [] ≡ f.before = instructions_at k.procs f.old ∙ ap or_none f.there in
        record {
          proc = f.old;
          was = subst (λ is. WasBefore (number_in live) is y) (sym was)
              (was_before (number_in live) f.marks f.before i y
              (subst (λ xs. slice_get xs i ≡ Some y) (here ∙ sym f.made) e));
        }

-- the results of what is left are results of the procedures
pub results_stay : (live : List Bool) (flags : List (List Bool)) (k : Procedures) → IsExact live flags k
    → KeepsResults k (smaller_procedures live flags k)
unfolding fetch
results_stay live flags k exact = record {
  returned = λ p i r e.
      let w = was_in live flags k p i (Ret r) exact e in
      let x = w.was.before in
      let same : x ≡ Ret r = return_straight x (folded x) w.was.slides_after r (kind x)
      (return_counted (number_in live) (threaded (folded x) w.was.slides_after) w.was.marks r w.was.made) in
      record { proc = w.proc; place = w.was.place; stands = w.was.there ∙ ap Some same };
  tested = λ p i j r e.
      let w = was_in live flags k p i (Unless j (Result r)) exact e in
      let x = w.was.before in
      let counted = test_counted (number_in live) (threaded (folded x) w.was.slides_after) w.was.marks j r w.was.made in
      let before = test_straight x (folded x) w.was.slides_after counted.0 r (kind x) counted.1 in
      (before.0, record { proc = w.proc; place = w.was.place; stands = w.was.there ∙ ap Some before.1 });
}
