-- The smaller procedure is no higher and works no more.
use Rattle.std.proofs.Common.{◌≡◌, ◌≤◌, ℕ, zero, suc, ◌+◌, Bool, true, false, List, [], ◌∷◌, map}
use Rattle.std.proofs.Common.{refl, sym, subst, arith}
use Rattle.std.specs.Prelude.{max, slice_index, ◌==◌, ◌&&◌, not}
use Rattle.code_language.specs.Instrs.{Instr, Assign, Emit, Mark, Clear, Keep, Unless, Skip, Call, Visit, Send}
use Rattle.code_language.specs.Instrs.{SendTo, Play, Home, Begin, Pass, Ret}
use Rattle.code_language.specs.Measures.{work_from, lefts, rise, height_by}
use Rattle.code_shrink.specs.Follows.{renamed, NamesIn, goes_on}
use Rattle.code_shrink.specs.Smaller.{folded, slide_from, slides, threaded, straight, one_if, count, is_idle, keeps}
use Rattle.code_shrink.specs.Smaller.{recounted, put_if, smaller}
use Rattle.code_shrink.proofs.Closed.{IsMarked, Lands, AreClosed}
use Rattle.code_shrink.proofs.InstrKinds.{Kind, Plain, Return, Tests as TestKind, Jump, kind}
use Rattle.code_shrink.proofs.Squeezed.{plain, is_zero}

-- ---- work

-- past an instruction that may be kept nothing else is left
left_past : (w : ℕ → ℕ) (b : Bool) (y : Instr) (n : ℕ) (out : List Instr)
    → slice_index (lefts w (put_if b y out)) (one_if b n) ≡ slice_index (lefts w out) n
unfolding lefts
left_past w true y n out = refl
left_past w false y n out = refl

-- where skips lead no more is left; the first place, if that is so of the rest
slid_left_first : (w : ℕ → ℕ) (x y : Instr) (is : List Instr) → Kind x y
    → ((k : ℕ) → slice_index (lefts w is) (k + slice_index (slides (map folded is)) k) ≤ slice_index (lefts w is) k)
    → slice_index (lefts w (x ∷ is)) (zero + slide_from y (slides (map folded is))) ≤ work_from w x (lefts w is)
unfolding lefts
slid_left_first w x y is (Plain _ g) later =
    let e : zero + slide_from x (slides (map folded is)) ≡ zero =
    omega (arith, (plain (λ n. n) x g).stays (slides (map folded is))) in
    subst (λ n. slice_index (lefts w (x ∷ is)) n ≤ work_from w x (lefts w is)) (sym e) (omega arith)
slid_left_first w x y is (Return r) later =
    let e : zero + 0 ≡ zero = omega arith in
    subst (λ n. slice_index (lefts w (Ret r ∷ is)) n ≤ work_from w (Ret r) (lefts w is)) (sym e) (omega arith)
slid_left_first w x y is (TestKind k c) later =
    let e : zero + 0 ≡ zero = omega arith in
    subst (λ n. slice_index (lefts w (Unless k c ∷ is)) n ≤ work_from w (Unless k c) (lefts w is)) (sym e) (omega arith)
slid_left_first w x y is (Jump _ k jumps costs inside no_ret) later =
    let s = slice_index (slides (map folded is)) k in
    let e : zero + suc (k + s) ≡ suc (k + s) = omega arith in
    subst (λ n. slice_index (lefts w (x ∷ is)) n ≤ work_from w x (lefts w is)) (sym e)
    (omega (arith, later k, costs w (lefts w is)))

-- where skips lead no more is left
slid_left : (w : ℕ → ℕ) (is : List Instr) (k : ℕ)
    → slice_index (lefts w is) (k + slice_index (slides (map folded is)) k) ≤ slice_index (lefts w is) k
unfolding lefts
slid_left w [] k = omega arith
slid_left w (x ∷ is) zero = slid_left_first w x (folded x) is (kind x) (slid_left w is)
slid_left w (x ∷ is) (suc k) =
    let s = slice_index (slides (map folded is)) k in
    let e : suc k + s ≡ suc (k + s) = omega arith in
    subst (λ n. slice_index (lefts w (x ∷ is)) n ≤ slice_index (lefts w is) k) (sym e) (slid_left w is k)

module _ (R : ℕ → Bool) (m : ℕ → ℕ) (w w' : ℕ → ℕ) (less : (q : ℕ) → R q ≡ true → w' (m q) ≤ w q) where
  -- an instruction that goes on works no more
  plain_works : (x : Instr) (ls ls' : List ℕ) → goes_on x ≡ true → NamesIn R x → slice_index ls' 0 ≤ slice_index ls 0
      → work_from w' (renamed m x) ls' ≤ work_from w x ls
  unfolding goes_on NamesIn renamed work_from
  plain_works (Assign v x) ls ls' g named h = omega (arith, h)
  plain_works (Emit e) ls ls' g named h = omega (arith, h)
  plain_works (Mark s) ls ls' g named h = omega (arith, h)
  plain_works (Clear s) ls ls' g named h = omega (arith, h)
  plain_works (Keep s) ls ls' g named h = omega (arith, h)
  plain_works (Unless k c) ls ls' g named h = absurd cc
  plain_works (Skip k) ls ls' g named h = absurd cc
  plain_works (Call p tag) ls ls' g named h = omega (arith, h, less p named.0)
  plain_works (Visit p tag) ls ls' g named h = omega (arith, h)
  plain_works (Send e) ls ls' g named h = omega (arith, h)
  plain_works (SendTo e s p) ls ls' g named h = omega (arith, h)
  plain_works Play ls ls' g named h = omega (arith, h)
  plain_works (Home s) ls ls' g named h = omega (arith, h)
  plain_works Begin ls ls' g named h = omega (arith, h)
  plain_works Pass ls ls' g named h = omega (arith, h)
  plain_works (Ret r) ls ls' g named h = absurd cc

  -- at every marked place no more is left than there was
  abbrev pub AllLess : List Instr → List Bool → Type 0
  AllLess is bs = (k : ℕ) → IsMarked bs k
      → slice_index (lefts w' (smaller m bs is)) (count k (keeps bs (straight is))) ≤ slice_index (lefts w is) k

  -- a jump to a marked place past skips
  jump_less : (is : List Instr) (bs : List Bool) (k : ℕ) → AllLess is bs
      → IsMarked bs (k + slice_index (slides (map folded is)) k)
      → slice_index (lefts w' (smaller m bs is)) (count (k + slice_index (slides (map folded is)) k)
      (keeps bs (straight is)))
      ≤ slice_index (lefts w is) k
  jump_less is bs k later l =
      let a = slid_left w is k in
      let b = later (k + slice_index (slides (map folded is)) k) l in
      omega (arith, a, b)

  -- a skip, by whether it passes over nothing
  skip_less : (x : Instr) (is : List Instr) (bs : List Bool) (k : ℕ) (idle : Bool)
      → suc (slice_index (lefts w is) k) ≤ work_from w x (lefts w is) → AllLess is bs
      → IsMarked bs (k + slice_index (slides (map folded is)) k)
      → (count (k + slice_index (slides (map folded is)) k) (keeps bs (straight is)) == 0) ≡ idle
      → slice_index (lefts w' (put_if (not idle)
      (Skip (count (k + slice_index (slides (map folded is)) k) (keeps bs (straight is)))) (smaller m bs is))) 0
      ≤ work_from w x (lefts w is)
  unfolding lefts work_from
  skip_less x is bs k true costs later l e =
      let none = is_zero (count (k + slice_index (slides (map folded is)) k) (keeps bs (straight is))) e in
      let h = subst (λ n. slice_index (lefts w' (smaller m bs is)) n ≤ slice_index (lefts w is) k) none
      (jump_less is bs k later l) in
      omega (arith, h, costs)
  skip_less x is bs k false costs later l e = omega (arith, jump_less is bs k later l, costs)

  -- a reached instruction
  first_less : (x y : Instr) (is : List Instr) (bs : List Bool) → Kind x y → AllLess is bs
      → Lands (threaded y (slides (map folded is))) bs → NamesIn R (threaded y (slides (map folded is)))
      → slice_index (lefts w' (put_if (not (is_idle (threaded y (slides (map folded is))) (keeps bs (straight is))))
      (recounted m (threaded y (slides (map folded is))) (keeps bs (straight is))) (smaller m bs is))) 0
      ≤ work_from w x (lefts w is)
  unfolding lefts work_from
  first_less x y is bs (Plain _ g) later l named =
      let known = plain m x g in
      let mask = keeps bs (straight is) in
      let out = smaller m bs is in
      subst (λ z. Lands z bs → NamesIn R z
      → slice_index (lefts w' (put_if (not (is_idle z mask)) (recounted m z mask) out)) 0 ≤ work_from w x (lefts w is))
      (sym (known.threads (slides (map folded is))))
      (λ l named. subst (λ i. slice_index (lefts w' (put_if (not i) (recounted m x mask) out)) 0 ≤ work_from w x
      (lefts w is))
      (sym (known.keeps mask))
      (subst (λ z. slice_index (lefts w' (z ∷ out)) 0 ≤ work_from w x (lefts w is)) (sym (known.counts mask))
      (plain_works x (lefts w is) (lefts w' out) g named (later 0 (known.lands bs l))))) l named
  first_less x y is bs (Return r) later l named = omega arith
  first_less x y is bs (TestKind k c) later l named =
      let a = later 0 l.0 in
      let b = jump_less is bs k later l.1 in
      omega (arith, a, b)
  first_less x y is bs (Jump _ k jumps costs inside no_ret) later l named =
      skip_less x is bs k (count (k + slice_index (slides (map folded is)) k) (keeps bs (straight is)) == 0)
      (costs w (lefts w is)) later l refl

  -- at every marked place the smaller procedure has no more left
  pub smaller_less : (is : List Instr) (bs : List Bool) → AreClosed R bs (straight is) → AllLess is bs
  unfolding lefts
  smaller_less [] [] closed k l = omega arith
  smaller_less [] (b ∷ bs) closed k l = absurd closed
  smaller_less (x ∷ is) [] closed k l = absurd closed
  smaller_less (x ∷ is) (b ∷ bs) closed (suc k) l =
      subst (λ n. n ≤ slice_index (lefts w is) k)
      (sym (left_past w' (b && not (is_idle (threaded (folded x) (slides (map folded is))) (keeps bs (straight is))))
      (recounted m (threaded (folded x) (slides (map folded is))) (keeps bs (straight is)))
      (count k (keeps bs (straight is))) (smaller m bs is)))
      (smaller_less is bs closed.1 k l)
  smaller_less (x ∷ is) (true ∷ bs) closed zero l =
      let h = closed.0 refl in
      first_less x (folded x) is bs (kind x) (smaller_less is bs closed.1) h.0 h.1
  smaller_less (x ∷ is) (false ∷ bs) closed zero l = absurd cc

  -- ---- height

  -- an instruction that goes on rises no more
  plain_rises : (x : Instr) → goes_on x ≡ true → NamesIn R x → rise w' (renamed m x) ≤ rise w x
  unfolding goes_on NamesIn renamed rise
  plain_rises (Assign v x) g named = omega arith
  plain_rises (Emit e) g named = omega arith
  plain_rises (Mark s) g named = omega arith
  plain_rises (Clear s) g named = omega arith
  plain_rises (Keep s) g named = omega arith
  plain_rises (Unless k c) g named = absurd cc
  plain_rises (Skip k) g named = absurd cc
  plain_rises (Call p tag) g named = omega (arith, less p named.0)
  plain_rises (Visit p tag) g named = omega arith
  plain_rises (Send e) g named = omega arith
  plain_rises (SendTo e s p) g named = omega arith
  plain_rises Play g named = omega arith
  plain_rises (Home s) g named = omega arith
  plain_rises Begin g named = omega arith
  plain_rises Pass g named = omega arith
  plain_rises (Ret r) g named = absurd cc

  -- an instruction that may be kept rises no more
  put_rises : (b : Bool) (y : Instr) (out : List Instr) (n : ℕ) → (b ≡ true → rise w' y ≤ n)
      → height_by w' (put_if b y out) ≤ max n (height_by w' out)
  unfolding height_by
  put_rises true y out n h = omega (arith, h refl)
  put_rises false y out n h = omega arith

  -- a reached instruction rises no more
  first_rises : (x y : Instr) (ls : List ℕ) (mask : List Bool) → Kind x y → NamesIn R (threaded y ls)
      → rise w' (recounted m (threaded y ls) mask) ≤ rise w x
  unfolding rise
  first_rises x y ls mask (Plain _ g) named =
      let known = plain m x g in
      subst (λ z. NamesIn R z → rise w' (recounted m z mask) ≤ rise w x) (sym (known.threads ls))
      (λ named. subst (λ z. rise w' z ≤ rise w x) (sym (known.counts mask)) (plain_rises x g named)) named
  first_rises x y ls mask (Return r) named = omega arith
  first_rises x y ls mask (TestKind k c) named = omega arith
  first_rises x y ls mask (Jump _ k jumps costs inside no_ret) named = omega arith

  -- the first of two tests
  first_of_both : (a b : Bool) → (a && b) ≡ true → a ≡ true
  first_of_both true b e = refl
  first_of_both false b e = absurd cc

  -- the smaller procedure is no higher
  pub smaller_height : (is : List Instr) (bs : List Bool) → AreClosed R bs (straight is)
      → height_by w' (smaller m bs is) ≤ height_by w is
  unfolding height_by
  smaller_height [] [] closed = omega arith
  smaller_height [] (b ∷ bs) closed = absurd closed
  smaller_height (x ∷ is) [] closed = absurd closed
  smaller_height (x ∷ is) (b ∷ bs) closed =
      let ls = slides (map folded is) in
      let mask = keeps bs (straight is) in
      let kept = b && not (is_idle (threaded (folded x) ls) mask) in
      let a = put_rises kept (recounted m (threaded (folded x) ls) mask) (smaller m bs is) (rise w x)
      (λ e. first_rises x (folded x) ls mask (kind x)
      (closed.0 (first_of_both b (not (is_idle (threaded (folded x) ls) mask)) e)).1) in
      let h = smaller_height is bs closed.1 in
      omega (arith, a, h)
