-- The smaller procedure is sound where the procedure is.
use Rattle.std.proofs.Common.{◌≡◌, ◌≤◌, ◌<◌, ℕ, zero, suc, ◌+◌, Bool, true, false, List, [], ◌∷◌, length, map}
use Rattle.std.proofs.Common.{Option, Some, None}
use Rattle.std.proofs.Common.{refl, sym, ap, ◌∙◌, subst, arith}
use Rattle.std.specs.Prelude.{nat_lt, slice_index, ◌==◌, ◌&&◌, not}
use Rattle.std.proofs.lemmas.Bool.{lt-ltb, ltb-true, and_from}
use Rattle.actions.specs.Exprs.{Expr, Lit, Flag, Read, Active, Neg, Not, Bin}
use Rattle.code_language.specs.Instrs.{Cond, On, Bare, OnHome, BareHome, Current, Result, Test, Last}
use Rattle.code_language.specs.Instrs.{Instr, Assign, Emit, Mark, Clear, Keep, Unless, Skip, Call, Visit, Send}
use Rattle.code_language.specs.Instrs.{SendTo, Play, Home, Begin, Pass, Ret}
use Rattle.code_language.specs.Sound.{IsSound, AreSound, EndsInRet, IsProc}
use Rattle.code_language.specs.WellFormed.{Known, with_procs, is_state, is_datum}
use Rattle.code_language.specs.WellFormed.{is_event, is_proc, expr_known, cond_known}
use Rattle.code_language.specs.WellFormed.{note_known, instr_known, skips_within, calls_lower, cond_typed, instr_typed}
use Rattle.code_language.specs.WellFormed.{is_ret}
use Rattle.code_language.specs.WellFormed.{cond_keeps, instr_keeps}
use Rattle.code_language.proofs.Accepted.{first_true, second_true}
use Rattle.code_shrink.specs.Follows.{renamed, note_by, NoteIn, NamesIn, goes_on}
use Rattle.code_shrink.specs.Smaller.{folded, slide_from, slides, threaded, straight, one_if, count, is_idle, keeps}
use Rattle.code_shrink.specs.Smaller.{recounted, put_if, smaller}
use Rattle.code_shrink.proofs.Closed.{IsMarked, Lands, AreClosed}
use Rattle.code_shrink.proofs.InstrKinds.{Kind, Plain, Return, Tests as TestKind, Jump, kind}
use Rattle.code_shrink.proofs.Squeezed.{plain}
use Rattle.code_shrink.proofs.Shapes.{other}

-- nothing, or a list whose last instruction returns
abbrev pub Ended : List Instr → Type 0
Ended [] = Unit {0}
Ended (x ∷ rest) = EndsInRet (x ∷ rest)

-- so is the rest
pub ended_rest : (x : Instr) (rest : List Instr) → Ended (x ∷ rest) → Ended rest
ended_rest x [] h = tt
ended_rest x (y ∷ rest) h = h

-- after an instruction that doesn't return more comes
pub more_comes : (x : Instr) (rest : List Instr) → Ended (x ∷ rest) → is_ret x ≡ false → 0 < length rest
more_comes x [] h stops = absurd (cc (h, stops))
more_comes x (y ∷ rest) h stops = omega arith

module _ (K : Known) (p : ℕ) where
  -- the skip at the first place leads to a place that is there, if those of the rest do
  slid_first_within : (x y : Instr) (is : List Instr) → Kind x y → IsSound K p (length is + 0) x → Ended (x ∷ is)
      → ((k : ℕ) → k < length is → k + slice_index (slides (map folded is)) k < length is)
      → zero + slide_from y (slides (map folded is)) < suc (length is)
  slid_first_within x y is (Plain _ g) s ends later = omega (arith, (plain (λ n. n) x g).stays (slides (map folded is)))
  slid_first_within x y is (Return r) s ends later = omega arith
  slid_first_within x y is (TestKind k c) s ends later = omega arith
  slid_first_within x y is (Jump _ k jumps costs inside no_ret) s ends later =
      let more = more_comes x is ends no_ret in
      let h : k < length is + 0 = inside (length is + 0) (omega (arith, more)) s.within in
      let h' : k < length is = omega (arith, h) in
      omega (arith, later k h')

  -- skips lead to places that are there
  pub slid_within : (is : List Instr) → AreSound K p 0 is → Ended is → (k : ℕ) → k < length is
      → k + slice_index (slides (map folded is)) k < length is
  slid_within [] sound ends k h = absurd (omega arith)
  slid_within (x ∷ is) sound ends zero h =
      slid_first_within x (folded x) is (kind x) sound.0 ends (slid_within is sound.1 (ended_rest x is ends))
  slid_within (x ∷ is) sound ends (suc k) h =
      omega (arith, slid_within is sound.1 (ended_rest x is ends) k (omega arith))

-- counts within what is kept
below_put : (b : Bool) (y : Instr) (n : ℕ) (out : List Instr) → n < length out → one_if b n < length (put_if b y out)
below_put true y n out h = omega arith
below_put false y n out h = h

-- expressions name the same data and states, whatever procedures there are
pub expr_same : (K : Known) (n : ℕ) (e : Expr) → expr_known (with_procs K n) e ≡ expr_known K e
unfolding expr_known
expr_same K n (Lit x) = refl
expr_same K n (Flag b) = refl
expr_same K n (Read v) = refl
expr_same K n (Active s) = refl
expr_same K n (Neg a) = expr_same K n a
expr_same K n (Not a) = expr_same K n a
expr_same K n (Bin op a b) =
    ap (λ l. l && expr_known (with_procs K n) b) (expr_same K n a) ∙ ap (λ r. expr_known K a && r) (expr_same K n b)

module _ (R : ℕ → Bool) (m : ℕ → ℕ) (K : Known) (n : ℕ) (p : ℕ)
    (below : (q : ℕ) → R q ≡ true → m q < n) (lower : (q : ℕ) → R q ≡ true → q < p → m q < m p) where
  -- what the smaller code may name
  abbrev pub Now : Known
  Now = with_procs K n

  -- and conditions name what is there
  cond_same : (c : Cond) → cond_known Now c ≡ cond_known K c
  unfolding cond_known
  cond_same (On s) = refl
  cond_same (Bare s) = refl
  cond_same OnHome = refl
  cond_same BareHome = refl
  cond_same (Current e) = refl
  cond_same (Result r) = refl
  cond_same (Test e) = expr_same K n e
  cond_same (Last s) = refl

  -- with the same types
  cond_typed_same : (c : Cond) → cond_typed Now c ≡ cond_typed K c
  unfolding cond_typed
  cond_typed_same (On s) = refl
  cond_typed_same (Bare s) = refl
  cond_typed_same OnHome = refl
  cond_typed_same BareHome = refl
  cond_typed_same (Current e) = refl
  cond_typed_same (Result r) = refl
  cond_typed_same (Test e) = refl
  cond_typed_same (Last s) = refl

  -- and look at the same memory
  cond_keeps_same : (c : Cond) → cond_keeps Now c ≡ cond_keeps K c
  unfolding cond_keeps
  cond_keeps_same (On s) = refl
  cond_keeps_same (Bare s) = refl
  cond_keeps_same OnHome = refl
  cond_keeps_same BareHome = refl
  cond_keeps_same (Current e) = refl
  cond_keeps_same (Result r) = refl
  cond_keeps_same (Test e) = refl
  cond_keeps_same (Last s) = refl

  -- a note is there
  note_there : (tag : Option ℕ) → NoteIn R tag → note_known Now (note_by m tag) ≡ true
  note_there None h = refl
  note_there (Some q) h = lt-ltb (m q) n (below q h)

  -- an instruction that goes on is sound under its new numbers
  plain_sound : (x : Instr) (behind behind' : ℕ) → goes_on x ≡ true → NamesIn R x → IsSound K p behind x
      → IsSound Now (m p) behind' (renamed m x)
  unfolding goes_on NamesIn renamed instr_known skips_within calls_lower instr_typed instr_keeps
  plain_sound (Assign v x) behind behind' g named h = record {
    known = subst (λ b. (is_datum K v && b) ≡ true) (sym (expr_same K n x)) h.known;
    within = refl;
    lower = refl;
    typed = h.typed;
    keeps = refl;
  }
  plain_sound (Mark s) behind behind' g named h =
      record { known = h.known; within = refl; lower = refl; typed = h.typed; keeps = h.keeps }
  plain_sound (Clear s) behind behind' g named h =
      record { known = h.known; within = refl; lower = refl; typed = h.typed; keeps = h.keeps }
  plain_sound (Keep s) behind behind' g named h =
      record { known = h.known; within = refl; lower = refl; typed = h.typed; keeps = h.keeps }
  plain_sound (Emit e) behind behind' g named h =
      record { known = h.known; within = refl; lower = refl; typed = h.typed; keeps = h.keeps }
  plain_sound (Send e) behind behind' g named h =
      record { known = h.known; within = refl; lower = refl; typed = h.typed; keeps = h.keeps }
  plain_sound (Home s) behind behind' g named h =
      record { known = h.known; within = refl; lower = refl; typed = h.typed; keeps = h.keeps }
  plain_sound Play behind behind' g named h =
      record { known = refl; within = refl; lower = refl; typed = refl; keeps = refl }
  plain_sound Begin behind behind' g named h =
      record { known = refl; within = refl; lower = refl; typed = refl; keeps = refl }
  plain_sound Pass behind behind' g named h =
      record { known = refl; within = refl; lower = refl; typed = refl; keeps = refl }
  plain_sound (Call q tag) behind behind' g named h = record {
    known =
        and_from (nat_lt (m q) n) (note_known Now (note_by m tag)) (lt-ltb (m q) n (below q named.0))
        (note_there tag named.1);
    within = refl;
    lower = lt-ltb (m q) (m p) (lower q named.0 (ltb-true q p h.lower));
    typed = refl;
    keeps = refl;
  }
  plain_sound (Visit q tag) behind behind' g named h = record {
    known =
        and_from (nat_lt (m q) n) (note_known Now (note_by m tag)) (lt-ltb (m q) n (below q named.0))
        (note_there tag named.1);
    within = refl;
    lower = refl;
    typed = refl;
    keeps = refl;
  }
  plain_sound (SendTo e t q) behind behind' g named h = record {
    known =
        and_from (is_event K e) (is_state K t && nat_lt (m q) n)
        (first_true (is_event K e) (is_state K t && is_proc K q) h.known)
        (and_from (is_state K t) (nat_lt (m q) n)
        (first_true (is_state K t) (is_proc K q) (second_true (is_event K e) (is_state K t && is_proc K q) h.known))
        (lt-ltb (m q) n (below q named)));
    within = refl;
    lower = refl;
    typed = h.typed;
    keeps = refl;
  }
  plain_sound (Unless k c) behind behind' g named h = absurd cc
  plain_sound (Skip k) behind behind' g named h = absurd cc
  plain_sound (Ret r) behind behind' g named h = absurd cc

  -- ---- how many are kept

  -- a marked place of the rest leads to what is kept
  abbrev pub AllBelow : List Instr → List Bool → Type 0
  AllBelow is bs = (k : ℕ) → k < length is → IsMarked bs k → count k (keeps bs (straight is)) < length (smaller m bs is)

  -- a skip that is kept, or what it leads to
  skip_below : (y : Instr) (is : List Instr) (bs : List Bool) (j : ℕ) (idle : Bool)
      → count j (keeps bs (straight is)) < length (smaller m bs is)
      → 0 < length (put_if (not idle) y (smaller m bs is))
  skip_below y is bs j true h = omega (arith, h)
  skip_below y is bs j false h = omega arith

  -- something is kept from a reached instruction on
  first_below : (x y : Instr) (is : List Instr) (bs : List Bool) → Kind x y → IsSound K p (length is + 0) x
      → AreSound K p 0 is
      → Ended (x ∷ is) → AllBelow is bs → Lands (threaded y (slides (map folded is))) bs
      → 0 < length (put_if (not (is_idle (threaded y (slides (map folded is))) (keeps bs (straight is))))
      (recounted m (threaded y (slides (map folded is))) (keeps bs (straight is))) (smaller m bs is))
  first_below x y is bs (Plain _ g) s sound ends later l =
      let known = plain m x g in
      let mask = keeps bs (straight is) in
      let out = smaller m bs is in
      subst (λ z. 0 < length (put_if (not (is_idle z mask)) (recounted m z mask) out))
      (sym (known.threads (slides (map folded is))))
      (subst (λ i. 0 < length (put_if (not i) (recounted m x mask) out)) (sym (known.keeps mask)) (omega arith))
  first_below x y is bs (Return r) s sound ends later l = omega arith
  first_below x y is bs (TestKind k c) s sound ends later l = omega arith
  first_below x y is bs (Jump _ k jumps costs inside no_ret) s sound ends later l =
      let j = k + slice_index (slides (map folded is)) k in
      let more = more_comes x is ends no_ret in
      let h : k < length is + 0 = inside (length is + 0) (omega (arith, more)) s.within in
      let h' : k < length is = omega (arith, h) in
      skip_below (Skip (count j (keeps bs (straight is)))) is bs j (count j (keeps bs (straight is)) == 0)
      (later j (slid_within K p is sound (ended_rest x is ends) k h') l)

  -- each marked place leads to what is kept
  pub counts_below : (is : List Instr) (bs : List Bool) → AreClosed R bs (straight is) → AreSound K p 0 is → Ended is
      → AllBelow is bs
  counts_below [] [] closed sound ends k h l = absurd (omega arith)
  counts_below [] (b ∷ bs) closed sound ends k h l = absurd closed
  counts_below (x ∷ is) [] closed sound ends k h l = absurd closed
  counts_below (x ∷ is) (b ∷ bs) closed sound ends (suc k) h l =
      below_put (b && not (is_idle (threaded (folded x) (slides (map folded is))) (keeps bs (straight is))))
      (recounted m (threaded (folded x) (slides (map folded is))) (keeps bs (straight is)))
      (count k (keeps bs (straight is))) (smaller m bs is)
      (counts_below is bs closed.1 sound.1 (ended_rest x is ends) k (omega (arith, h)) l)
  counts_below (x ∷ is) (true ∷ bs) closed sound ends zero h l =
      first_below x (folded x) is bs (kind x) sound.0 sound.1 ends
      (counts_below is bs closed.1 sound.1 (ended_rest x is ends)) (closed.0 refl).0
  counts_below (x ∷ is) (false ∷ bs) closed sound ends zero h l = absurd (cc l)

  -- ---- sound

  -- an instruction that may be kept
  put_sound : (b : Bool) (y : Instr) (out : List Instr) → (b ≡ true → IsSound Now (m p) (length out + 0) y)
      → AreSound Now (m p) 0 out → AreSound Now (m p) 0 (put_if b y out)
  put_sound true y out h rest = (h refl, rest)
  put_sound false y out h rest = rest

  -- a test is sound
  test_sound : (k k' : ℕ) (c : Cond) (behind behind' : ℕ) → IsSound K p behind (Unless k c) → k' < behind'
      → IsSound Now (m p) behind' (Unless k' c)
  unfolding instr_known skips_within calls_lower instr_typed instr_keeps
  test_sound k k' c behind behind' s h = record {
    known = cond_same c ∙ s.known;
    within = lt-ltb k' behind' h;
    lower = refl;
    typed = cond_typed_same c ∙ s.typed;
    keeps = cond_keeps_same c ∙ s.keeps;
  }

  -- a skip is sound
  skip_sound : (k' behind' : ℕ) → k' < behind' → IsSound Now (m p) behind' (Skip k')
  unfolding instr_known skips_within calls_lower instr_typed instr_keeps
  skip_sound k' behind' h =
      record { known = refl; within = lt-ltb k' behind' h; lower = refl; typed = refl; keeps = refl }

  -- a return is sound
  ret_sound : (r behind' : ℕ) → IsSound Now (m p) behind' (Ret r)
  unfolding instr_known skips_within calls_lower instr_typed instr_keeps
  ret_sound r behind' = record { known = refl; within = refl; lower = refl; typed = refl; keeps = refl }

  -- a test passes over fewer than come after it
  test_inside : (k : ℕ) (c : Cond) (behind : ℕ) → IsSound K p behind (Unless k c) → k < behind
  unfolding skips_within
  test_inside k c behind s = ltb-true k behind s.within

  -- no test returns
  test_goes : (k : ℕ) (c : Cond) → is_ret (Unless k c) ≡ false
  unfolding is_ret
  test_goes k c = refl

  -- a reached instruction is sound
  first_sound : (x y : Instr) (is : List Instr) (bs : List Bool) → Kind x y → IsSound K p (length is + 0) x
      → AreSound K p 0 is
      → Ended (x ∷ is) → AllBelow is bs → Lands (threaded y (slides (map folded is))) bs
      → NamesIn R (threaded y (slides (map folded is)))
      → IsSound Now (m p) (length (smaller m bs is) + 0) (recounted m (threaded y (slides (map folded is)))
      (keeps bs (straight is)))
  first_sound x y is bs (Plain _ g) s sound ends later l named =
      let known = plain m x g in
      let mask = keeps bs (straight is) in
      let behind = length (smaller m bs is) + 0 in
      subst (λ z. NamesIn R z → IsSound Now (m p) behind (recounted m z mask))
      (sym (known.threads (slides (map folded is))))
      (λ named. subst (λ z. IsSound Now (m p) behind z) (sym (known.counts mask))
      (plain_sound x (length is + 0) behind g named s)) named
  first_sound x y is bs (Return r) s sound ends later l named = ret_sound r (length (smaller m bs is) + 0)
  first_sound x y is bs (TestKind k c) s sound ends later l named =
      let j = k + slice_index (slides (map folded is)) k in
      let h : k < length is + 0 = test_inside k c (length is + 0) s in
      let h' : k < length is = omega (arith, h) in
      let b = later j (slid_within K p is sound (ended_rest x is ends) k h') l.1 in
      test_sound k (count j (keeps bs (straight is))) c (length is + 0) (length (smaller m bs is) + 0) s
      (omega (arith, b))
  first_sound x y is bs (Jump _ k jumps costs inside no_ret) s sound ends later l named =
      let j = k + slice_index (slides (map folded is)) k in
      let more = more_comes x is ends no_ret in
      let h : k < length is + 0 = inside (length is + 0) (omega (arith, more)) s.within in
      let h' : k < length is = omega (arith, h) in
      let b = later j (slid_within K p is sound (ended_rest x is ends) k h') l in
      skip_sound (count j (keeps bs (straight is))) (length (smaller m bs is) + 0) (omega (arith, b))

  -- the first of two tests
  first_of_both : (a b : Bool) → (a && b) ≡ true → a ≡ true
  first_of_both true b e = refl
  first_of_both false b e = absurd (cc e)

  -- the instructions of the smaller procedure are sound
  pub smaller_sound : (is : List Instr) (bs : List Bool) → AreClosed R bs (straight is) → AreSound K p 0 is → Ended is
      → AreSound Now (m p) 0 (smaller m bs is)
  smaller_sound [] [] closed sound ends = tt
  smaller_sound [] (b ∷ bs) closed sound ends = absurd closed
  smaller_sound (x ∷ is) [] closed sound ends = absurd closed
  smaller_sound (x ∷ is) (b ∷ bs) closed sound ends =
      let y = threaded (folded x) (slides (map folded is)) in
      let mask = keeps bs (straight is) in
      put_sound (b && not (is_idle y mask)) (recounted m y mask) (smaller m bs is)
      (λ e. let c = closed.0 (first_of_both b (not (is_idle y mask)) e) in
      first_sound x (folded x) is bs (kind x) sound.0 sound.1 ends
      (counts_below is bs closed.1 sound.1 (ended_rest x is ends)) c.0 c.1)
      (smaller_sound is bs closed.1 sound.1 (ended_rest x is ends))

  -- ---- the last instruction

  -- an instruction that may be kept before others
  put_ends : (b : Bool) (y : Instr) (out : List Instr) → (b ≡ true → length out ≤ 0 → is_ret y ≡ true) → Ended out
      → Ended (put_if b y out)
  put_ends true y [] h ends = h refl (omega arith)
  put_ends true y (z ∷ out) h ends = ends
  put_ends false y out h ends = ends

  -- where nothing is kept after a reached instruction it returns
  first_ends : (x y : Instr) (is : List Instr) (bs : List Bool) → Kind x y → IsSound K p (length is + 0) x
      → AreSound K p 0 is
      → Ended (x ∷ is) → AllBelow is bs → Lands (threaded y (slides (map folded is))) bs → length (smaller m bs is) ≤ 0
      → is_ret (recounted m (threaded y (slides (map folded is))) (keeps bs (straight is))) ≡ true
  unfolding is_ret
  first_ends x y is bs (Plain _ g) s sound ends later l none =
      let known = plain m x g in
      let l' = known.lands bs (subst (λ z. Lands z bs) (known.threads (slides (map folded is))) l) in
      absurd (omega (arith, none, later 0 (more_comes x is ends ((other m x g).no_ret)) l'))
  first_ends x y is bs (Return r) s sound ends later l none = refl
  first_ends x y is bs (TestKind k c) s sound ends later l none =
      absurd (omega (arith, none, later 0 (more_comes x is ends (test_goes k c)) l.0))
  first_ends x y is bs (Jump _ k jumps costs inside no_ret) s sound ends later l none =
      let j = k + slice_index (slides (map folded is)) k in
      let more = more_comes x is ends no_ret in
      let h : k < length is + 0 = inside (length is + 0) (omega (arith, more)) s.within in
      let h' : k < length is = omega (arith, h) in
      absurd (omega (arith, none, later j (slid_within K p is sound (ended_rest x is ends) k h') l))

  -- the last instruction of the smaller procedure returns
  pub smaller_ends : (is : List Instr) (bs : List Bool) → AreClosed R bs (straight is) → AreSound K p 0 is → Ended is
      → Ended (smaller m bs is)
  smaller_ends [] [] closed sound ends = tt
  smaller_ends [] (b ∷ bs) closed sound ends = absurd closed
  smaller_ends (x ∷ is) [] closed sound ends = absurd closed
  smaller_ends (x ∷ is) (b ∷ bs) closed sound ends =
      let y = threaded (folded x) (slides (map folded is)) in
      let mask = keeps bs (straight is) in
      put_ends (b && not (is_idle y mask)) (recounted m y mask) (smaller m bs is)
      (λ e none. first_ends x (folded x) is bs (kind x) sound.0 sound.1 ends
      (counts_below is bs closed.1 sound.1 (ended_rest x is ends))
      (closed.0 (first_of_both b (not (is_idle y mask)) e)).0 none)
      (smaller_ends is bs closed.1 sound.1 (ended_rest x is ends))

  -- a list that isn't empty ends in a return where it is ended
  ended_ends : (is : List Instr) → Ended is → 0 < length is → EndsInRet is
  ended_ends [] h more = absurd (omega arith)
  ended_ends (x ∷ is) h more = h

  -- a procedure ends
  proc_ended : (is : List Instr) → EndsInRet is → Ended is × (0 < length is)
  proc_ended [] h = absurd h
  proc_ended (x ∷ is) h = (h, omega arith)

  -- the smaller procedure is one
  pub smaller_proc : (is : List Instr) (bs : List Bool) → AreClosed R bs (straight is) → IsMarked bs 0 → IsProc K p is
      → IsProc Now (m p) (smaller m bs is)
  smaller_proc is bs closed first proc =
      let e = proc_ended is proc.ends in
      record {
        sound = smaller_sound is bs closed proc.sound e.0;
        ends = ended_ends (smaller m bs is) (smaller_ends is bs closed proc.sound e.0)
            (let b = counts_below is bs closed proc.sound e.0 0 e.1 first in omega (arith, b));
      }

-- no smaller procedure has more instructions
pub smaller_length : (m : ℕ → ℕ) (is : List Instr) (bs : List Bool) → length (smaller m bs is) ≤ length is
smaller_length m [] [] = omega arith
smaller_length m [] (b ∷ bs) = omega arith
smaller_length m (x ∷ is) [] = omega arith
smaller_length m (x ∷ is) (b ∷ bs) =
    let y = threaded (folded x) (slides (map folded is)) in
    let mask = keeps bs (straight is) in
    omega (arith, put_length (b && not (is_idle y mask)) (recounted m y mask) (smaller m bs is), smaller_length m is bs)
  where
    put_length : (b : Bool) (y : Instr) (out : List Instr) → length (put_if b y out) ≤ suc (length out)
    put_length true y out = omega arith
    put_length false y out = omega arith
