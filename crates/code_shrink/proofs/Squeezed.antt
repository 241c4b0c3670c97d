-- The smaller procedure does what the procedure does.
use Rattle.std.proofs.Common.{◌≡◌, ℕ, zero, suc, ◌+◌, Bool, true, false, List, [], ◌∷◌, map, drop}
use Rattle.std.proofs.Common.{refl, sym, ◌∙◌, subst, arith}
use Rattle.std.specs.Prelude.{slice_index, ◌==◌, ◌&&◌, not}
use Rattle.std.proofs.lemmas.Bool.Decides.{nat_tests}
use Rattle.code_language.specs.Instrs.{Instr, Assign, Emit, Mark, Clear, Keep, Unless, Skip, Call, Visit, Send}
use Rattle.code_language.specs.Instrs.{SendTo, Play, Home, Begin, Pass, Ret}
use Rattle.code_language.proofs.Tails.{drop_none}
use Rattle.code_shrink.specs.Follows.{renamed, NamesIn, goes_on, Slides, Skips, Follows, Nothing, Goes, Returns, Tests}
use Rattle.code_shrink.specs.Follows.{Passes, Jumps}
use Rattle.code_shrink.specs.Smaller.{folded, slide_from, slides, threaded, straight, one_if, count, is_idle, keeps}
use Rattle.code_shrink.specs.Smaller.{recounted, put_if, smaller}
use Rattle.code_shrink.proofs.Closed.{IsMarked, Lands, AreClosed}
use Rattle.code_shrink.proofs.InstrKinds.{Kind, Plain, Return, Tests as TestKind, Jump, kind}

-- what is known of an instruction that goes on
pub record IsPlain (m : ℕ → ℕ) (x : Instr) : Type 0 where
  pub threads : (ls : List ℕ) → threaded x ls ≡ x
  pub stays : (ls : List ℕ) → slide_from x ls ≡ 0
  pub keeps : (bs : List Bool) → is_idle x bs ≡ false
  pub counts : (bs : List Bool) → recounted m x bs ≡ renamed m x
  pub lands : (bs : List Bool) → Lands x bs → IsMarked bs 0

-- it is known
pub plain : (m : ℕ → ℕ) (x : Instr) → goes_on x ≡ true → IsPlain m x
unfolding goes_on renamed
plain m (Assign v x) h =
    record { threads = λ ls. refl; stays = λ ls. refl; keeps = λ bs. refl; counts = λ bs. refl; lands = λ bs l. l }
plain m (Emit e) h =
    record { threads = λ ls. refl; stays = λ ls. refl; keeps = λ bs. refl; counts = λ bs. refl; lands = λ bs l. l }
plain m (Mark s) h =
    record { threads = λ ls. refl; stays = λ ls. refl; keeps = λ bs. refl; counts = λ bs. refl; lands = λ bs l. l }
plain m (Clear s) h =
    record { threads = λ ls. refl; stays = λ ls. refl; keeps = λ bs. refl; counts = λ bs. refl; lands = λ bs l. l }
plain m (Keep s) h =
    record { threads = λ ls. refl; stays = λ ls. refl; keeps = λ bs. refl; counts = λ bs. refl; lands = λ bs l. l }
plain m (Unless k c) h = absurd cc
plain m (Skip k) h = absurd cc
plain m (Call p tag) h =
    record { threads = λ ls. refl; stays = λ ls. refl; keeps = λ bs. refl; counts = λ bs. refl; lands = λ bs l. l }
plain m (Visit p tag) h =
    record { threads = λ ls. refl; stays = λ ls. refl; keeps = λ bs. refl; counts = λ bs. refl; lands = λ bs l. l }
plain m (Send e) h =
    record { threads = λ ls. refl; stays = λ ls. refl; keeps = λ bs. refl; counts = λ bs. refl; lands = λ bs l. l }
plain m (SendTo e s p) h =
    record { threads = λ ls. refl; stays = λ ls. refl; keeps = λ bs. refl; counts = λ bs. refl; lands = λ bs l. l }
plain m Play h =
    record { threads = λ ls. refl; stays = λ ls. refl; keeps = λ bs. refl; counts = λ bs. refl; lands = λ bs l. l }
plain m (Home s) h =
    record { threads = λ ls. refl; stays = λ ls. refl; keeps = λ bs. refl; counts = λ bs. refl; lands = λ bs l. l }
plain m Begin h =
    record { threads = λ ls. refl; stays = λ ls. refl; keeps = λ bs. refl; counts = λ bs. refl; lands = λ bs l. l }
plain m Pass h =
    record { threads = λ ls. refl; stays = λ ls. refl; keeps = λ bs. refl; counts = λ bs. refl; lands = λ bs l. l }
plain m (Ret r) h = absurd cc

-- past an instruction that may be kept
pub past_put : (b : Bool) (y : Instr) (n : ℕ) (out : List Instr) → drop (one_if b n) (put_if b y out) ≡ drop n out
past_put true y n out = refl
past_put false y n out = refl

-- a number that is 0
pub is_zero : (n : ℕ) → (n == 0) ≡ true → n ≡ 0
is_zero n h = grind (arith, nat_tests)

module _ (R : ℕ → Bool) (m : ℕ → ℕ) where
  -- where the skip at the first place leads, the same is done, if that is so of the rest
  slid_first : (x y : Instr) (is ys : List Instr) → Kind x y
      → ((k : ℕ) → Follows R m (drop (k + slice_index (slides (map folded is)) k) is) ys → Follows R m (drop k is) ys)
      → Follows R m (drop (zero + slide_from y (slides (map folded is))) (x ∷ is)) ys → Follows R m (x ∷ is) ys
  slid_first x y is ys (Plain _ g) later h =
      let e : zero + slide_from x (slides (map folded is)) ≡ zero =
      omega (arith, (plain m x g).stays (slides (map folded is))) in
      subst (λ n. Follows R m (drop n (x ∷ is)) ys) e h
  slid_first x y is ys (Return r) later h =
      let e : zero + 0 ≡ zero = omega arith in subst (λ n. Follows R m (drop n (Ret r ∷ is)) ys) e h
  slid_first x y is ys (TestKind k c) later h =
      let e : zero + 0 ≡ zero = omega arith in subst (λ n. Follows R m (drop n (Unless k c ∷ is)) ys) e h
  slid_first x y is ys (Jump _ k jumps costs inside no_ret) later h =
      let e : zero + suc (k + slice_index (slides (map folded is)) k) ≡ suc
      (k + slice_index (slides (map folded is)) k) = omega arith in
      Passes (x ∷ is) (drop k is) ys (jumps is) (later k (subst (λ n. Follows R m (drop n (x ∷ is)) ys) e h))

  -- where skips lead, the same is done
  pub slid : (is : List Instr) (k : ℕ) (ys : List Instr)
      → Follows R m (drop (k + slice_index (slides (map folded is)) k) is) ys → Follows R m (drop k is) ys
  slid [] k ys h =
      subst (λ l. Follows R m l ys) (drop_none (k + slice_index (slides (map folded [])) k) ∙ sym (drop_none k)) h
  slid (x ∷ is) zero ys h = slid_first x (folded x) is ys (kind x) (λ k g. slid is k ys g) h
  slid (x ∷ is) (suc k) ys h =
      let e : suc k + slice_index (slides (map folded is)) k ≡ suc
      (k + slice_index (slides (map folded is)) k) = omega arith in
      slid is k ys (subst (λ n. Follows R m (drop n (x ∷ is)) ys) e h)

  -- what the smaller procedure has from the kept ones before a place on
  abbrev pub Does : List Instr → List Bool → ℕ → Type 0
  Does is bs k = Follows R m (drop k is) (drop (count k (keeps bs (straight is))) (smaller m bs is))

  -- the instructions of the rest do so at every marked place
  abbrev pub AllDo : List Instr → List Bool → Type 0
  AllDo is bs = (k : ℕ) → IsMarked bs k → Does is bs k

  -- a jump to a marked place past skips
  jump_to : (is : List Instr) (bs : List Bool) (k : ℕ) → AllDo is bs
      → IsMarked bs (k + slice_index (slides (map folded is)) k)
      → Follows R m (drop k is)
      (drop (count (k + slice_index (slides (map folded is)) k) (keeps bs (straight is))) (smaller m bs is))
  jump_to is bs k later l = slid is k
      (drop (count (k + slice_index (slides (map folded is)) k) (keeps bs (straight is))) (smaller m bs is))
      (later (k + slice_index (slides (map folded is)) k) l)

  -- a skip, by whether it passes over nothing
  skip_does : (x : Instr) (is : List Instr) (bs : List Bool) (k : ℕ) (idle : Bool)
      → ((rest : List Instr) → Slides (x ∷ rest) (drop k rest)) → AllDo is bs
      → IsMarked bs (k + slice_index (slides (map folded is)) k)
      → (count (k + slice_index (slides (map folded is)) k) (keeps bs (straight is)) == 0) ≡ idle
      → Follows R m (x ∷ is) (put_if (not idle)
      (Skip (count (k + slice_index (slides (map folded is)) k) (keeps bs (straight is)))) (smaller m bs is))
  skip_does x is bs k true jumps later l e =
      let none = is_zero (count (k + slice_index (slides (map folded is)) k) (keeps bs (straight is))) e in
      Passes (x ∷ is) (drop k is) (smaller m bs is) (jumps is)
      (subst (λ n. Follows R m (drop k is) (drop n (smaller m bs is))) none (jump_to is bs k later l))
  skip_does x is bs k false jumps later l e =
      let n = count (k + slice_index (slides (map folded is)) k) (keeps bs (straight is)) in
      Jumps (x ∷ is) (drop k is) (Skip n ∷ smaller m bs is) (drop n (smaller m bs is)) (jumps is)
      (Skips n (smaller m bs is)) (jump_to is bs k later l)

  -- a reached instruction does what it did, if the rest does
  first_does : (x y : Instr) (is : List Instr) (bs : List Bool) → Kind x y → AllDo is bs
      → Lands (threaded y (slides (map folded is))) bs → NamesIn R (threaded y (slides (map folded is)))
      → Follows R m (x ∷ is) (put_if (not (is_idle (threaded y (slides (map folded is))) (keeps bs (straight is))))
      (recounted m (threaded y (slides (map folded is))) (keeps bs (straight is))) (smaller m bs is))
  first_does x y is bs (Plain _ g) later l named =
      let known = plain m x g in
      let mask = keeps bs (straight is) in
      let out = smaller m bs is in
      subst (λ z. Lands z bs → NamesIn R z
      → Follows R m (x ∷ is) (put_if (not (is_idle z mask)) (recounted m z mask) out))
      (sym (known.threads (slides (map folded is))))
      (λ l named. subst (λ i. Follows R m (x ∷ is) (put_if (not i) (recounted m x mask) out)) (sym (known.keeps mask))
      (subst (λ z. Follows R m (x ∷ is) (z ∷ out)) (sym (known.counts mask))
      (Goes x is out g named (later 0 (known.lands bs l))))) l named
  first_does x y is bs (Return r) later l named = Returns r is (smaller m bs is)
  first_does x y is bs (TestKind k c) later l named =
      Tests k (count (k + slice_index (slides (map folded is)) k) (keeps bs (straight is))) c is (smaller m bs is)
      (later 0 l.0) (jump_to is bs k later l.1)
  first_does x y is bs (Jump _ k jumps costs inside no_ret) later l named =
      skip_does x is bs k (count (k + slice_index (slides (map folded is)) k)
      (keeps bs (straight is)) == 0) jumps later l refl

  -- at every marked place the smaller procedure does what the procedure does
  pub smaller_does : (is : List Instr) (bs : List Bool) → AreClosed R bs (straight is) → AllDo is bs
  smaller_does [] [] closed k l =
      subst (λ l. Follows R m l (drop (count k []) [])) (sym (drop_none k))
      (subst (λ l. Follows R m [] l) (sym (drop_none (count k []))) Nothing)
  smaller_does [] (b ∷ bs) closed k l = absurd closed
  smaller_does (x ∷ is) [] closed k l = absurd closed
  smaller_does (x ∷ is) (b ∷ bs) closed (suc k) l =
      subst (λ ys. Follows R m (drop k is) ys)
      (sym (past_put (b && not (is_idle (threaded (folded x) (slides (map folded is))) (keeps bs (straight is))))
      (recounted m (threaded (folded x) (slides (map folded is))) (keeps bs (straight is)))
      (count k (keeps bs (straight is))) (smaller m bs is)))
      (smaller_does is bs closed.1 k l)
  smaller_does (x ∷ is) (true ∷ bs) closed zero l =
      let h = closed.0 refl in
      first_does x (folded x) is bs (kind x) (smaller_does is bs closed.1) h.0 h.1
  smaller_does (x ∷ is) (false ∷ bs) closed zero l = absurd cc
