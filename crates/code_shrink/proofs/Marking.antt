-- Marking the reached places of a procedure from its first place on.
use Rattle.std.proofs.Common.{◌≡◌, ◌<◌, ◌≤◌, ◌⊎◌, inl, inr, ⊎_elim, ℕ, zero, suc, ◌+◌, Bool}
use Rattle.std.proofs.Common.{true, false, List, [], ◌∷◌, length, map, replicate, get_or, Some}
use Rattle.std.proofs.Common.{refl, sym, ap, ◌∙◌, subst, arith}
use Rattle.std.specs.Prelude.{slice_get, slice_index_or, slice_set}
use Rattle.code_language.specs.Instrs.{Instr, Assign, Emit, Mark, Clear, Keep, Unless, Skip, Call, Visit, Send}
use Rattle.code_language.specs.Instrs.{SendTo, Play, Home, Begin, Pass, Ret}
use Rattle.code_shrink.specs.Neat.{IsAfter, Comes, First, After}
use Rattle.code_shrink.specs.Whole.{AreReached}
use Rattle.code_shrink.specs.Ways.{way_of, Marking}
use Rattle.code_shrink.specs.declared.places.Way.{Way}
use Rattle.code_shrink.specs.declared.places.Way.TheVariants as ways
use Rattle.code_shrink.proofs.Tidy.{within}

-- every reached place is marked in the end
all_marked : (t : List Instr) (bs : List Bool) → Marking t (length t) bs → (i : ℕ) → i < length t → Comes t i
    → slice_index_or bs i false ≡ true
all_marked t bs h i l First = h.first l
all_marked t bs h i l (After j _ x c e a) =
    let there = within t j x e in h.closed j i x there (all_marked t bs h j there c) e a l

-- so the flags are right in the end
pub marking_done : (t : List Instr) (bs : List Bool) → Marking t (length t) bs → AreReached t bs
marking_done t bs h = record { size = h.size; sound = h.sound; complete = λ i l c. all_marked t bs h i l c }

-- the same number, or another one
same_or_not : (i j : ℕ) → (i ≡ j) ⊎ ((i ≡ j) → ⊥)
same_or_not zero zero = inl refl
same_or_not zero (suc j) = inr (λ e. cc e)
same_or_not (suc i) zero = inr (λ e. cc e)
same_or_not (suc i) (suc j) =
    ⊎_elim (λ (e : i ≡ j). inl (ap suc e)) (λ (h : (i ≡ j) → ⊥). inr (λ e. h (cc e))) (same_or_not i j)

-- a flag that was set is set
pub still_set : (bs : List Bool) (j k : ℕ) → slice_index_or bs k false ≡ true → slice_index_or (slice_set bs j true) k false ≡ true
still_set [] j k h = absurd (cc h)
still_set (b ∷ bs) zero zero h = refl
still_set (b ∷ bs) zero (suc k) h = h
still_set (b ∷ bs) (suc j) zero h = h
still_set (b ∷ bs) (suc j) (suc k) h = still_set bs j k h

-- a flag that is set now was set, or is the new one
pub was_set : (bs : List Bool) (j k : ℕ) → slice_index_or (slice_set bs j true) k false ≡ true
    → (slice_index_or bs k false ≡ true) ⊎ (k ≡ j)
was_set [] j k h = absurd (cc h)
was_set (b ∷ bs) zero zero h = inr refl
was_set (b ∷ bs) zero (suc k) h = inl h
was_set (b ∷ bs) (suc j) zero h = inl h
was_set (b ∷ bs) (suc j) (suc k) h =
    ⊎_elim (λ (e : slice_index_or bs k false ≡ true). inl e) (λ (e : k ≡ j). inr (ap suc e)) (was_set bs j k h)

-- the new flag is set where it is there
pub now_set : (bs : List Bool) (j : ℕ) → j < length bs → slice_index_or (slice_set bs j true) j false ≡ true
now_set [] j h = absurd (omega arith)
now_set (b ∷ bs) zero h = refl
now_set (b ∷ bs) (suc j) h = now_set bs j (omega (arith, h))

-- as many flags
pub set_size : (bs : List Bool) (j : ℕ) → length (slice_set bs j true) ≡ length bs
set_size [] j = refl
set_size (b ∷ bs) zero = refl
set_size (b ∷ bs) (suc j) = ap suc (set_size bs j)

-- another reached place, not below i, may be marked
pub mark_more : (t : List Instr) (i j : ℕ) (bs : List Bool) → Marking t i bs → i ≤ j → Comes t j
    → Marking t i (slice_set bs j true)
mark_more t i j bs h le c = record {
  size = set_size bs j ∙ h.size;
  sound = λ k s. ⊎_elim (λ (e : slice_index_or bs k false ≡ true). h.sound k e)
      (λ (e : k ≡ j). subst (λ n. Comes t n) (sym e) c) (was_set bs j k s);
  first = λ l. still_set bs j 0 (h.first l);
  closed = λ n k x l s e a w. ⊎_elim
      (λ (q : slice_index_or bs n false ≡ true). still_set bs j k (h.closed n k x l q e a w))
      (λ (q : n ≡ j). absurd (omega (arith, l, le, q))) (was_set bs j n s);
}

-- a place after which all is marked is done
pub place_done : (t : List Instr) (i : ℕ) (bs : List Bool) → Marking t i bs
    → ((k : ℕ) (x : Instr) → slice_index_or bs i false ≡ true → slice_get t i ≡ Some x → IsAfter i x k → k < length t
    → slice_index_or bs k false ≡ true) → Marking t (i + 1) bs
place_done t i bs h all = record {
  size = h.size;
  sound = h.sound;
  first = h.first;
  closed = λ j k x l s e a w. ⊎_elim
      (λ (q : j ≡ i). all k x (subst (λ n. slice_index_or bs n false ≡ true) q s)
      (subst (λ n. slice_get t n ≡ Some x) q e) (subst (λ n. IsAfter n x k) q a) w)
      (λ (q : (j ≡ i) → ⊥). h.closed j k x (below j i l q) s e a w) (same_or_not j i);
}
  where
    below : (j i : ℕ) → j < i + 1 → ((j ≡ i) → ⊥) → j < i
    below zero zero l q = absurd (q refl)
    below zero (suc i) l q = omega arith
    below (suc j) zero l q = absurd (omega (arith, l))
    below (suc j) (suc i) l q = let m = below j i (omega (arith, l)) (λ e. q (ap suc e)) in omega (arith, m)

-- the flags once what comes after a place is marked
abbrev pub marked_after : List Bool → ℕ → Way → List Bool
marked_after bs i ways.On = slice_set bs (i + 1) true
marked_after bs i (ways.Tests k) = slice_set (slice_set bs (i + 1) true) (i + 1 + k) true
marked_after bs i (ways.Skips k) = slice_set bs (i + 1 + k) true
marked_after bs i ways.Returns = bs

-- one place that comes after is marked, and no other comes after
one_after : (t : List Instr) (i j : ℕ) (x : Instr) (bs : List Bool) → Marking t i bs → slice_index_or bs i false ≡ true
    → slice_get t i ≡ Some x → i ≤ j → IsAfter i x j → ((k : ℕ) → IsAfter i x k → k ≡ j)
    → Marking t (i + 1) (slice_set bs j true)
one_after t i j x bs h s e le a only =
    let more = mark_more t i j bs h le (After i j x (h.sound i s) e a) in
    place_done t i (slice_set bs j true) more (λ k y s' e' a' w.
    let same : y ≡ x = cc (e, e') in
    let q = only k (subst (λ z. IsAfter i z k) same a') in
    let there : j < length bs = omega (arith, w, q, h.size) in
    subst (λ n. slice_index_or (slice_set bs j true) n false ≡ true) (sym q) (now_set bs j there))

-- what comes after a marked place, by the way of its instruction, is marked
pub after_way : (t : List Instr) (i : ℕ) (x : Instr) (bs : List Bool) → Marking t i bs → slice_index_or bs i false ≡ true
    → slice_get t i ≡ Some x → Marking t (i + 1) (marked_after bs i (way_of x))
after_way t i (Assign v x) bs h r g = one_after t i (i + 1) (Assign v x) bs h r g (omega arith) refl (λ k a. a)
after_way t i (Emit e) bs h r g = one_after t i (i + 1) (Emit e) bs h r g (omega arith) refl (λ k a. a)
after_way t i (Mark s) bs h r g = one_after t i (i + 1) (Mark s) bs h r g (omega arith) refl (λ k a. a)
after_way t i (Clear s) bs h r g = one_after t i (i + 1) (Clear s) bs h r g (omega arith) refl (λ k a. a)
after_way t i (Keep s) bs h r g = one_after t i (i + 1) (Keep s) bs h r g (omega arith) refl (λ k a. a)
after_way t i (Call p tag) bs h r g = one_after t i (i + 1) (Call p tag) bs h r g (omega arith) refl (λ k a. a)
after_way t i (Visit p tag) bs h r g = one_after t i (i + 1) (Visit p tag) bs h r g (omega arith) refl (λ k a. a)
after_way t i (Send e) bs h r g = one_after t i (i + 1) (Send e) bs h r g (omega arith) refl (λ k a. a)
after_way t i (SendTo e s p) bs h r g = one_after t i (i + 1) (SendTo e s p) bs h r g (omega arith) refl (λ k a. a)
after_way t i Play bs h r g = one_after t i (i + 1) Play bs h r g (omega arith) refl (λ k a. a)
after_way t i (Home s) bs h r g = one_after t i (i + 1) (Home s) bs h r g (omega arith) refl (λ k a. a)
after_way t i Begin bs h r g = one_after t i (i + 1) Begin bs h r g (omega arith) refl (λ k a. a)
after_way t i Pass bs h r g = one_after t i (i + 1) Pass bs h r g (omega arith) refl (λ k a. a)
after_way t i (Skip n) bs h r g = one_after t i (i + 1 + n) (Skip n) bs h r g (omega arith) refl (λ k a. a)
after_way t i (Ret r) bs h u g = place_done t i bs h (λ k y s' e' a w.
    let same : y ≡ Ret r = cc (g, e') in absurd (subst (λ z. IsAfter i z k) same a))
after_way t i (Unless n c) bs h s g =
    let x = Unless n c in
    let reached = h.sound i s in
    let one = mark_more t i (i + 1) bs h (omega arith) (After i (i + 1) x reached g (inl refl)) in
    let bs1 = slice_set bs (i + 1) true in
    let two = mark_more t i (i + 1 + n) bs1 one (omega arith) (After i (i + 1 + n) x reached g (inr refl)) in
    let bs2 = slice_set bs1 (i + 1 + n) true in
    place_done t i bs2 two (λ k y s' e' a w.
    let same : y ≡ x = cc (g, e') in
    ⊎_elim
    (λ (q : k ≡ i + 1).
    let there : i + 1 < length bs = omega (arith, w, q, h.size) in
    still_set bs1 (i + 1 + n) k
    (subst (λ n. slice_index_or bs1 n false ≡ true) (sym q) (now_set bs (i + 1) there)))
    (λ (q : k ≡ i + 1 + n).
    let size = set_size bs (i + 1) in
    let there : i + 1 + n < length bs1 = omega (arith, w, q, h.size, size) in
    subst (λ n. slice_index_or bs2 n false ≡ true) (sym q) (now_set bs1 (i + 1 + n) there))
    (subst (λ z. IsAfter i z k) same a))

-- ---- the loop over the places

-- no flag of these is set
none_marked : (n j : ℕ) → slice_index_or (replicate n false) j false ≡ true → ⊥
none_marked zero j h = cc h
none_marked (suc n) zero h = cc h
none_marked (suc n) (suc j) h = none_marked n j h

-- there are so many of them
none_size : (n : ℕ) → length (replicate n false) ≡ n
none_size zero = refl
none_size (suc n) = ap suc (none_size n)

-- at first place 0 alone is marked
pub first_marked : (t : List Instr) (n : ℕ) → n ≡ length t → Marking t 0 (slice_set (replicate n false) 0 true)
first_marked t n e = record {
  size = set_size (replicate n false) 0 ∙ none_size n ∙ e;
  sound = λ j h. ⊎_elim (λ (r : slice_index_or (replicate n false) j false ≡ true). absurd (none_marked n j r))
      (λ (q : j ≡ 0). subst (λ i. Comes t i) (sym q) First) (was_set (replicate n false) 0 j h);
  first = λ l. now_set (replicate n false) 0 (omega (arith, l, e, none_size n));
  closed = λ j k x l s g a w. absurd (omega (arith, l));
}

-- a place that isn't marked is passed over
pub not_marked : (t : List Instr) (i : ℕ) (bs : List Bool) → Marking t i bs → slice_index_or bs i false ≡ false
    → Marking t (i + 1) bs
not_marked t i bs h e = place_done t i bs h (λ k x s g a w. absurd (cc (e, s)))

-- the instruction that has a way
pub with_way : (t : List Instr) (i : ℕ) (d : Way) → i < length (map way_of t)
    → (x : Instr) × (slice_get t i ≡ Some x) × (way_of x ≡ get_or (map way_of t) i d)
with_way [] i d lt = absurd (omega (arith, lt))
with_way (x ∷ t) zero d lt = (x, refl, refl)
with_way (x ∷ t) (suc i) d lt = with_way t i d (omega (arith, lt))
