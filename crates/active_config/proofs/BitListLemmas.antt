-- Flags as bits of words: a bit that is read, one that is turned on or off, and the first that is on.
use Rattle.std.proofs.Common.{◌≡◌, ◌≢◌, ℕ, ◌+◌, ◌-◌, ◌*◌, ◌/◌, ◌%◌, ◌^◌, ◌≤◌, ◌<◌, List, length, replicate, get_or, set}
use Rattle.std.proofs.Common.{Some, None, Bool, true, false, sym, ap, ◌∙◌, subst, arith, inl, inr, ⊎_elim}
use Rattle.std.proofs.Common.{get_or-set_same, get_or-set_other, length-set, shr-shr, div-le_self, bit_and, bit_or, w64}
use Rattle.std.proofs.Math.ListN.{get_or-eq_default}
use Rattle.std.proofs.lemmas.Bool.{cases_lt}
use Rattle.std.proofs.lemmas.Bool.Decides.{nat_tests}
use Rattle.std.proofs.lemmas.List.{length-replicate, get_or-replicate, get_or_read}
use Rattle.std.proofs.lemmas.List.FromFn.{length-map-range_with_len, get_or-map-range_with_len, fill_by_all}
use Rattle.std.proofs.lemmas.Nat.Bits.{shr_and_one, bit_at-zero, bit_at_above, bit_at-trailing_zeros}
use Rattle.std.proofs.lemmas.Nat.Bits.{bit_at_set_same, bit_at_set_other, bit_at_clear_same, bit_at_clear_other}
use Rattle.std.specs.Prelude.{◌==◌, ◌⊎◌, slice_index}
use Rattle.std.specs.Int.{bit_at, bit_not, trailing_zeros}
use Rattle.active_config.specs.BitList.{has_bit, bits_of, first_on}
use Rattle.active_config.proofs.RangeLemmas.{find-none, find-first}
use Rattle.active_config.proofs.TableLemmas.{same_or_other}

-- there are as many flags as the count says
pub length-bits_of : (n : ℕ) (ws : List ℕ) → length (bits_of n ws) ≡ n
unfolding bits_of
length-bits_of n ws = length-map-range_with_len (has_bit ws) 0 n

-- a flag is its bit
pub get_or-bits_of : (n : ℕ) (ws : List ℕ) (i : ℕ) → i < n → get_or (bits_of n ws) i false ≡ has_bit ws i
unfolding bits_of
get_or-bits_of n ws i lt = get_or-map-range_with_len (has_bit ws) 0 n i i false lt (omega arith)

-- a bit of a word that is 0 is off
bit_of_zero : (ws : List ℕ) (i : ℕ) → slice_index ws (i / 64) ≡ 0 → has_bit ws i ≡ false
unfolding has_bit
bit_of_zero ws i e =
    let off : bit_at (slice_index ws (i / 64)) (i % 64) ≡ 0 = ap (λ w. bit_at w (i % 64)) e ∙ bit_at-zero (i % 64) in
    grind (arith, nat_tests)

-- words that are 0 have flags that are off
pub bits_of-zero : (n k : ℕ) → bits_of n (replicate {A = ℕ} k 0) ≡ replicate n false
unfolding bits_of
bits_of-zero n k =
    sym (fill_by_all (has_bit (replicate {A = ℕ} k 0)) (replicate n false) n false (length-replicate n false)
    (λ i lt. get_or-replicate n i false false lt ∙ sym (bit_of_zero (replicate {A = ℕ} k 0) i (zero_word (i / 64)))))
  where
    zero_word : (j : ℕ) → get_or (replicate {A = ℕ} k 0) j 0 ≡ 0
    zero_word j = ⊎_elim
        (λ lt. get_or-replicate k j 0 0 lt)
        (λ le. get_or-eq_default (replicate {A = ℕ} k 0) 0 (omega (arith, length-replicate {A = ℕ} k 0)))
        (cases_lt j k)

-- so the flags of a new list are off
pub bits_of-new : (n k : ℕ) (ws : List ℕ) → ws ≡ replicate k 0 → bits_of n ws ≡ replicate n false
bits_of-new n k ws e = ap (bits_of n) e ∙ bits_of-zero n k

-- the word has bit i as it is said, and every other bit as the old word
record Turns (old new i : ℕ) (b : Bool) : Type 0 where
  pub here : (bit_at new i == 1) ≡ b
  pub others : (k : ℕ) → k < 64 → k ≢ i → bit_at new k ≡ bit_at old k

-- words of which one has a bit turned have the flag of that bit set
bits_of-turned : (n : ℕ) (ws : List ℕ) (i new : ℕ) (b : Bool) → i < n → n ≤ 64 * length ws
    → Turns (slice_index ws (i / 64)) new (i % 64) b → bits_of n (set ws (i / 64) new) ≡ set (bits_of n ws) i b
unfolding bits_of has_bit
bits_of-turned n ws i new b lt fits h =
    sym (fill_by_all (has_bit (set ws (i / 64) new)) (set (bits_of n ws) i b) n false
    (length-set (bits_of n ws) i b ∙ length-bits_of n ws) (λ k low. at k low (same_or_other k i)))
  where
    word : i / 64 < length ws
    word = omega arith

    bit : (k w v : ℕ) → w ≡ v → (bit_at w (k % 64) == 1) ≡ (bit_at v (k % 64) == 1)
    bit k w v e = ap (λ u. bit_at u (k % 64) == 1) e

    other : (k : ℕ) → k ≢ i → (k / 64 ≡ i / 64) ⊎ (k / 64 ≢ i / 64)
        → has_bit (set ws (i / 64) new) k ≡ has_bit ws k
    other k ne (inl e) =
        let apart : k % 64 ≢ i % 64 = λ f. ne (omega arith) in
        ap (λ j. bit_at (get_or (set ws (i / 64) new) j 0) (k % 64) == 1) e
        ∙ bit k _ _ (get_or-set_same ws (i / 64) new 0 word)
        ∙ ap (λ d. d == 1) (h.others (k % 64) (omega arith) apart)
        ∙ ap (λ j. bit_at (get_or ws j 0) (k % 64) == 1) (sym e)
    other k ne (inr f) = bit k _ _ (get_or-set_other ws (i / 64) (k / 64) new 0 f)

    at : (k : ℕ) → k < n → (k ≡ i) ⊎ (k ≢ i) → get_or (set (bits_of n ws) i b) k false ≡ has_bit (set ws (i / 64) new) k
    at k low (inl e) =
        ap (λ j. get_or (set (bits_of n ws) i b) j false) e
        ∙ get_or-set_same (bits_of n ws) i b false (omega (arith, length-bits_of n ws))
        ∙ sym h.here
        ∙ sym (bit i _ _ (get_or-set_same ws (i / 64) new 0 word))
        ∙ ap (has_bit (set ws (i / 64) new)) (sym e)
    at k low (inr ne) =
        get_or-set_other (bits_of n ws) i k b false ne ∙ get_or-bits_of n ws k low ∙ sym (other k ne (same_or_other (k / 64) (i / 64)))

-- the word with a bit set
set_turns : (old i : ℕ) → i < 64 → Turns old (bit_or old (1 * 2 ^ i % 2 ^ 64)) i true
set_turns old i lt = record {
  here = let e = bit_at_set_same w64 old i lt in grind (arith, nat_tests);
  others = λ k low ne. bit_at_set_other w64 old i lt k ne;
}

-- the word with a bit cleared
clear_turns : (old i : ℕ) → i < 64 → Turns old (bit_and old (bit_not w64 (1 * 2 ^ i % 2 ^ 64))) i false
clear_turns old i lt = record {
  here = let e = bit_at_clear_same w64 old i lt in grind (arith, nat_tests);
  others = λ k low ne. bit_at_clear_other w64 old i lt k low ne;
}

-- the bits of a word from a place on are those of the word shifted down by as many places
bit_of_rest : (w at x : ℕ) → at ≤ x → x / 64 ≡ at / 64 → bit_at w (x % 64) ≡ bit_at (w / 2 ^ (at % 64)) (x - at)
bit_of_rest w at x le same =
    let sum : x % 64 ≡ at % 64 + (x - at) = omega arith in
    ap (bit_at w) sum ∙ ap (λ y. y % 2) (sym (shr-shr w (at % 64) (x - at)))

-- the lowest bit of what is left of a word stands in that word
lowest_within : (w at t : ℕ) → w < 2 ^ 64 → bit_at (w / 2 ^ (at % 64)) t ≡ 1 → (at + t) / 64 ≡ at / 64
lowest_within w at t fits one = ⊎_elim
    (λ lt. omega arith)
    (λ le. absurd (let off = bit_at_above w 64 (at % 64 + t) fits le in
    let same = ap (λ y. y % 2) (shr-shr w (at % 64) t) in omega arith))
    (cases_lt (at % 64 + t) 64)

-- every flag from one number on and before another is off
pub record Passed (v : List Bool) (from at : ℕ) : Type 0 where
  pub low : from ≤ at
  pub off : (x : ℕ) → from ≤ x → x < at → get_or v x false ≡ false

-- at the start that is none
pub passed_start : (v : List Bool) (from : ℕ) → Passed v from from
passed_start v from = record { low = omega arith; off = λ x lo hi. absurd (omega arith) }

-- at the end none of the flags is on
pub passed_all : (v : List Bool) (from at end : ℕ) → Passed v from at → end ≤ at → None ≡ first_on from end v
unfolding first_on
passed_all v from at end h le =
    sym (find-none (λ x. get_or v x false) from (end - from) (λ x lo hi. h.off x lo (omega arith)))

-- a flag that is on is the first one where all before it are off
passed_found : (v : List Bool) (from at end : ℕ) → Passed v from at → at < end → get_or v at false ≡ true
    → Some at ≡ first_on from end v
unfolding first_on
passed_found v from at end h lt on =
    let low = h.low in
    sym (find-first (λ x. get_or v x false) from (end - from) at low (omega arith) on (λ x lo hi. h.off x lo hi))

-- the list that a contract sees
module _ (n : ℕ) (ws : List ℕ) (v : List Bool) (view : bits_of n ws ≡ v) (fits : n ≤ 64 * length ws) where
  pub count_is : n ≡ length v
  count_is = sym (length-bits_of n ws) ∙ ap length view

  -- a flag has a word
  pub word_within : (i : ℕ) → i < length v → i / 64 < length ws
  word_within i lt = omega (arith, count_is)

  flag_is : (i : ℕ) → i < n → get_or v i false ≡ has_bit ws i
  flag_is i lt = ap (λ l. get_or l i false) (sym view) ∙ get_or-bits_of n ws i lt

  -- the test of a bit
  pub bit_read : (i w : ℕ) → i < length v → w ≡ get_or ws (i / 64) w
      → (bit_and (w / 2 ^ (i % 64)) 1 == 1) ≡ get_or v i false
  unfolding has_bit
  bit_read i w lt e =
      ap (λ d. d == 1) (shr_and_one w (i % 64))
      ∙ ap (λ u. bit_at u (i % 64) == 1) (get_or_read ws (i / 64) w (word_within i lt) e 0)
      ∙ sym (flag_is i (omega (arith, count_is)))

  -- the words where a bit is set
  pub bit_turned_on : (i w : ℕ) → i < length v → w ≡ get_or ws (i / 64) w
      → bits_of n (set ws (i / 64) (bit_or w (1 * 2 ^ (i % 64) % 2 ^ 64))) ≡ set v i true
  bit_turned_on i w lt e =
      let same = get_or_read ws (i / 64) w (word_within i lt) e 0 in
      bits_of-turned n ws i _ true (omega (arith, count_is)) fits
      (subst (λ u. Turns u (bit_or w (1 * 2 ^ (i % 64) % 2 ^ 64)) (i % 64) true) same (set_turns w (i % 64) (omega arith)))
      ∙ ap (λ l. set l i true) view

  -- the words where a bit is cleared
  pub bit_turned_off : (i w : ℕ) → i < length v → w ≡ get_or ws (i / 64) w
      → bits_of n (set ws (i / 64) (bit_and w (bit_not w64 (1 * 2 ^ (i % 64) % 2 ^ 64)))) ≡ set v i false
  bit_turned_off i w lt e =
      let same = get_or_read ws (i / 64) w (word_within i lt) e 0 in
      bits_of-turned n ws i _ false (omega (arith, count_is)) fits
      (subst (λ u. Turns u (bit_and w (bit_not w64 (1 * 2 ^ (i % 64) % 2 ^ 64))) (i % 64) false) same (clear_turns w (i % 64) (omega arith)))
      ∙ ap (λ l. set l i false) view

  -- the flag of a bit that is off is off, and there is none past the list
  off_of_bit : (x : ℕ) → has_bit ws x ≡ false → get_or v x false ≡ false
  off_of_bit x e = ⊎_elim
      (λ lt. flag_is x lt ∙ e)
      (λ le. get_or-eq_default v false (omega (arith, count_is)))
      (cases_lt x n)

  -- the flags of one word from a place on, before the lowest bit that is left of it, or all where none is left
  module _ (from at w : ℕ) (h : Passed v from at) (read : w ≡ get_or ws (at / 64) 0) where
    off_at : (x : ℕ) → at ≤ x → x / 64 ≡ at / 64 → bit_at (w / 2 ^ (at % 64)) (x - at) ≡ 0 → get_or v x false ≡ false
    unfolding has_bit
    off_at x le same zero =
        let off : bit_at (get_or ws (x / 64) 0) (x % 64) ≡ 0 =
        ap (λ j. bit_at (get_or ws j 0) (x % 64)) same ∙ ap (λ u. bit_at u (x % 64)) (sym read)
        ∙ bit_of_rest w at x le same ∙ zero in
        off_of_bit x (test_false _ off)
      where
        test_false : (d : ℕ) → d ≡ 0 → (d == 1) ≡ false
        test_false d e = grind (arith, nat_tests)

    -- past a word of which nothing is left
    pub passed_word : w / 2 ^ (at % 64) ≡ 0 → Passed v from ((at / 64 + 1) * 64)
    passed_word none = record {
      low = omega (arith, h.low);
      off = λ x lo hi. ⊎_elim
          (λ lt. h.off x lo lt)
          (λ le. off_at x le (omega arith) (ap (λ u. bit_at u (x - at)) none ∙ bit_at-zero (x - at)))
          (cases_lt x at);
    }

    -- the lowest bit that is left of a word is on, and every flag before it is off
    module _
        (t : ℕ) (word_fits : w < 2 ^ 64) (one : bit_at (w / 2 ^ (at % 64)) t ≡ 1)
        (below : (i : ℕ) → i < t → bit_at (w / 2 ^ (at % 64)) i ≡ 0) where
      passed_lowest : Passed v from (at + t)
      passed_lowest =
          let same = lowest_within w at t word_fits one in
          record {
            low = omega (arith, h.low);
            off = λ x lo hi. ⊎_elim
                (λ lt. h.off x lo lt)
                (λ le. off_at x le (omega arith) (below (x - at) (omega arith)))
                (cases_lt x at);
          }

      lowest_on : at + t < n → get_or v (at + t) false ≡ true
      unfolding has_bit
      lowest_on lt =
          let same = lowest_within w at t word_fits one in
          let place : at + t - at ≡ t = omega arith in
          let bit : bit_at (get_or ws ((at + t) / 64) 0) ((at + t) % 64) ≡ 1 =
          ap (λ j. bit_at (get_or ws j 0) ((at + t) % 64)) same ∙ ap (λ u. bit_at u ((at + t) % 64)) (sym read)
          ∙ bit_of_rest w at (at + t) (omega arith) same ∙ ap (bit_at (w / 2 ^ (at % 64))) place ∙ one in
          flag_is (at + t) lt ∙ test_true _ bit
        where
          test_true : (d : ℕ) → d ≡ 1 → (d == 1) ≡ true
          test_true d e = grind (arith, nat_tests)

    -- what the code makes of that bit: the answer where it is before the end, and none where it isn't
    module _
        (end : ℕ) (within : end ≤ length v) (word_fits : w < 2 ^ 64) (some : w / 2 ^ (at % 64) ≢ 0) where
      rest_fits : w / 2 ^ (at % 64) < 2 ^ 64
      rest_fits = omega (arith, div-le_self w (2 ^ (at % 64)))

      pub found_before : at + trailing_zeros w64 (w / 2 ^ (at % 64)) < end
          → Some (at + trailing_zeros w64 (w / 2 ^ (at % 64))) ≡ first_on from end v
      found_before lt =
          let is = bit_at-trailing_zeros w64 (w / 2 ^ (at % 64)) (omega arith) rest_fits in
          passed_found v from _ end (passed_lowest _ word_fits is.1 is.2) lt
          (lowest_on _ word_fits is.1 is.2 (omega (arith, count_is)))

      pub found_past : end ≤ at + trailing_zeros w64 (w / 2 ^ (at % 64)) → None ≡ first_on from end v
      found_past le =
          let is = bit_at-trailing_zeros w64 (w / 2 ^ (at % 64)) (omega arith) rest_fits in
          passed_all v from _ end (passed_lowest _ word_fits is.1 is.2) le
