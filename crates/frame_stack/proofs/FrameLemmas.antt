-- A row in which frames come first and empty places follow, and what its frames are.
use Rattle.std.proofs.Common.{◌≡◌, ℕ, zero, suc, ◌<◌, ◌≤◌, List, [], ◌∷◌, ◌++◌, length, take, replicate, set, get_or}
use Rattle.std.proofs.Common.{Option, Some, None, refl, sym, ap, arith}
use Rattle.std.proofs.lemmas.List.{length-take, length-take-le}
use Rattle.std.proofs.Math.Seq.{take-set-lt}
use Rattle.frame_stack.specs.declared.slot.Slot.{Slot}
use Rattle.frame_stack.specs.Chunks.{words_in, with_word, IsSlot, slots_in, frames_in, AreSlots, somes}

-- ---- rows

-- as many places as slots
pub somes_length : (ss : List Slot) → length (somes ss) ≡ length ss
somes_length [] = refl
somes_length (s ∷ ss) = ap suc (somes_length ss)

-- n empty places
pub nones_length : (n : ℕ) → length (replicate {A = Option Slot} n None) ≡ n
nones_length zero = refl
nones_length (suc n) = ap suc (nones_length n)

-- no slot is in empty places
none_in : (n : ℕ) → slots_in (replicate n None) ≡ []
none_in zero = refl
none_in (suc n) = refl

-- the slots before the empty places are those that were put there
pub slots_back : (ss : List Slot) (n : ℕ) → slots_in (somes ss ++ replicate n None) ≡ ss
slots_back [] n = none_in n
slots_back (s ∷ ss) n = ap (λ l. s ∷ l) (slots_back ss n)

-- a place of a slot holds it
pub filled_at : (ss : List Slot) (r : List (Option Slot)) (i : ℕ) (d : Slot) → i < length ss
    → get_or (somes ss ++ r) i None ≡ Some (get_or ss i d)
filled_at [] r i d lt = absurd (omega arith)
filled_at (s ∷ ss) r zero d lt = refl
filled_at (s ∷ ss) r (suc i) d lt = filled_at ss r i d (omega arith)

-- the place after the last slot is empty
pub empty_at : (ss : List Slot) (n : ℕ) → get_or (somes ss ++ replicate (suc n) None) (length ss) None ≡ None
empty_at [] n = refl
empty_at (s ∷ ss) n = empty_at ss n

-- that place gets a slot
pub laid_push : (ss : List Slot) (n : ℕ) (s : Slot)
    → set (somes ss ++ replicate (suc n) None) (length ss) (Some s) ≡ somes (ss ++ s ∷ []) ++ replicate n None
laid_push [] n s = refl
laid_push (t ∷ ss) n s = ap (λ l. Some t ∷ l) (laid_push ss n s)

-- the last slot goes
pub laid_pop : (ss : List Slot) (n m : ℕ) → length ss ≡ suc m
    → set (somes ss ++ replicate n None) m None ≡ somes (take m ss) ++ replicate (suc n) None
laid_pop [] n m e = absurd (omega arith)
laid_pop (s ∷ []) n zero e = refl
laid_pop (s ∷ t ∷ ss) n zero e = absurd (omega arith)
laid_pop (s ∷ ss) n (suc m) e = ap (λ l. Some s ∷ l) (laid_pop ss n m (omega arith))

-- a slot changes
pub laid_set : (ss : List Slot) (r : List (Option Slot)) (i : ℕ) (s : Slot) → i < length ss
    → set (somes ss ++ r) i (Some s) ≡ somes (set ss i s) ++ r
laid_set [] r i s lt = absurd (omega arith)
laid_set (t ∷ ss) r zero s lt = refl
laid_set (t ∷ ss) r (suc i) s lt = ap (λ l. Some t ∷ l) (laid_set ss r i s (omega arith))

-- ---- frames

-- the frames of one more slot
pub frames_push : (ss : List Slot) (s : Slot) → frames_in (ss ++ s ∷ []) ≡ frames_in ss ++ words_in s ∷ []
frames_push [] s = refl
frames_push (t ∷ ss) s = ap (λ l. words_in t ∷ l) (frames_push ss s)

-- the frames of the first m slots
pub frames_take : (ss : List Slot) (m : ℕ) → frames_in (take m ss) ≡ take m (frames_in ss)
frames_take ss zero = refl
frames_take [] (suc m) = refl
frames_take (s ∷ ss) (suc m) = ap (λ l. words_in s ∷ l) (frames_take ss m)

-- the frames where a slot changes
pub frames_set : (ss : List Slot) (i : ℕ) (s : Slot) → frames_in (set ss i s) ≡ set (frames_in ss) i (words_in s)
frames_set [] i s = refl
frames_set (t ∷ ss) zero s = refl
frames_set (t ∷ ss) (suc i) s = ap (λ l. words_in t ∷ l) (frames_set ss i s)

-- as many frames as slots
pub frames_length : (ss : List Slot) → length (frames_in ss) ≡ length ss
frames_length [] = refl
frames_length (s ∷ ss) = ap suc (frames_length ss)

-- the frame i has the words of the slot i
pub frame_at : (ss : List Slot) (i : ℕ) (d : Slot) (e : List ℕ) → i < length ss
    → get_or (frames_in ss) i e ≡ words_in (get_or ss i d)
frame_at [] i d e lt = absurd (omega arith)
frame_at (s ∷ ss) zero d e lt = refl
frame_at (s ∷ ss) (suc i) d e lt = frame_at ss i d e (omega arith)

-- ---- headers

-- each slot has a good header
pub slot_at : (ss : List Slot) (i : ℕ) (d : Slot) → AreSlots ss → i < length ss → IsSlot (get_or ss i d)
slot_at [] i d h lt = absurd (omega arith)
slot_at (s ∷ ss) zero d h lt = h.0
slot_at (s ∷ ss) (suc i) d h lt = slot_at ss i d h.1 (omega arith)

-- one more slot
pub slots_push : (ss : List Slot) (s : Slot) → AreSlots ss → IsSlot s → AreSlots (ss ++ s ∷ [])
slots_push [] s h i = (i, tt)
slots_push (t ∷ ss) s h i = (h.0, slots_push ss s h.1 i)

-- the first m slots
pub slots_take : (ss : List Slot) (m : ℕ) → AreSlots ss → AreSlots (take m ss)
slots_take ss zero h = tt
slots_take [] (suc m) h = tt
slots_take (s ∷ ss) (suc m) h = (h.0, slots_take ss m h.1)

-- a slot changes
pub slots_set : (ss : List Slot) (i : ℕ) (s : Slot) → AreSlots ss → IsSlot s → AreSlots (set ss i s)
slots_set [] i s h x = tt
slots_set (t ∷ ss) zero s h x = (x, h.1)
slots_set (t ∷ ss) (suc i) s h x = (h.0, slots_set ss i s h.1 x)

-- the first m of at least m slots are m
pub take_long : (ss : List Slot) (m : ℕ) → m ≤ length ss → m ≡ length (take m ss)
take_long ss m le = sym (length-take-le m ss le)

-- ---- words

-- a frame has at most the words that its header says
pub word_below : (s : Slot) → length (words_in s) ≤ s.count
word_below s = omega (arith, length-take s.count s.words)

-- a change of a word in the slot is one in the frame
pub word_set : (s : Slot) (w v : ℕ) → w < s.count → words_in (with_word s w v) ≡ set (words_in s) w v
word_set s w v lt = take-set-lt s.count s.words w v lt
