-- How a change of one place changes what the chunks hold, and how free chunks are added and given back.
use Rattle.std.proofs.Common.{◌≡◌, ℕ, zero, suc, ◌+◌, ◌-◌, ◌*◌, ◌/◌, ◌%◌, ◌<◌, ◌≤◌, List, [], ◌∷◌, ◌++◌, length, take}
use Rattle.std.proofs.Common.{replicate, set, get_or, Option, Some, None, refl, sym, ap, ◌∙◌, subst, arith}
use Rattle.std.proofs.Common.{length-append, append_assoc}
use Rattle.std.proofs.lemmas.List.{replicate-append-replicate}
use Rattle.std.proofs.lemmas.Nat.{div-add-mod'}
use Rattle.std.proofs.Math.Nat.{mod-lt}
use Rattle.std.specs.Prelude.{All}
use Rattle.frame_stack.specs.declared.slot.Slot.{Slot}
use Rattle.frame_stack.specs.declared.chunk.Chunk.{Chunk}
use Rattle.frame_stack.specs.Chunks.{IsSlot, IsChunk, IsFree, AreChunks, places, slots_in, AreSlots, somes}
use Rattle.frame_stack.specs.Chunks.{Holds, IsStack}
use Rattle.frame_stack.proofs.PlaceLemmas.{place_at, places_set, are_set, is_chunk_at, places_length, places_append}
use Rattle.frame_stack.proofs.PlaceLemmas.{are_append}
use Rattle.frame_stack.proofs.FrameLemmas.{somes_length, nones_length, slots_back, filled_at, empty_at, laid_push}
use Rattle.frame_stack.proofs.FrameLemmas.{laid_pop, laid_set, slots_push, slots_take, slots_set}

-- chunks that hold these slots have no others
pub same_slots : (cs : List Chunk) (ss : List Slot) (n : ℕ) → Holds cs ss n → slots_in (places cs) ≡ ss
same_slots cs ss n h = ap slots_in h.laid ∙ slots_back ss n

-- fields of which all this holds are those of a stack
pub is_stack : (cs : List Chunk) (ss : List Slot) (len n : ℕ) → Holds cs ss n → len ≡ length ss
    → length cs ≤ 1125899906842624 → IsStack cs len n
is_stack cs ss len n h e few =
    let same = sym (same_slots cs ss n h) in
    record { holds = subst (λ l. Holds cs l n) same h; counted = e ∙ ap length same; few = few }

-- what stands for a slot that isn't there
pub no_slot : Slot
no_slot = record { count = 0; words = [] }

module _ (cs : List Chunk) (ss : List Slot) (n : ℕ) (h : Holds cs ss n) where
  -- each place is a slot or spare
  pub total : length cs * 1024 ≡ length ss + n
  total =
      omega (
        arith,
        places_length cs h.chunks,
        ap length h.laid,
        length-append (somes ss) (replicate n None),
        somes_length ss,
        nones_length n,
      )

  module _ (i : ℕ) (lt : i < length ss + n) where
    pub small : i % 1024 < 1024
    small = mod-lt i (omega arith)

    parts : i ≡ i / 1024 * 1024 + i % 1024
    parts = sym (div-add-mod' i 1024)

    pub within : i / 1024 < length cs
    within = omega (arith, total, parts, small)

    -- the chunk of the place i
    module _ (d : Chunk) (e : d ≡ get_or cs (i / 1024) d) where
      pub is_chunk : IsChunk d
      is_chunk = subst IsChunk (sym e) (is_chunk_at cs (i / 1024) d h.chunks within)

      pub place_of : get_or d.cells.slots (i % 1024) None ≡ get_or (somes ss ++ replicate n None) i None
      place_of =
          ap (λ c. get_or c.cells.slots (i % 1024) None) e
          ∙ sym (place_at cs (i / 1024) (i % 1024) i d h.chunks within small parts)
          ∙ ap (λ l. get_or l i None) h.laid

      -- what holds where that place changes
      pub changed : (c : Chunk) (x : Option Slot) (ts : List Slot) (m : ℕ) → IsChunk c
          → c.cells.slots ≡ set d.cells.slots (i % 1024) x
          → set (somes ss ++ replicate n None) i x ≡ somes ts ++ replicate m None → AreSlots ts
          → Holds (set cs (i / 1024) c) ts m
      changed c x ts m ok made laid slots = record {
        chunks = are_set cs (i / 1024) c h.chunks ok;
        laid =
            places_set cs (i / 1024) (i % 1024) i d c x h.chunks within small parts
            (made ∙ ap (λ b. set b.cells.slots (i % 1024) x) e)
            ∙ ap (λ l. set l i x) h.laid ∙ laid;
        slots = slots;
      }

  -- a frame is pushed
  pub pushed : (len : ℕ) → len ≡ length ss → 0 < n → (d c : Chunk) (s : Slot) → d ≡ get_or cs (len / 1024) d
      → IsChunk c → c.cells.slots ≡ set d.cells.slots (len % 1024) (Some s) → IsSlot s
      → Holds (set cs (len / 1024) c) (ss ++ s ∷ []) (n - 1)
  pushed len q some d c s e ok made is =
      let m : n ≡ suc (n - 1) = omega arith in
      changed len (omega arith) d e c (Some s) (ss ++ s ∷ []) (n - 1) ok made
      ((λ j. set (somes ss ++ replicate (m j) None) (q j) (Some s)) ∙ laid_push ss (n - 1) s)
      (slots_push ss s h.slots is)

  -- the top frame goes
  pub popped : (m : ℕ) → length ss ≡ suc m → (d c : Chunk) → d ≡ get_or cs (m / 1024) d → IsChunk c
      → c.cells.slots ≡ set d.cells.slots (m % 1024) None → Holds (set cs (m / 1024) c) (take m ss) (n + 1)
  popped m q d c e ok made =
      let more : suc n ≡ n + 1 = omega arith in
      changed m (omega arith) d e c None (take m ss) (n + 1) ok made
      (laid_pop ss n m q ∙ ap (λ k. somes (take m ss) ++ replicate k None) more) (slots_take ss m h.slots)

  -- a frame changes
  pub replaced : (i : ℕ) → i < length ss → (d c : Chunk) (s : Slot) → d ≡ get_or cs (i / 1024) d → IsChunk c
      → c.cells.slots ≡ set d.cells.slots (i % 1024) (Some s) → IsSlot s → Holds (set cs (i / 1024) c) (set ss i s) n
  replaced i lt d c s e ok made is =
      changed i (omega arith) d e c (Some s) (set ss i s) n ok made (laid_set ss (replicate n None) i s lt)
      (slots_set ss i s h.slots is)

  -- the slot of a frame
  pub slot_of : (i : ℕ) → i < length ss → (d : Chunk) → d ≡ get_or cs (i / 1024) d
      → get_or d.cells.slots (i % 1024) None ≡ Some (get_or ss i no_slot)
  slot_of i lt d e = place_of i (omega arith) d e ∙ filled_at ss (replicate n None) i no_slot lt

  -- the place after the top frame is empty
  pub none_of : (len : ℕ) → len ≡ length ss → 0 < n → (d : Chunk) → d ≡ get_or cs (len / 1024) d
      → get_or d.cells.slots (len % 1024) None ≡ None
  none_of len q some d e =
      let m : n ≡ suc (n - 1) = omega arith in
      place_of len (omega arith) d e
      ∙ (λ j. get_or (somes ss ++ replicate (m j) None) (q j) None) ∙ empty_at ss (n - 1)

  -- free chunks are added
  pub added : (ds : List Chunk) (m : ℕ) → AreChunks ds → places ds ≡ replicate m None → Holds (cs ++ ds) ss (n + m)
  added ds m ok free = record {
    chunks = are_append cs ds h.chunks ok;
    laid =
        places_append cs ds ∙ (λ j. h.laid j ++ free j) ∙ append_assoc (somes ss) (replicate n None) (replicate m None)
        ∙ ap (λ l. somes ss ++ l) (replicate-append-replicate n m None);
    slots = h.slots;
  }

-- free chunks are chunks
pub free_chunks : (ds : List Chunk) → All IsFree ds → AreChunks ds
free_chunks [] h = tt
free_chunks (c ∷ ds) h = ((h 0 c (omega arith)).chunk, free_chunks ds (λ k d lt. h (suc k) d (omega arith)))

-- all places of free chunks are empty
pub free_places : (ds : List Chunk) → All IsFree ds → places ds ≡ replicate (length ds * 1024) None
free_places [] h = refl
free_places (c ∷ ds) h =
    let n : 1024 + length ds * 1024 ≡ suc (length ds) * 1024 = omega arith in
    (λ j. (h 0 c (omega arith)).empty j ++ free_places ds (λ k d lt. h (suc k) d (omega arith)) j)
    ∙ replicate-append-replicate 1024 (length ds * 1024) None ∙ ap (λ k. replicate k None) n

-- a row of empty places is cut into two
front_of : (xs ys : List (Option Slot)) (n m : ℕ) → length xs ≡ n → xs ++ ys ≡ replicate n None ++ replicate m None
    → (xs ≡ replicate n None) × (ys ≡ replicate m None)
front_of [] ys zero m e q = (refl, q)
front_of [] ys (suc n) m e q = absurd (omega arith)
front_of (x ∷ xs) ys zero m e q = absurd (omega arith)
front_of (x ∷ xs) ys (suc n) m e q =
    let heads : x ≡ None = cc q in let tails : xs ++ ys ≡ replicate n None ++ replicate m None = cc q in
    let rest = front_of xs ys n m (omega arith) tails in
    ((λ j. heads j ∷ rest.0 j), rest.1)

-- where all places are empty, those of the first chunk are, and those of the others
first_free : (c : Chunk) (cs : List Chunk) (n : ℕ) → AreChunks (c ∷ cs) → c.cells.slots ++ places cs ≡ replicate n None
    → (c.cells.slots ≡ replicate 1024 None) × (places cs ≡ replicate (length cs * 1024) None)
first_free c cs n h e =
    let long : n ≡ 1024 + length cs * 1024 =
    omega (arith, ap length e, nones_length n, places_length (c ∷ cs) h) in
    front_of c.cells.slots (places cs) 1024 (length cs * 1024) h.0.size
    (e ∙ ap (λ k. replicate k None) long ∙ sym (replicate-append-replicate 1024 (length cs * 1024) None))

-- chunks all of whose places are empty are free
pub all_free : (cs : List Chunk) (n : ℕ) → AreChunks cs → places cs ≡ replicate n None → All IsFree cs
all_free [] n h e k d lt = absurd (omega arith)
all_free (c ∷ cs) n h e zero d lt = record { chunk = h.0; empty = (first_free c cs n h e).0 }
all_free (c ∷ cs) n h e (suc k) d lt = all_free cs (length cs * 1024) h.1 (first_free c cs n h e).1 k d (omega arith)
