-- Where a place of the row of all places lies: the place i is in the chunk i / 1024.
use Rattle.std.proofs.Common.{◌≡◌, ℕ, zero, suc, ◌+◌, ◌-◌, ◌*◌, ◌<◌, List, [], ◌∷◌, ◌++◌, length, set, get_or}
use Rattle.std.proofs.Common.{Option, None, refl, sym, ap, ◌∙◌, arith, length-append, append_assoc}
use Rattle.std.proofs.lemmas.List.{get_or_append_left, set-append_left, set-append_right}
use Rattle.std.proofs.Math.Seq.{get_or-append_right}
use Rattle.frame_stack.specs.declared.slot.Slot.{Slot}
use Rattle.frame_stack.specs.declared.chunk.Chunk.{Chunk}
use Rattle.frame_stack.specs.Chunks.{IsChunk, AreChunks, places}

-- the place j of the chunk k is the place k * 1024 + j of all
pub place_at : (cs : List Chunk) (k j i : ℕ) (d : Chunk) → AreChunks cs → k < length cs → j < 1024 → i ≡ k * 1024 + j
    → get_or (places cs) i None ≡ get_or (get_or cs k d).cells.slots j None
place_at [] k j i d h lt small e = absurd (omega arith)
place_at (c ∷ cs) zero j i d h lt small e =
    let same : i ≡ j = omega arith in
    get_or_append_left c.cells.slots (places cs) None i (omega (arith, h.0.size))
    ∙ ap (λ n. get_or c.cells.slots n None) same
place_at (c ∷ cs) (suc k) j i d h lt small e =
    get_or-append_right c.cells.slots (places cs) i None (omega (arith, h.0.size))
    ∙ place_at cs k j (i - length c.cells.slots) d h.1 (omega arith) small (omega (arith, h.0.size))

-- a change of that place in its chunk is one of the row of all places
pub places_set : (cs : List Chunk) (k j i : ℕ) (d c : Chunk) (x : Option Slot) → AreChunks cs → k < length cs → j < 1024
    → i ≡ k * 1024 + j → c.cells.slots ≡ set (get_or cs k d).cells.slots j x
    → places (set cs k c) ≡ set (places cs) i x
places_set [] k j i d c x h lt small e s = absurd (omega arith)
places_set (b ∷ cs) zero j i d c x h lt small e s =
    let same : j ≡ i = omega arith in
    ap (λ l. l ++ places cs) (s ∙ ap (λ n. set b.cells.slots n x) same)
    ∙ sym (set-append_left b.cells.slots (places cs) i x (omega (arith, h.0.size)))
places_set (b ∷ cs) (suc k) j i d c x h lt small e s =
    ap (λ l. b.cells.slots ++ l) (places_set cs k j (i - 1024) d c x h.1 (omega arith) small (omega arith) s)
    ∙ sym (set-append_right b.cells.slots (places cs) 1024 i x h.0.size (omega arith))

-- a chunk may be replaced by another
pub are_set : (cs : List Chunk) (k : ℕ) (c : Chunk) → AreChunks cs → IsChunk c → AreChunks (set cs k c)
are_set [] k c h i = tt
are_set (b ∷ cs) zero c h i = (i, h.1)
are_set (b ∷ cs) (suc k) c h i = (h.0, are_set cs k c h.1 i)

-- each of the chunks is one
pub is_chunk_at : (cs : List Chunk) (k : ℕ) (d : Chunk) → AreChunks cs → k < length cs → IsChunk (get_or cs k d)
is_chunk_at [] k d h lt = absurd (omega arith)
is_chunk_at (c ∷ cs) zero d h lt = h.0
is_chunk_at (c ∷ cs) (suc k) d h lt = is_chunk_at cs k d h.1 (omega arith)

-- 1,024 places in each chunk
pub places_length : (cs : List Chunk) → AreChunks cs → length (places cs) ≡ length cs * 1024
places_length [] h = refl
places_length (c ∷ cs) h =
    omega (arith, h.0.size, places_length cs h.1, length-append c.cells.slots (places cs))

-- the places of further chunks come after those that are there
pub places_append : (cs ds : List Chunk) → places (cs ++ ds) ≡ places cs ++ places ds
places_append [] ds = refl
places_append (c ∷ cs) ds =
    ap (λ l. c.cells.slots ++ l) (places_append cs ds) ∙ sym (append_assoc c.cells.slots (places cs) (places ds))

-- chunks and chunks are chunks
pub are_append : (cs ds : List Chunk) → AreChunks cs → AreChunks ds → AreChunks (cs ++ ds)
are_append [] ds h i = i
are_append (c ∷ cs) ds h i = (h.0, are_append cs ds h.1 i)
