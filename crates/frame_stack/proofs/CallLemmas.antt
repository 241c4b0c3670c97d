-- What each call of a stack finds in the chunks and leaves there, by what a contract sees of the stack.
use Rattle.std.proofs.Common.{◌≡◌, ℕ, suc, ◌+◌, ◌-◌, ◌*◌, ◌/◌, ◌%◌, ◌<◌, ◌≤◌, List, [], ◌∷◌, ◌++◌, length, take}
use Rattle.std.proofs.Common.{replicate, set, get_or, Some, None, sym, ap, ◌∙◌, subst, arith, length-append}
use Rattle.std.proofs.lemmas.List.{length-set, nil_from_length}
use Rattle.std.specs.Prelude.{All}
use Rattle.frame_stack.specs.declared.slot.Slot.{Slot}
use Rattle.frame_stack.specs.declared.chunk.Chunk.{Chunk}
use Rattle.frame_stack.specs.Chunks.{words_in, with_word, IsSlot, IsChunk, IsFree, places, slots_in, frames_in, somes}
use Rattle.frame_stack.specs.Chunks.{stack_frames, Holds, IsStack}
use Rattle.frame_stack.specs.Places.{IsFilled}
use Rattle.frame_stack.specs.Stacks.{Stack, stack}
use Rattle.frame_stack.proofs.FrameLemmas.{frames_length, frames_push, frames_take, frames_set, frame_at, slot_at}
use Rattle.frame_stack.proofs.FrameLemmas.{take_long, word_below, word_set}
use Rattle.frame_stack.proofs.StackLemmas.{same_slots, is_stack, no_slot, total, small, within, is_chunk, pushed}
use Rattle.frame_stack.proofs.StackLemmas.{popped, replaced}
use Rattle.frame_stack.proofs.StackLemmas.{slot_of, none_of, added, free_chunks, free_places, all_free}

-- a stack with these fields, which a contract sees as v
module _ {cs : List Chunk} {len n : ℕ} {v : Stack} (is : IsStack cs len n) (see : stack (stack_frames cs) n ≡ v) where
  abbrev ss : List Slot
  ss = slots_in (places cs)

  -- as many slots as frames
  slots_count : length ss ≡ length v.frames
  slots_count = sym (frames_length ss) ∙ ap (λ s. length s.frames) see

  spare_is : n ≡ v.spare
  spare_is = ap (λ s. s.spare) see

  pub len_is : len ≡ length v.frames
  len_is = is.counted ∙ slots_count

  -- where no frame is left, all chunks are free
  pub chunks_are_free : length v.frames ≡ 0 → All IsFree cs
  chunks_are_free none =
      let no_slots : ss ≡ [] = nil_from_length ss (slots_count ∙ none) in
      all_free cs n is.holds.chunks (is.holds.laid ∙ ap (λ l. somes l ++ replicate n None) no_slots)

  -- the frame i
  module _ (i : ℕ) (lt : i < length v.frames) where
    below : i < length ss
    below = omega (arith, lt, slots_count)

    frame_inside : i < length ss + n
    frame_inside = omega (arith, below)

    pub frame_within : i / 1024 < length cs
    frame_within = within cs ss n is.holds i frame_inside

    pub frame_small : i % 1024 < 1024
    frame_small = small cs ss n is.holds i frame_inside

    abbrev held : Slot
    held = get_or ss i no_slot

    held_words : words_in held ≡ get_or v.frames i []
    held_words = sym (frame_at ss i no_slot [] below) ∙ ap (λ s. get_or s.frames i []) see

    held_good : IsSlot held
    held_good = slot_at ss i no_slot is.holds.slots below

    pub word_small : (w : ℕ) → w < length (get_or v.frames i []) → w < 7
    word_small w some = omega (arith, some, ap length held_words, held_good.1, word_below held)

    -- its chunk
    module _ (d : Chunk) (e : d ≡ get_or cs (i / 1024) d) where
      pub frame_chunk : IsChunk d
      frame_chunk = is_chunk cs ss n is.holds i frame_inside d e

      held_there : get_or d.cells.slots (i % 1024) None ≡ Some held
      held_there = slot_of cs ss n is.holds i below d e

      pub frame_filled : IsFilled d.cells.slots (i % 1024)
      frame_filled = (held, held_there)

      -- its slot
      module _ (s : Slot) (there : get_or d.cells.slots (i % 1024) None ≡ Some s) where
        found : held ≡ s
        found =
            let both : Some held ≡ Some s = sym held_there ∙ there in
            cc both

        pub frame_good : IsSlot s
        frame_good = subst IsSlot found held_good

        pub frame_words : words_in s ≡ get_or v.frames i []
        frame_words = ap words_in (sym found) ∙ held_words

      -- its chunk after the word w was changed
      module _ (c : Chunk) (w value : ℕ) (ok : IsChunk c) (some : w < length (get_or v.frames i []))
          (made : (s : Slot) → get_or d.cells.slots (i % 1024) None ≡ Some s
          → c.cells.slots ≡ set d.cells.slots (i % 1024) (Some (with_word s w value))) where
        abbrev written : Slot
        written = with_word held w value

        holds_written : Holds (set cs (i / 1024) c) (set ss i written) n
        holds_written = replaced cs ss n is.holds i below d c written e ok (made held held_there) held_good

        pub set_stack : IsStack (set cs (i / 1024) c) len n
        set_stack =
            is_stack (set cs (i / 1024) c) (set ss i written) len n holds_written
            (is.counted ∙ sym (length-set ss i written)) (omega (arith, length-set cs (i / 1024) c, is.few))

        pub set_frames : stack_frames (set cs (i / 1024) c) ≡ set v.frames i (set (get_or v.frames i []) w value)
        set_frames =
            let low : w < held.count = omega (arith, some, ap length held_words, word_below held) in
            ap frames_in (same_slots (set cs (i / 1024) c) (set ss i written) n holds_written)
            ∙ frames_set ss i written
            ∙ ap (λ ws. set (frames_in ss) i ws) (word_set held w value low ∙ ap (λ ws. set ws w value) held_words)
            ∙ ap (λ s. set s.frames i (set (get_or v.frames i []) w value)) see

  -- a frame is pushed
  module _ (spare : 0 < v.spare) where
    pub left : 0 < n
    left = omega (arith, spare, spare_is)

    next_inside : len < length ss + n
    next_inside = omega (arith, is.counted, left)

    pub next_within : len / 1024 < length cs
    next_within = within cs ss n is.holds len next_inside

    pub next_small : len % 1024 < 1024
    next_small = small cs ss n is.holds len next_inside

    module _ (d : Chunk) (e : d ≡ get_or cs (len / 1024) d) where
      pub next_chunk : IsChunk d
      next_chunk = is_chunk cs ss n is.holds len next_inside d e

      pub next_empty : get_or d.cells.slots (len % 1024) None ≡ None
      next_empty = none_of cs ss n is.holds len is.counted left d e

      module _ (c : Chunk) (s : Slot) (ok : IsChunk c) (made : c.cells.slots ≡ set d.cells.slots (len % 1024) (Some s))
          (good : IsSlot s) where
        holds_pushed : Holds (set cs (len / 1024) c) (ss ++ s ∷ []) (n - 1)
        holds_pushed = pushed cs ss n is.holds len is.counted left d c s e ok made good

        pub push_stack : IsStack (set cs (len / 1024) c) (len + 1) (n - 1)
        push_stack =
            is_stack (set cs (len / 1024) c) (ss ++ s ∷ []) (len + 1) (n - 1) holds_pushed
            (omega (arith, is.counted, length-append ss (s ∷ [])))
            (omega (arith, length-set cs (len / 1024) c, is.few))

        pub push_frames : (ws : List ℕ) → words_in s ≡ ws → stack_frames (set cs (len / 1024) c) ≡ v.frames ++ ws ∷ []
        push_frames ws same =
            ap frames_in (same_slots (set cs (len / 1024) c) (ss ++ s ∷ []) (n - 1) holds_pushed)
            ∙ frames_push ss s ∙ (λ j. (see j).frames ++ same j ∷ [])

  -- the top frame is popped
  module _ (some : 0 < length v.frames) where
    pub top_below : len - 1 < length v.frames
    top_below = omega (arith, some, len_is)

    module _ (d : Chunk) (e : d ≡ get_or cs ((len - 1) / 1024) d) (c : Chunk) (ok : IsChunk c)
        (made : c.cells.slots ≡ set d.cells.slots ((len - 1) % 1024) None) where
      long : length ss ≡ suc (len - 1)
      long = omega (arith, some, slots_count, is.counted)

      holds_popped : Holds (set cs ((len - 1) / 1024) c) (take (len - 1) ss) (n + 1)
      holds_popped = popped cs ss n is.holds (len - 1) long d c e ok made

      pub pop_stack : IsStack (set cs ((len - 1) / 1024) c) (len - 1) (n + 1)
      pop_stack =
          is_stack (set cs ((len - 1) / 1024) c) (take (len - 1) ss) (len - 1) (n + 1) holds_popped
          (take_long ss (len - 1) (omega (arith, long))) (omega (arith, length-set cs ((len - 1) / 1024) c, is.few))

      pub pop_frames : stack_frames (set cs ((len - 1) / 1024) c) ≡ take (length v.frames - 1) v.frames
      pop_frames =
          let less : len - 1 ≡ length (frames_in ss) - 1 = omega (arith, frames_length ss, long) in
          ap frames_in (same_slots (set cs ((len - 1) / 1024) c) (take (len - 1) ss) (n + 1) holds_popped)
          ∙ frames_take ss (len - 1) ∙ ap (λ k. take k (frames_in ss)) less
          ∙ ap (λ t. take (length t.frames - 1) t.frames) see

  -- free chunks are added
  module _ (ds : List Chunk) (free : All IsFree ds) (few : length cs + length ds ≤ 1125899906842624) where
    holds_more : Holds (cs ++ ds) ss (n + length ds * 1024)
    holds_more = added cs ss n is.holds ds (length ds * 1024) (free_chunks ds free) (free_places ds free)

    pub reserve_stack : IsStack (cs ++ ds) len (n + length ds * 1024)
    reserve_stack =
        is_stack (cs ++ ds) ss len (n + length ds * 1024) holds_more is.counted
        (omega (arith, length-append cs ds, few))

  pub reserve_frames : (ds : List Chunk) → All IsFree ds → stack_frames (cs ++ ds) ≡ v.frames
  reserve_frames ds free =
      let more = added cs ss n is.holds ds (length ds * 1024) (free_chunks ds free) (free_places ds free) in
      ap frames_in (same_slots (cs ++ ds) ss (n + length ds * 1024) more) ∙ ap (λ t. t.frames) see

-- the slots of the chunks can be counted
pub slots_fit : {cs : List Chunk} {len n : ℕ} → IsStack cs len n → len + n ≡ length cs * 1024
slots_fit {cs} {len} {n} is = omega (arith, total cs (slots_in (places cs)) n is.holds, is.counted)

-- the same with another number of spare slots that is as great
pub counted_again : {cs : List Chunk} {len n m : ℕ} → IsStack cs len n → n ≡ m → IsStack cs len m
counted_again {cs} {len} {n} {m} is e = subst (λ k. IsStack cs len k) e is
