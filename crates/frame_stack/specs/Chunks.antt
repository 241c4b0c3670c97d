-- How frames lie in chunks: the places of all chunks are one row, in which the frames come first.
use Rattle.std.specs.Prelude.{◌≡◌, ℕ, ◌≤◌, List, [], ◌∷◌, ◌++◌, length, take, replicate, slice_set, Option, Some, None}
use Rattle.frame_stack.specs.declared.slot.Slot.{Slot}
use Rattle.frame_stack.specs.declared.chunk.Chunk.{Chunk}

-- the words of the frame in a slot: as many as its header says
abbrev pub words_in : Slot → List ℕ
words_in s = take s.count s.words

-- the header says from 1 to 7 words
abbrev pub IsSlot : Slot → Type 0
IsSlot s = (1 ≤ s.count) × (s.count ≤ 7)

-- the slot, with that value as its word w
abbrev pub with_word : Slot → ℕ → ℕ → Slot
with_word s w value = record s { words = slice_set s.words w value }

-- the parts of a chunk belong together: 1,024 places at its pointer, and the right to give that block back
pub record IsChunk (c : Chunk) : Type 0 where
  pub at : c.base.ptr ≡ c.cells.at
  pub size : length c.cells.slots ≡ 1024
  pub deed : (c.deed.at ≡ c.base.ptr) × (c.deed.len ≡ 1024)

-- a chunk all of whose places are empty
pub record IsFree (c : Chunk) : Type 0 where
  pub chunk : IsChunk c
  pub empty : c.cells.slots ≡ replicate 1024 None

-- each is a chunk
abbrev pub AreChunks : List Chunk → Type 0
AreChunks [] = Unit {0}
AreChunks (c ∷ cs) = IsChunk c × AreChunks cs

-- the places of all chunks, from the first chunk on
abbrev pub places : List Chunk → List (Option Slot)
places [] = []
places (c ∷ cs) = c.cells.slots ++ places cs

-- the slots before the first empty place
abbrev pub slots_in : List (Option Slot) → List Slot
slots_in [] = []
slots_in (None ∷ xs) = []
slots_in (Some s ∷ xs) = s ∷ slots_in xs

-- the words of each slot
abbrev pub frames_in : List Slot → List (List ℕ)
frames_in [] = []
frames_in (s ∷ ss) = words_in s ∷ frames_in ss

-- the frames of a stack with these chunks
abbrev pub stack_frames : List Chunk → List (List ℕ)
stack_frames cs = frames_in (slots_in (places cs))

-- each slot has a header from 1 to 7
abbrev pub AreSlots : List Slot → Type 0
AreSlots [] = Unit {0}
AreSlots (s ∷ ss) = IsSlot s × AreSlots ss

-- a place for each slot, which holds it
abbrev pub somes : List Slot → List (Option Slot)
somes [] = []
somes (s ∷ ss) = Some s ∷ somes ss

-- the slots fill the places of the chunks from the first on, and the spare ones after them are empty
pub record Holds (cs : List Chunk) (ss : List Slot) (spare : ℕ) : Type 0 where
  pub chunks : AreChunks cs
  pub laid : places cs ≡ somes ss ++ replicate spare None
  pub slots : AreSlots ss

-- What holds of the fields of a stack. There are at most 2 ^ 50 chunks.
pub record IsStack (cs : List Chunk) (len spare : ℕ) : Type 0 where
  pub holds : Holds cs (slots_in (places cs)) spare
  pub counted : len ≡ length (slots_in (places cs))
  pub few : length cs ≤ 1125899906842624
