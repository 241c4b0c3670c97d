-- A procedure in which procedures stand for others does what it does.
use Rattle.std.proofs.Common.{◌≡◌, ℕ, zero, suc, Bool, true, List, [], ◌∷◌, drop, Option, Some, None, refl}
use Rattle.std.specs.Prelude.{nat_lt, ◌&&◌}
use Rattle.code_language.specs.Instrs.{Instr, Assign, Emit, Mark, Clear, Keep, Unless, Skip, Call, Visit, Send}
use Rattle.code_language.specs.Instrs.{SendTo, Play, Home, Begin, Pass, Ret}
use Rattle.code_language.specs.Sound.{AreSound, IsProc}
use Rattle.code_language.specs.WellFormed.{Known, is_proc, is_state, is_event, note_known, instr_known}
use Rattle.code_language.proofs.Accepted.{first_true, second_true}
use Rattle.code_shrink.specs.Follows.{renamed, NoteIn, NamesIn, goes_on, Skips, Follows, Nothing, Goes, Returns}
use Rattle.code_shrink.specs.Follows.{Tests, Jumps}
use Rattle.code_merging.specs.Merged.{under}

-- the procedures that are there
abbrev pub is_there : Known → ℕ → Bool
is_there K q = nat_lt q K.procs

module _ (K : Known) where
  -- a note names one of them
  note_in : (tag : Option ℕ) → note_known K tag ≡ true → NoteIn (is_there K) tag
  note_in None h = tt
  note_in (Some q) h = h

  -- so does an instruction
  names_in : (x : Instr) → instr_known K x ≡ true → NamesIn (is_there K) x
  unfolding instr_known NamesIn
  names_in (Assign v x) h = tt
  names_in (Emit e) h = tt
  names_in (Mark s) h = tt
  names_in (Clear s) h = tt
  names_in (Keep s) h = tt
  names_in (Unless k c) h = tt
  names_in (Skip k) h = tt
  names_in (Call q tag) h =
      (first_true (is_proc K q) (note_known K tag) h, note_in tag (second_true (is_proc K q) (note_known K tag) h))
  names_in (Visit q tag) h =
      (first_true (is_proc K q) (note_known K tag) h, note_in tag (second_true (is_proc K q) (note_known K tag) h))
  names_in (Send e) h = tt
  names_in (SendTo e s q) h =
      second_true (is_state K s) (is_proc K q) (second_true (is_event K e) (is_state K s && is_proc K q) h)
  names_in Play h = tt
  names_in (Home s) h = tt
  names_in Begin h = tt
  names_in Pass h = tt
  names_in (Ret r) h = tt

  module _ (m : ℕ → ℕ) where
    module _ (is : List Instr) (go : (j : ℕ) → Follows (is_there K) m (drop j is) (drop j (under m is))) where
      -- an instruction that goes on at the next place alone
      first_on : (x : Instr) → goes_on x ≡ true → instr_known K x ≡ true
          → Follows (is_there K) m (x ∷ is) (renamed m x ∷ under m is)
      first_on x on h = Goes x is (under m is) on (names_in x h) (go 0)

      -- an instruction does what it does
      first : (x : Instr) → instr_known K x ≡ true → Follows (is_there K) m (x ∷ is) (renamed m x ∷ under m is)
      unfolding goes_on renamed
      first (Assign v x) h = first_on (Assign v x) refl h
      first (Emit e) h = first_on (Emit e) refl h
      first (Mark s) h = first_on (Mark s) refl h
      first (Clear s) h = first_on (Clear s) refl h
      first (Keep s) h = first_on (Keep s) refl h
      first (Unless k c) h = Tests k k c is (under m is) (go 0) (go k)
      first (Skip k) h =
          Jumps (Skip k ∷ is) (drop k is) (Skip k ∷ under m is) (drop k (under m is)) (Skips k is)
          (Skips k (under m is)) (go k)
      first (Call q tag) h = first_on (Call q tag) refl h
      first (Visit q tag) h = first_on (Visit q tag) refl h
      first (Send e) h = first_on (Send e) refl h
      first (SendTo e s q) h = first_on (SendTo e s q) refl h
      first Play h = first_on Play refl h
      first (Home s) h = first_on (Home s) refl h
      first Begin h = first_on Begin refl h
      first Pass h = first_on Pass refl h
      first (Ret r) h = Returns r is (under m is)

    -- from each place it does what it does
    from_each : (p : ℕ) (is : List Instr) → AreSound K p 0 is → (j : ℕ)
        → Follows (is_there K) m (drop j is) (drop j (under m is))
    from_each p [] sound zero = Nothing
    from_each p [] sound (suc j) = Nothing
    from_each p (x ∷ is) sound zero = first is (from_each p is sound.1) x sound.0.known
    from_each p (x ∷ is) sound (suc j) = from_each p is sound.1 j

    -- the whole procedure does what it does
    pub merged_follows : (p : ℕ) (is : List Instr) → IsProc K p is → Follows (is_there K) m is (under m is)
    merged_follows p is h = from_each p is h.sound 0
