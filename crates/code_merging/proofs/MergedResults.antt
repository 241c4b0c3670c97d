-- The results of a procedure in which procedures stand for others.
use Rattle.std.proofs.Common.{◌≡◌, ℕ, zero, suc, List, [], ◌∷◌, map, Some, refl}
use Rattle.std.specs.Prelude.{slice_get, slice_index_or}
use Rattle.code_language.specs.Instrs.{Instr, Assign, Emit, Mark, Clear, Keep, Unless, Skip, Call, Visit, Send}
use Rattle.code_language.specs.Instrs.{SendTo, Play, Home, Begin, Pass, Ret, Result}
use Rattle.code_shrink.specs.Follows.{renamed}
use Rattle.code_merging.specs.Merged.{under}

module _ (m : ℕ → ℕ) where
  -- a return was one
  pub renamed_return : (x : Instr) (r : ℕ) → renamed m x ≡ Ret r → x ≡ Ret r
  unfolding renamed
  renamed_return (Assign v x) r q = absurd (cc q)
  renamed_return (Emit e) r q = absurd (cc q)
  renamed_return (Mark s) r q = absurd (cc q)
  renamed_return (Clear s) r q = absurd (cc q)
  renamed_return (Keep s) r q = absurd (cc q)
  renamed_return (Unless k c) r q = absurd (cc q)
  renamed_return (Skip k) r q = absurd (cc q)
  renamed_return (Call p tag) r q = absurd (cc q)
  renamed_return (Visit p tag) r q = absurd (cc q)
  renamed_return (Send e) r q = absurd (cc q)
  renamed_return (SendTo e s p) r q = absurd (cc q)
  renamed_return Play r q = absurd (cc q)
  renamed_return (Home s) r q = absurd (cc q)
  renamed_return Begin r q = absurd (cc q)
  renamed_return Pass r q = absurd (cc q)
  renamed_return (Ret x) r q = q

  -- a test of a result was one
  pub renamed_test : (x : Instr) (j r : ℕ) → renamed m x ≡ Unless j (Result r) → x ≡ Unless j (Result r)
  unfolding renamed
  renamed_test (Assign v x) j r q = absurd (cc q)
  renamed_test (Emit e) j r q = absurd (cc q)
  renamed_test (Mark s) j r q = absurd (cc q)
  renamed_test (Clear s) j r q = absurd (cc q)
  renamed_test (Keep s) j r q = absurd (cc q)
  renamed_test (Unless k c) j r q = q
  renamed_test (Skip k) j r q = absurd (cc q)
  renamed_test (Call p tag) j r q = absurd (cc q)
  renamed_test (Visit p tag) j r q = absurd (cc q)
  renamed_test (Send e) j r q = absurd (cc q)
  renamed_test (SendTo e s p) j r q = absurd (cc q)
  renamed_test Play j r q = absurd (cc q)
  renamed_test (Home s) j r q = absurd (cc q)
  renamed_test Begin j r q = absurd (cc q)
  renamed_test Pass j r q = absurd (cc q)
  renamed_test (Ret x) j r q = absurd (cc q)

  -- which instruction it was
  was_renamed : (is : List Instr) (i : ℕ) (y : Instr) → slice_get (under m is) i ≡ Some y
      → (x : Instr) × (slice_get is i ≡ Some x) × (renamed m x ≡ y)
  was_renamed [] i y e = absurd (cc e)
  was_renamed (x ∷ is) zero y e = let same : renamed m x ≡ y = cc e in (x, refl, same)
  was_renamed (x ∷ is) (suc i) y e = was_renamed is i y e

  -- by its procedure
  pub was_in : (procs : List (List Instr)) (p i : ℕ) (y : Instr)
      → slice_get (slice_index_or (map (under m) procs) p []) i ≡ Some y
      → (x : Instr) × (slice_get (slice_index_or procs p []) i ≡ Some x) × (renamed m x ≡ y)
  was_in [] p i y e = absurd (cc e)
  was_in (is ∷ procs) zero i y e = was_renamed is i y e
  was_in (is ∷ procs) (suc p) i y e = was_in procs p i y e
