-- Instructions by shape, and what is known of those that go on.
use Rattle.std.proofs.Common.{◌≡◌, ◌≢◌, ℕ, ◌+◌, true, false, refl}
use Rattle.code_language.specs.Instrs.{Cond, Instr, Assign, Emit, Mark, Clear, Keep, Unless, Skip, Call, Visit, Send}
use Rattle.code_language.specs.Instrs.{SendTo, Play, Home, Begin, Pass, Ret}
use Rattle.code_language.specs.WellFormed.{is_ret}
use Rattle.code_shrink.specs.Follows.{renamed, goes_on}
use Rattle.code_shrink.specs.Neat.{IsAfter}

-- an instruction goes on, returns, tests or skips
pub data Shape : Instr → Type 0 where
  GoesOn : (x : Instr) → goes_on x ≡ true → Shape x
  Returns : (r : ℕ) → Shape (Ret r)
  Tests : (k : ℕ) (c : Cond) → Shape (Unless k c)
  Skips : (k : ℕ) → Shape (Skip k)

-- each has a shape
pub shape : (x : Instr) → Shape x
unfolding goes_on
shape (Assign v x) = GoesOn (Assign v x) refl
shape (Emit e) = GoesOn (Emit e) refl
shape (Mark s) = GoesOn (Mark s) refl
shape (Clear s) = GoesOn (Clear s) refl
shape (Keep s) = GoesOn (Keep s) refl
shape (Call p tag) = GoesOn (Call p tag) refl
shape (Visit p tag) = GoesOn (Visit p tag) refl
shape (Send e) = GoesOn (Send e) refl
shape (SendTo e s p) = GoesOn (SendTo e s p) refl
shape Play = GoesOn Play refl
shape (Home s) = GoesOn (Home s) refl
shape Begin = GoesOn Begin refl
shape Pass = GoesOn Pass refl
shape (Unless k c) = Tests k c
shape (Skip k) = Skips k
shape (Ret r) = Returns r

-- what is known of an instruction that goes on
pub record IsOther (m : ℕ → ℕ) (x : Instr) : Type 0 where
  pub after : (i j : ℕ) → IsAfter i x j → j ≡ i + 1
  pub renamed_after : (i j : ℕ) → j ≡ i + 1 → IsAfter i (renamed m x) j
  pub no_skip : (k : ℕ) → renamed m x ≢ Skip k
  pub no_test : (k : ℕ) (c : Cond) → renamed m x ≢ Unless k c
  pub never_skip : (k : ℕ) → x ≢ Skip k
  pub never_test : (k : ℕ) (c : Cond) → x ≢ Unless k c
  pub no_ret : is_ret x ≡ false

-- it is known
pub other : (m : ℕ → ℕ) (x : Instr) → goes_on x ≡ true → IsOther m x
unfolding goes_on renamed is_ret
other m (Assign v x) h =
    record {
      after = λ i j e. e;
      renamed_after = λ i j e. e;
      no_skip = λ k e. cc;
      no_test = λ k c e. cc;
      never_skip = λ k e. cc;
      never_test = λ k c e. cc;
      no_ret = refl;
    }
other m (Emit e) h =
    record {
      after = λ i j e. e;
      renamed_after = λ i j e. e;
      no_skip = λ k e. cc;
      no_test = λ k c e. cc;
      never_skip = λ k e. cc;
      never_test = λ k c e. cc;
      no_ret = refl;
    }
other m (Mark s) h =
    record {
      after = λ i j e. e;
      renamed_after = λ i j e. e;
      no_skip = λ k e. cc;
      no_test = λ k c e. cc;
      never_skip = λ k e. cc;
      never_test = λ k c e. cc;
      no_ret = refl;
    }
other m (Clear s) h =
    record {
      after = λ i j e. e;
      renamed_after = λ i j e. e;
      no_skip = λ k e. cc;
      no_test = λ k c e. cc;
      never_skip = λ k e. cc;
      never_test = λ k c e. cc;
      no_ret = refl;
    }
other m (Keep s) h =
    record {
      after = λ i j e. e;
      renamed_after = λ i j e. e;
      no_skip = λ k e. cc;
      no_test = λ k c e. cc;
      never_skip = λ k e. cc;
      never_test = λ k c e. cc;
      no_ret = refl;
    }
other m (Call p tag) h =
    record {
      after = λ i j e. e;
      renamed_after = λ i j e. e;
      no_skip = λ k e. cc;
      no_test = λ k c e. cc;
      never_skip = λ k e. cc;
      never_test = λ k c e. cc;
      no_ret = refl;
    }
other m (Visit p tag) h =
    record {
      after = λ i j e. e;
      renamed_after = λ i j e. e;
      no_skip = λ k e. cc;
      no_test = λ k c e. cc;
      never_skip = λ k e. cc;
      never_test = λ k c e. cc;
      no_ret = refl;
    }
other m (Send e) h =
    record {
      after = λ i j e. e;
      renamed_after = λ i j e. e;
      no_skip = λ k e. cc;
      no_test = λ k c e. cc;
      never_skip = λ k e. cc;
      never_test = λ k c e. cc;
      no_ret = refl;
    }
other m (SendTo e s p) h =
    record {
      after = λ i j e. e;
      renamed_after = λ i j e. e;
      no_skip = λ k e. cc;
      no_test = λ k c e. cc;
      never_skip = λ k e. cc;
      never_test = λ k c e. cc;
      no_ret = refl;
    }
other m Play h =
    record {
      after = λ i j e. e;
      renamed_after = λ i j e. e;
      no_skip = λ k e. cc;
      no_test = λ k c e. cc;
      never_skip = λ k e. cc;
      never_test = λ k c e. cc;
      no_ret = refl;
    }
other m (Home s) h =
    record {
      after = λ i j e. e;
      renamed_after = λ i j e. e;
      no_skip = λ k e. cc;
      no_test = λ k c e. cc;
      never_skip = λ k e. cc;
      never_test = λ k c e. cc;
      no_ret = refl;
    }
other m Begin h =
    record {
      after = λ i j e. e;
      renamed_after = λ i j e. e;
      no_skip = λ k e. cc;
      no_test = λ k c e. cc;
      never_skip = λ k e. cc;
      never_test = λ k c e. cc;
      no_ret = refl;
    }
other m Pass h =
    record {
      after = λ i j e. e;
      renamed_after = λ i j e. e;
      no_skip = λ k e. cc;
      no_test = λ k c e. cc;
      never_skip = λ k e. cc;
      never_test = λ k c e. cc;
      no_ret = refl;
    }
other m (Unless k c) h = absurd cc
other m (Skip k) h = absurd cc
other m (Ret r) h = absurd cc
