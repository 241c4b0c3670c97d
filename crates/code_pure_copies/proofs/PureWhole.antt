-- Code whose procedures are copies of those of other code has the runs of that code.
use Rattle.std.proofs.Common.{◌≡◌, ◌<◌, ℕ, zero, suc, ◌+◌, List, [], ◌∷◌, length, Some}
use Rattle.std.proofs.Common.{sym, ap, ◌∙◌, subst, arith}
use Rattle.std.specs.Prelude.{slice_get, slice_index_or}
use Rattle.std.proofs.lemmas.Bool.{lt-ltb, ltb-true}
use Rattle.code_language.specs.declared.code.RawCode.{RawCode}
use Rattle.code_language.specs.Code.{Code, code_of, fetch, instructions}
use Rattle.code_language.specs.Instrs.{Instr, Unless, Result, Ret}
use Rattle.code_language.specs.Sound.{IsProc}
use Rattle.code_language.specs.WellFormed.{known_of, IsCode}
use Rattle.code_language.proofs.Sound.{code_parts, proc_at, proc_there}
use Rattle.code_shrink.specs.Follows.{renamed, Follows, HasCopy}
use Rattle.code_shrink.specs.Numbers.{number_by}
use Rattle.code_shrink.specs.Shrunk.{IsThere, KeepsResults}
use Rattle.code_shrink.proofs.Endings.{copy_alike}
use Rattle.code_copies.specs.SameRuns.{HasSameRuns}
use Rattle.code_merging.specs.Merged.{under}
use Rattle.code_merging.proofs.MergedFollows.{is_there, merged_follows}
use Rattle.code_pure_copies.specs.PureCopies.{ArePureCopies}

-- ---- lists

-- a procedure of which an instruction is found is there
proc_found : (procs : List (List Instr)) (p i : ℕ) (x : Instr) → slice_get (slice_index_or procs p []) i ≡ Some x
    → p < length procs
proc_found [] p i x e = absurd (cc e)
proc_found (is ∷ procs) zero i x e = omega arith
proc_found (is ∷ procs) (suc p) i x e = let less = proc_found procs p i x e in omega (arith, less)

-- an instruction that is found, with other numbers
found_under : (m : ℕ → ℕ) (is : List Instr) (i : ℕ) (x : Instr) → slice_get is i ≡ Some x
    → slice_get (under m is) i ≡ Some (renamed m x)
found_under m [] i x e = absurd (cc e)
found_under m (y ∷ is) zero x e = let same : y ≡ x = cc e in ap (λ z. Some (renamed m z)) same
found_under m (y ∷ is) (suc i) x e = found_under m is i x e

module _ (k k' : Code) (origins : List ℕ) (well : IsCode k') (pure : ArePureCopies k k' origins) where
  -- the origin of a procedure
  abbrev origin : ℕ → ℕ
  origin = number_by origins

  -- a procedure is sound
  is_sound : (p : ℕ) → p < length k'.procedures.procs → IsProc (known_of k') p (slice_index_or k'.procedures.procs p [])
  is_sound p h =
      let procs = k'.procedures.procs in
      let n : 0 + p ≡ p = omega arith in
      subst (λ i. IsProc (known_of k') i (slice_index_or procs p [])) n
      (proc_at (known_of k') procs 0 p (slice_index_or procs p []) (code_parts k' well).procs (proc_there procs p h))

  -- with the numbers of origins it has the instructions of its origin
  at_origin : (p : ℕ) → p < length k'.procedures.procs
      → under origin (slice_index_or k'.procedures.procs p []) ≡ slice_index_or k.procedures.procs (origin p) []
  unfolding instructions
  at_origin p h = let size = pure.size in (pure.each p (omega (arith, h, size))).same

  -- the origin does what the procedure does
  origin_follows : (p : ℕ) → p < length k'.procedures.procs
      → Follows (is_there (known_of k')) origin (slice_index_or k'.procedures.procs p [])
      (slice_index_or k.procedures.procs (origin p) [])
  origin_follows p h =
      subst (λ l. Follows (is_there (known_of k')) origin (slice_index_or k'.procedures.procs p []) l) (at_origin p h)
      (merged_follows (known_of k') origin p (slice_index_or k'.procedures.procs p []) (is_sound p h))

  -- the code does what that of the copies does
  has_copy : HasCopy (is_there (known_of k')) origin k' k
  unfolding instructions
  has_copy =
      let count = length k'.procedures.procs in
      let parts = code_parts k' well in
      record {
        tree = sym pure.tree;
        names = sym pure.names;
        procedures = record {
          start = lt-ltb k'.procedures.start count parts.start;
          start_at = sym pure.start;
          react = lt-ltb k'.procedures.react count parts.react;
          react_at = sym pure.react;
          each = λ p e. origin_follows p (ltb-true p count e);
        };
      }

  -- an instruction of the copies is one of the code, with other numbers
  was_there : (p i : ℕ) (x : Instr) → fetch k'.procedures p i ≡ Some x → IsThere k.procedures (renamed origin x)
  unfolding fetch instructions
  was_there p i x e =
      let h = proc_found k'.procedures.procs p i x e in
      let found = found_under origin (slice_index_or k'.procedures.procs p []) i x e in
      let same = ap (λ is. slice_get is i) (at_origin p h) in
      record { proc = origin p; place = i; stands = sym same ∙ found }

  -- its results are results of the code
  pure_results : KeepsResults k.procedures k'.procedures
  unfolding renamed
  pure_results = record {
    returned = λ p i r e. was_there p i (Ret r) e;
    tested = λ p i j r e. (j, was_there p i (Unless j (Result r)) e);
  }

  -- it has the same runs
  pub pure_same_runs : HasSameRuns k k'
  pure_same_runs = record {
    well_formed = well;
    tree = pure.tree;
    names = pure.names;
    runs = λ b names events moments.
        let same = copy_alike k' k (is_there (known_of k')) origin has_copy b names events moments in (same.1, same.0);
    results = pure_results;
  }

-- so has code that is accepted as it was made
pub accepted_same_runs : (k : Code) (raw made : RawCode) (origins : List ℕ) → made ≡ raw → IsCode (code_of made)
    → ArePureCopies k (code_of raw) origins → HasSameRuns k (code_of made)
accepted_same_runs k raw made origins is well pure =
    pure_same_runs k (code_of made) origins well
    (subst (λ (code : RawCode). ArePureCopies k (code_of code) origins) (sym is) pure)
