-- The numbers that the procedures of smaller code had.
use Rattle.std.proofs.Common.{◌≡◌, ◌≤◌, ◌<◌, ℕ, zero, suc, ◌+◌, Bool, true, false, List, [], ◌∷◌, length}
use Rattle.std.proofs.Common.{refl, sym, ap, ◌∙◌, subst, arith}
use Rattle.std.specs.Prelude.{slice_index}
use Rattle.code_language.specs.Code.{Procedures}
use Rattle.code_language.specs.Instrs.{Instr}
use Rattle.code_shrink.specs.Origins.{kept_from, HadNumbers}
use Rattle.code_shrink.specs.Numbers.{number_by}
use Rattle.code_shrink.specs.Whole.{number_in, collected, smaller_procedures, AllReached, IsExact}
use Rattle.code_shrink.proofs.WholeLemmas.{are_made}

-- there is one for each procedure that is kept
pub kept_length : (p : ℕ) (m : ℕ → ℕ) (live : List Bool) (flags : List (List Bool)) (procs : List (List Instr))
    → AllReached live flags procs → length (kept_from p live) ≡ length (collected m live flags procs)
kept_length p m [] [] [] all = refl
kept_length p m [] [] (is ∷ procs) all = absurd all
kept_length p m [] (bs ∷ flags) procs all = absurd all
kept_length p m (b ∷ live) [] procs all = absurd all
kept_length p m (b ∷ live) (bs ∷ flags) [] all = absurd all
kept_length p m (true ∷ live) (bs ∷ flags) (is ∷ procs) all =
    ap suc (kept_length (suc p) m live flags procs all.1)
kept_length p m (false ∷ live) (bs ∷ flags) (is ∷ procs) all = kept_length (suc p) m live flags procs all.1

-- each is the number of a procedure
pub kept_below : (p n : ℕ) (live : List Bool) → p + length live ≤ n → (i : ℕ) → i < length (kept_from p live)
    → slice_index (kept_from p live) i < n
kept_below p n [] le i lt = absurd (omega (arith, lt))
kept_below p n (true ∷ live) le zero lt = omega (arith, le)
kept_below p n (true ∷ live) le (suc i) lt = kept_below (suc p) n live (omega (arith, le)) i (omega (arith, lt))
kept_below p n (false ∷ live) le i lt = kept_below (suc p) n live (omega (arith, le)) i lt

-- as many flags as procedures
flags_all : (live : List Bool) (flags : List (List Bool)) (procs : List (List Instr)) → AllReached live flags procs
    → length live ≡ length procs
flags_all [] [] [] all = refl
flags_all [] [] (is ∷ procs) all = absurd all
flags_all [] (bs ∷ flags) procs all = absurd all
flags_all (b ∷ live) [] procs all = absurd all
flags_all (b ∷ live) (bs ∷ flags) [] all = absurd all
flags_all (b ∷ live) (bs ∷ flags) (is ∷ procs) all = ap suc (flags_all live flags procs all.1)

-- smaller procedures had the numbers of those that are kept
had_numbers : (live : List Bool) (flags : List (List Bool)) (k k' : Procedures) (origins : List ℕ)
    → IsExact live flags k → k' ≡ smaller_procedures live flags k → origins ≡ kept_from 0 live → HadNumbers k k' origins
had_numbers live flags k k' origins exact made kept = record {
  smaller = record { live = live; flags = flags; exact = exact; made = made };
  kept = kept;
  size =
      ap length kept ∙ kept_length 0 (number_in live) live flags k.procs exact.places
      ∙ ap (λ (ks : Procedures). length ks.procs) (sym made);
  within = λ i lt.
      let all = flags_all live flags k.procs exact.places in
      let long = ap length kept in
      subst (λ l. slice_index l i < length k.procs) (sym kept)
      (kept_below 0 (length k.procs) live (omega (arith, all)) i (omega (arith, lt, long)));
}

-- so do those that are made of what is kept
pub made_had_numbers : (live : List Bool) (flags : List (List Bool)) (k : Procedures) (numbers : List ℕ)
    (procs : List (List Instr)) (start react : ℕ) (origins : List ℕ) → IsExact live flags k
    → ((p : ℕ) → number_by numbers p ≡ number_in live p) → procs ≡ collected (number_by numbers) live flags k.procs
    → start ≡ number_by numbers k.start → react ≡ number_by numbers k.react → origins ≡ kept_from 0 live
    → HadNumbers k (record { procs = procs; start = start; react = react }) origins
made_had_numbers live flags k numbers procs start react origins exact same made first second kept =
    had_numbers live flags k (record { procs = procs; start = start; react = react }) origins exact
    (are_made live flags k numbers procs start react same made first second) kept
