-- Code in which procedures stand for equal ones is well formed and has the same runs.
use Rattle.std.proofs.Common.{◌≡◌, ◌≤◌, ◌<◌, ℕ, zero, suc, ◌+◌, true, false, List, [], ◌∷◌, length, map}
use Rattle.std.proofs.Common.{Some, refl, sym, ap, ◌∙◌, subst, arith}
use Rattle.std.specs.Prelude.{slice_get, slice_index, slice_index_or, nat_lt, min}
use Rattle.std.specs.List.{list_any}
use Rattle.std.proofs.lemmas.Bool.{lt-ltb, ltb-true, and_from}
use Rattle.std.proofs.lemmas.List.{length-map}
use Rattle.flow_base.specs.Lists.{items_of}
use Rattle.code_language.specs.declared.code.RawCode.{RawCode}
use Rattle.code_language.specs.Code.{Code, code_of, instrs_of, instructions, fetch}
use Rattle.code_language.specs.Instrs.{Instr, Unless, Result, Ret}
use Rattle.code_language.specs.Measures.{reckon, heights, works, height_by, work_by}
use Rattle.code_language.specs.Sound.{IsProc, AreProcs, CallsBelow}
use Rattle.code_language.specs.WellFormed.{known_of, with_procs, too_many, starts_known, later_fault, IsCode}
use Rattle.code_language.specs.WellFormed.{first_over, unless, procs_fault}
use Rattle.code_language.specs.declared.fault.CodeKind.TheVariants as kinds
use Rattle.code_language.specs.declared.limits.TheConstants.{PROC_LIMIT, INSTR_LIMIT, HEIGHT_LIMIT, WORK_LIMIT}
use Rattle.code_language.proofs.Accepted.{no_procs_fault, none_over, first_none, holds_none}
use Rattle.code_language.proofs.ListLemmas.{or_false}
use Rattle.code_language.proofs.Measures.{height_measure, work_measure}
use Rattle.code_language.proofs.Reckoned.{IsMeasure, reckon_is, reckon_bounded}
use Rattle.code_language.proofs.Sound.{code_parts, proc_at, proc_there, calls_at}
use Rattle.code_shrink.specs.Follows.{renamed, Follows, HasCopy}
use Rattle.code_shrink.specs.Shrunk.{KeepsResults}
use Rattle.code_shrink.proofs.Endings.{copy_alike}
use Rattle.code_copies.specs.SameRuns.{HasSameRuns}
use Rattle.code_copies.proofs.MadeWhole.{too_long, all_within, neither, neither_holds, none_at, none_long}
use Rattle.code_shrink.specs.Numbers.{number_by}
use Rattle.code_shrink.proofs.WholeCode.{procs_by}
use Rattle.code_merging.specs.Merged.{under, AreEqual, merged_code}
use Rattle.code_merging.proofs.MergedFollows.{is_there, merged_follows}
use Rattle.code_merging.proofs.MergedMeasured.{under_height, under_work}
use Rattle.code_merging.proofs.MergedResults.{renamed_return, renamed_test, was_in}
use Rattle.code_merging.proofs.MergedSound.{under_proc}

-- ---- lists

module _ (m : ℕ → ℕ) where
  -- a procedure by its number
  under_at : (procs : List (List Instr)) (p : ℕ)
      → slice_index_or (map (under m) procs) p [] ≡ under m (slice_index_or procs p [])
  under_at [] p = refl
  under_at (is ∷ procs) zero = refl
  under_at (is ∷ procs) (suc p) = under_at procs p

  -- a procedure that stands there was one
  was_under : (procs : List (List Instr)) (p : ℕ) (now : List Instr) → slice_get (map (under m) procs) p ≡ Some now
      → (p < length procs) × (under m (slice_index_or procs p []) ≡ now)
  was_under [] p now e = absurd (cc e)
  was_under (is ∷ procs) zero now e = let same : under m is ≡ now = cc e in (omega arith, same)
  was_under (is ∷ procs) (suc p) now e =
      let w = was_under procs p now e in let less = w.0 in (omega (arith, less), w.1)

-- well-formed code has a procedure
pub some_there : (raw : RawCode) → IsCode (code_of raw) → 0 < length (items_of raw.procs)
some_there raw well =
    let start = (code_parts (code_of raw) well).start in
    omega (arith, start, length-map (items_of raw.procs) (λ is. instrs_of (items_of is)))

module _ (m : ℕ → ℕ) (k : Code) (well : IsCode k) (equal : AreEqual m k.procedures) where
  -- the procedures of the code
  abbrev pub procs_old : List (List Instr)
  procs_old = k.procedures.procs

  -- those of the code that is made
  abbrev pub procs_now : List (List Instr)
  procs_now = map (under m) procs_old

  -- the code that is made
  abbrev pub merged : Code
  merged = merged_code m k

  -- as many
  size : length procs_now ≡ length procs_old
  size = length-map procs_old (under m)

  -- they may name the same
  known_same : known_of k ≡ known_of merged
  known_same = ap (λ n. with_procs (known_of k) n) (sym size)

  -- what stands for a procedure has no higher number
  lower : (q : ℕ) → q < length procs_old → m q ≤ q
  lower q h = (equal q h).lower

  -- a procedure that was there is sound
  was_sound : (p : ℕ) → p < length procs_old → IsProc (known_of k) p (slice_index_or procs_old p [])
  was_sound p h =
      let n : 0 + p ≡ p = omega arith in
      subst (λ i. IsProc (known_of k) i (slice_index_or procs_old p [])) n
      (proc_at (known_of k) procs_old 0 p (slice_index_or procs_old p []) (code_parts k well).procs
      (proc_there procs_old p h))

  -- each is sound
  each_sound : (p : ℕ) (now : List Instr) → slice_get procs_now p ≡ Some now → IsProc (known_of k) p now
  each_sound p now e =
      let w = was_under m procs_old p now e in
      subst (λ l. IsProc (known_of k) p l) w.1
      (under_proc (known_of k) p m lower (slice_index_or procs_old p []) (was_sound p w.0))

  -- so are all
  sound_now : AreProcs (known_of merged) 0 procs_now
  sound_now =
      subst (λ K. AreProcs K 0 procs_now) known_same
      (procs_by (known_of k) 0 procs_now (λ p now e.
      let n : p ≡ 0 + p = omega arith in subst (λ i. IsProc (known_of k) i now) n (each_sound p now e)))

  -- ---- height and work

  module _ (F : (ℕ → ℕ) → List Instr → ℕ) (measure : IsMeasure F)
      (by_names : (w : ℕ → ℕ) (is : List Instr) → F w (under m is) ≡ F (λ q. w (m q)) is) where
    -- the number of a procedure
    abbrev pub old : ℕ → ℕ
    old = slice_index (reckon F [] procs_old)

    -- and in the code that is made
    abbrev pub new : ℕ → ℕ
    new = slice_index (reckon F [] procs_now)

    -- it is that of its instructions
    own_old : (p : ℕ) → p < length procs_old → old p ≡ F old (slice_index_or procs_old p [])
    own_old p h =
        let is = slice_index_or procs_old p [] in
        let n : length {A = ℕ} [] + p ≡ p = omega arith in
        let own = reckon_is F measure procs_old [] p is (proc_there procs_old p h)
        (subst (λ l. CallsBelow l is) (sym n)
        (calls_at (known_of k) procs_old p is (code_parts k well).procs (proc_there procs_old p h))) in
        subst (λ l. old l ≡ F old is) n own

    -- a procedure of the code that is made
    now_there : (p : ℕ) → p < length procs_old
        → slice_get procs_now p ≡ Some (under m (slice_index_or procs_old p []))
    now_there p h = proc_there procs_now p (omega (arith, h, size)) ∙ ap Some (under_at m procs_old p)

    -- so is the new one
    own_new : (p : ℕ) → p < length procs_old → new p ≡ F new (under m (slice_index_or procs_old p []))
    own_new p h =
        let is = under m (slice_index_or procs_old p []) in
        let n : length {A = ℕ} [] + p ≡ p = omega arith in
        let own = reckon_is F measure procs_now [] p is (now_there p h)
        (subst (λ l. CallsBelow l is) (sym n)
        (calls_at (known_of merged) procs_now p is sound_now (now_there p h))) in
        subst (λ l. new l ≡ F new is) n own

    -- what stands for a procedure has its number
    shared : (q : ℕ) → q < length procs_old → new (m q) ≡ new q
    shared q h =
        let low = lower q h in
        own_new (m q) (omega (arith, h, low)) ∙ ap (F new) (equal q h).same ∙ sym (own_new q h)

    -- the lower one of the two numbers
    abbrev pub less : ℕ → ℕ
    less q = min (new q) (old q)

    -- the new number is no greater
    below : (n p : ℕ) → p < n → p < length procs_old → new p ≤ old p
    below zero p h within = absurd (omega (arith, h))
    below (suc n) p h within =
        let is = slice_index_or procs_old p [] in
        let calls = calls_at (known_of k) procs_old p is (code_parts k well).procs (proc_there procs_old p within) in
        let made : new p ≡ F (λ q. new (m q)) is = own_new p within ∙ by_names new is in
        let lower_ones : F (λ q. new (m q)) is ≡ F less is =
        measure.agrees (λ q. new (m q)) less p is calls (λ q g.
        let q_less = below n q (omega (arith, h, g)) (omega (arith, g, within)) in
        let q_same : new q ≡ min (new q) (old q) = omega (arith, q_less) in
        shared q (omega (arith, g, within)) ∙ q_same) in
        let grown = measure.grows less old is (λ q. omega arith) in
        let own = own_old p within in
        omega (arith, made, lower_ones, grown, own)

    -- nor is any
    all_below : (p : ℕ) → new p ≤ old p
    all_below p =
        let bound = reckon_bounded F measure less procs_now [] (λ q. omega arith) (λ q now e.
        let w = was_under m procs_old q now e in
        let n : q ≡ length {A = ℕ} [] + q = omega arith in
        let grown = measure.grows less new now (λ i. omega arith) in
        let own = own_new q w.0 in
        let own_now : F new (under m (slice_index_or procs_old q [])) ≡ F new now = ap (F new) w.1 in
        let down = below (suc q) q (omega arith) w.0 in
        let here : F less now ≤ less q = omega (arith, grown, own, own_now, down) in
        subst (λ l. F less now ≤ less l) n here) p in
        omega (arith, bound)

  -- no procedure is higher than there may be
  heights_within : (p : ℕ) → slice_index (heights procs_now) p ≤ HEIGHT_LIMIT
  unfolding later_fault
  heights_within p =
      let starts = first_none (unless (starts_known k.procedures) kinds.BadNumber 0 0) _ well.sound in
      let procs = first_none (procs_fault (known_of k) 0 k.procedures.procs) _ starts.1 in
      let high = first_none (first_over HEIGHT_LIMIT kinds.TooHigh 0 (heights k.procedures.procs)) _ procs.1 in
      let a = all_within HEIGHT_LIMIT kinds.TooHigh 0 (heights k.procedures.procs) high.0 p in
      let b = all_below height_by height_measure (under_height m) p in
      omega (arith, a, b)

  -- and none works more
  works_within : (p : ℕ) → slice_index (works procs_now) p ≤ WORK_LIMIT
  unfolding later_fault
  works_within p =
      let starts = first_none (unless (starts_known k.procedures) kinds.BadNumber 0 0) _ well.sound in
      let procs = first_none (procs_fault (known_of k) 0 k.procedures.procs) _ starts.1 in
      let high = first_none (first_over HEIGHT_LIMIT kinds.TooHigh 0 (heights k.procedures.procs)) _ procs.1 in
      let a = all_within WORK_LIMIT kinds.TooMuchWork 0 (works k.procedures.procs) high.1 p in
      let b = all_below work_by work_measure (under_work m) p in
      omega (arith, a, b)

  -- ---- well formed

  -- none is too long
  each_short : (p : ℕ) (now : List Instr) → slice_get procs_now p ≡ Some now → too_long now ≡ false
  each_short p now e =
      let w = was_under m procs_old p now e in
      let is = slice_index_or procs_old p [] in
      let was = none_at procs_old p is
      (or_false (nat_lt PROC_LIMIT (length procs_old)) (list_any too_long procs_old) well.few).1
      (proc_there procs_old p w.0) in
      subst (λ l. too_long l ≡ false) w.1
      (ap (λ n. nat_lt INSTR_LIMIT n) (length-map is (renamed m)) ∙ was)

  -- there are few enough
  few_now : too_many procs_now ≡ false
  few_now =
      neither_holds (nat_lt PROC_LIMIT (length procs_now)) (list_any too_long procs_now)
      (ap (λ n. nat_lt PROC_LIMIT n) size
      ∙ (or_false (nat_lt PROC_LIMIT (length procs_old)) (list_any too_long procs_old) well.few).0)
      (none_long procs_now each_short)

  -- what stands for a procedure is there
  there_now : (p : ℕ) → p < length procs_old → nat_lt (m p) (length procs_now) ≡ true
  there_now p h = let low = lower p h in lt-ltb (m p) (length procs_now) (omega (arith, h, low, size))

  -- the procedures of the start and of a reaction are there
  starts_now : starts_known merged.procedures ≡ true
  starts_now =
      let parts = code_parts k well in
      and_from (nat_lt (m k.procedures.start) (length procs_now)) (nat_lt (m k.procedures.react) (length procs_now))
      (there_now k.procedures.start parts.start) (there_now k.procedures.react parts.react)

  -- the code is well formed
  merged_is_code : IsCode merged
  unfolding later_fault
  merged_is_code = record {
    few = few_now;
    table = well.table;
    sound =
        neither (unless (starts_known merged.procedures) kinds.BadNumber 0 0) _
        (holds_none (starts_known merged.procedures) kinds.BadNumber 0 0 starts_now)
        (neither (procs_fault (known_of merged) 0 procs_now) _
        (no_procs_fault (known_of merged) 0 procs_now sound_now)
        (neither (first_over HEIGHT_LIMIT kinds.TooHigh 0 (heights procs_now)) _
        (none_over HEIGHT_LIMIT kinds.TooHigh 0 (heights procs_now) heights_within)
        (none_over WORK_LIMIT kinds.TooMuchWork 0 (works procs_now) works_within)));
  }

  -- ---- runs and results

  -- each procedure does what it did
  merged_copy : HasCopy (is_there (known_of k)) m k merged
  unfolding instructions
  merged_copy =
      let parts = code_parts k well in
      record {
        tree = refl;
        names = refl;
        procedures = record {
          start = lt-ltb k.procedures.start (length procs_old) parts.start;
          start_at = refl;
          react = lt-ltb k.procedures.react (length procs_old) parts.react;
          react_at = refl;
          each = λ p e.
              let h = ltb-true p (length procs_old) e in
              subst
              (λ l. Follows (is_there (known_of k)) m (slice_index_or procs_old p []) l)
              (sym (under_at m procs_old (m p) ∙ (equal p h).same))
              (merged_follows (known_of k) m p (slice_index_or procs_old p []) (was_sound p h));
        };
      }

  -- its results are results of the code
  merged_results : KeepsResults k.procedures merged.procedures
  unfolding fetch instructions
  merged_results = record {
    returned = λ p i r e.
        let w = was_in m procs_old p i (Ret r) e in
        record { proc = p; place = i; stands = w.1 ∙ ap Some (renamed_return m w.0 r w.2) };
    tested = λ p i j r e.
        let w = was_in m procs_old p i (Unless j (Result r)) e in
        (j, record { proc = p; place = i; stands = w.1 ∙ ap Some (renamed_test m w.0 j r w.2) });
  }

  -- it has the same runs
  pub merged_same_runs : HasSameRuns k merged
  merged_same_runs = record {
    well_formed = merged_is_code;
    tree = refl;
    names = refl;
    runs = copy_alike k merged (is_there (known_of k)) m merged_copy;
    results = merged_results;
  }

-- code that is made by a table of numbers has the same runs
pub runs_by_table : (k k' : Code) (numbers seen : List ℕ) → IsCode k → AreEqual (number_by numbers) k.procedures
    → numbers ≡ seen → k' ≡ merged_code (number_by seen) k → HasSameRuns k k'
runs_by_table k k' numbers seen well equal same is =
    let now = is ∙ ap (λ ns. merged_code (number_by ns) k) (sym same) in
    subst (HasSameRuns k) (sym now) (merged_same_runs (number_by numbers) k well equal)
