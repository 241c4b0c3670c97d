-- How the tests of acceptance go over procedures as the code has them.
use Rattle.std.proofs.Common.{◌≡◌, ℕ, zero, suc, ◌+◌, ◌-◌, ◌<◌, ◌≤◌, ◌||◌, Bool, true, false, List, [], ◌∷◌, length}
use Rattle.std.proofs.Common.{drop, get_or, Option, Some, None, is_some, refl, sym, ap, ◌∙◌, arith}
use Rattle.std.specs.Prelude.{nat_lt}
use Rattle.std.specs.List.{list_any}
use Rattle.std.proofs.lemmas.Bool.Decides.{nat_tests}
use Rattle.std.proofs.lemmas.List.{length-map, length-drop}
use Rattle.flow_base.specs.declared.list.List.{List as Seq}
use Rattle.flow_base.specs.Lists.{items_of}
use Rattle.active_config.specs.Tree.{state_count}
use Rattle.code_language.specs.declared.code.RawState.{RawState}
use Rattle.code_language.specs.declared.fault.CodeFault.{CodeFault}
use Rattle.code_language.specs.declared.instr.Instr.{Instr}
use Rattle.code_language.specs.declared.limits.TheConstants.{PROC_LIMIT, INSTR_LIMIT}
use Rattle.code_language.specs.Acceptance.{procs_of}
use Rattle.code_language.specs.Code.{instr_of, instrs_of, tree_of_states}
use Rattle.code_language.specs.Instrs as code
use Rattle.code_language.specs.declared.fault.CodeKind.TheVariants as kinds
use Rattle.code_language.specs.WellFormed.{Known, first_of, fault_at, unless, instr_known, skips_within, calls_lower}
use Rattle.code_language.specs.WellFormed.{instr_typed, is_ret, last_returns, instr_keeps}
use Rattle.code_language.specs.WellFormed.{instr_fault, instrs_fault, proc_fault, procs_fault, too_many}
use Rattle.code_language.proofs.Accepted.{passes}
use Rattle.code_language.proofs.Greatest.{fails}
use Rattle.code_language.proofs.ListLemmas.{drop_map_at, drop_past, or_false}

-- there are as many states as are written
pub states_counted : (states : List RawState) → state_count (tree_of_states states) ≡ length states
unfolding state_count
states_counted states = length-map states (λ (s : RawState). s.parent)

-- a procedure that is too long makes too many, where there aren't too many procedures
pub too_long : (xs : List (Seq Instr)) → length xs ≤ PROC_LIMIT
    → list_any (λ (x : Seq Instr). nat_lt INSTR_LIMIT (length (items_of x))) xs ≡ too_many (procs_of xs)
too_long xs few =
    let short : nat_lt PROC_LIMIT (length (procs_of xs)) ≡ false =
    rw (length-map xs (λ (x : Seq Instr). instrs_of (items_of x))) (grind (arith, nat_tests)) in
    sym (ap (λ b. b || list_any (λ (is : List code.Instr). nat_lt INSTR_LIMIT (length is)) (procs_of xs)) short
    ∙ lengths xs)
  where
    one : (x : Seq Instr)
        → nat_lt INSTR_LIMIT (length (instrs_of (items_of x))) ≡ nat_lt INSTR_LIMIT (length (items_of x))
    one x = ap (nat_lt INSTR_LIMIT) (length-map (items_of x) instr_of)

    lengths : (xs : List (Seq Instr))
        → list_any (λ (is : List code.Instr). nat_lt INSTR_LIMIT (length is)) (procs_of xs)
        ≡ list_any (λ (x : Seq Instr). nat_lt INSTR_LIMIT (length (items_of x))) xs
    lengths [] = refl
    lengths (x ∷ xs) =
        ap (λ b. b || list_any (λ (is : List code.Instr). nat_lt INSTR_LIMIT (length is)) (procs_of xs)) (one x)
        ∙ ap (λ b. nat_lt INSTR_LIMIT (length (items_of x)) || b) (lengths xs)

-- where there aren't too many, there are few procedures
pub few_procs : (xs : List (Seq Instr)) → too_many (procs_of xs) ≡ false → length xs ≤ PROC_LIMIT
few_procs xs h =
    let few = (or_false (nat_lt PROC_LIMIT (length (procs_of xs))) _ h).0 in
    let same : length (procs_of xs) ≡ length xs = length-map xs (λ (x : Seq Instr). instrs_of (items_of x)) in
    rw (← same) (grind (arith, nat_tests))

-- and none is too long
pub none_long : (xs : List (Seq Instr)) → too_many (procs_of xs) ≡ false
    → list_any (λ (x : Seq Instr). nat_lt INSTR_LIMIT (length (items_of x))) xs ≡ false
none_long xs h = too_long xs (few_procs xs h) ∙ h

-- a procedure is short where none is too long
pub short_proc : (xs : List (Seq Instr)) (p : ℕ) (x : Seq Instr)
    → list_any (λ (x : Seq Instr). nat_lt INSTR_LIMIT (length (items_of x))) xs ≡ false → p < length xs
    → x ≡ get_or xs p x → length (items_of x) ≤ INSTR_LIMIT
short_proc [] p x h lt is = absurd (omega arith)
short_proc (y ∷ ys) zero x h lt is =
    let here = (or_false (nat_lt INSTR_LIMIT (length (items_of y))) _ h).0 in
    rw is (grind (arith, nat_tests))
short_proc (y ∷ ys) (suc p) x h lt is =
    short_proc ys p x (or_false (nat_lt INSTR_LIMIT (length (items_of y))) _ h).1 (omega arith) is

-- the first fault of the instructions from one on is its own, or else that of those after it
pub instrs_fault-drop : (K : Known) (p : ℕ) (xs : List Instr) (i : ℕ) (x : Instr) → i < length xs → x ≡ get_or xs i x
    → instrs_fault K p i (drop i (instrs_of xs))
    ≡ first_of (instr_fault K p i (instr_of x) (drop (i + 1) (instrs_of xs))) (instrs_fault K p (i + 1) (drop (i + 1) (instrs_of xs)))
unfolding instrs_fault
instrs_fault-drop K p xs i x lt is = ap (instrs_fault K p i) (drop_map_at instr_of xs i x lt is)

-- the first fault of the procedures from one on is its own, or else that of those after it
pub procs_fault-drop : (K : Known) (xs : List (Seq Instr)) (p : ℕ) (x : Seq Instr) → p < length xs → x ≡ get_or xs p x
    → procs_fault K p (drop p (procs_of xs))
    ≡ first_of (proc_fault K p (instrs_of (items_of x))) (procs_fault K (p + 1) (drop (p + 1) (procs_of xs)))
unfolding procs_fault
procs_fault-drop K xs p x lt is =
    ap (procs_fault K p) (drop_map_at (λ (x : Seq Instr). instrs_of (items_of x)) xs p x lt is)

-- a fault that is there is the first of two
pub first_of-some : (o later : Option CodeFault) → is_some o ≡ true → first_of o later ≡ o
first_of-some None later h = absurd (cc h)
first_of-some (Some fault) later h = refl

-- where there is none the later one is the first
pub first_of-none : (o later : Option CodeFault) → is_some o ≡ false → first_of o later ≡ later
first_of-none None later h = refl
first_of-none (Some fault) later h = absurd (cc h)

-- ---- the first fault of one instruction, by the tests that hold before the one that fails

module _ (K : Known) (p i : ℕ) (x : code.Instr) (rest : List code.Instr) where
  -- the test of what it names fails
  pub at_known : instr_known K x ≡ false → fault_at kinds.BadNumber p i ≡ instr_fault K p i x rest
  unfolding instr_fault
  at_known h = sym (fails (instr_known K x) kinds.BadNumber p i _ h)

  module _ (known : instr_known K x ≡ true) where
    -- that of its skip
    pub at_within : skips_within (length rest) x ≡ false → fault_at kinds.SkipOut p i ≡ instr_fault K p i x rest
    unfolding instr_fault
    at_within h = sym (passes _ _ p i _ known ∙ fails (skips_within (length rest) x) kinds.SkipOut p i _ h)

    module _ (within : skips_within (length rest) x ≡ true) where
      -- that of its call
      pub at_lower : calls_lower p x ≡ false → fault_at kinds.CallNotLower p i ≡ instr_fault K p i x rest
      unfolding instr_fault
      at_lower h = sym (passes _ _ p i _ known ∙ passes _ _ p i _ within
          ∙ fails (calls_lower p x) kinds.CallNotLower p i _ h)

      module _ (lower : calls_lower p x ≡ true) where
        -- that of its types
        pub at_typed : instr_typed K x ≡ false → fault_at kinds.CodeTypes p i ≡ instr_fault K p i x rest
        unfolding instr_fault
        at_typed h =
            sym (passes _ _ p i _ known ∙ passes _ _ p i _ within ∙ passes _ _ p i _ lower
            ∙ fails (instr_typed K x) kinds.CodeTypes p i _ h)

        module _ (typed : instr_typed K x ≡ true) where
          -- that of the return
          pub at_last : last_returns x rest ≡ false → fault_at kinds.NoRet p i ≡ instr_fault K p i x rest
          unfolding instr_fault
          at_last h =
              sym (passes _ _ p i _ known ∙ passes _ _ p i _ within ∙ passes _ _ p i _ lower ∙ passes _ _ p i _ typed
              ∙ fails (last_returns x rest) kinds.NoRet p i _ h)

          -- where the others hold, it is that of keeping
          pub at_keeps : last_returns x rest ≡ true → (b : Bool) → instr_keeps K x ≡ b
              → unless b kinds.BadKeep p i ≡ instr_fault K p i x rest
          unfolding instr_fault
          at_keeps last b e =
              ap (λ c. unless c kinds.BadKeep p i) (sym e)
              ∙ sym (passes _ _ p i _ known ∙ passes _ _ p i _ within ∙ passes _ _ p i _ lower ∙ passes _ _ p i _ typed
              ∙ passes _ _ p i _ last)

-- one that stands before others needn't return
pub before_others : (x : code.Instr) (rest : List code.Instr) (n : ℕ) → length rest ≡ n → 0 < n
    → nat_lt 0 n ≡ last_returns x rest
before_others x [] n e lt = absurd (omega arith)
before_others x (y ∷ rest) n e lt = let above : nat_lt 0 n ≡ true = grind (arith, nat_tests) in above

-- the last one has to
pub alone : (x : code.Instr) (rest : List code.Instr) (n : ℕ) → length rest ≡ n → n ≤ 0 → is_ret x ≡ last_returns x rest
alone x [] n e le = refl
alone x (y ∷ rest) n e le = absurd (omega arith)

-- a procedure without instructions
pub empty_proc : (K : Known) (p : ℕ) (xs : List Instr) → length xs ≡ 0
    → fault_at kinds.NoRet p 0 ≡ proc_fault K p (instrs_of xs)
unfolding proc_fault
empty_proc K p [] e = refl
empty_proc K p (x ∷ xs) e = absurd (omega arith)

-- another one has the first fault of its instructions
pub some_proc : (K : Known) (p : ℕ) (xs : List Instr) → 0 < length xs
    → instrs_fault K p 0 (instrs_of xs) ≡ proc_fault K p (instrs_of xs)
unfolding proc_fault
some_proc K p [] lt = absurd (omega arith)
some_proc K p (x ∷ xs) lt = refl

-- where none is left there is no fault
pub no_instrs_left : (K : Known) (p : ℕ) (xs : List Instr) (i : ℕ) → length xs ≤ i
    → instrs_fault K p i (drop i (instrs_of xs)) ≡ None
unfolding instrs_fault
no_instrs_left K p xs i le =
    ap (instrs_fault K p i) (drop_past (instrs_of xs) i (omega (arith, length-map xs instr_of)))

-- nor a procedure
pub no_procs_left : (K : Known) (xs : List (Seq Instr)) (p : ℕ) → length xs ≤ p
    → procs_fault K p (drop p (procs_of xs)) ≡ None
unfolding procs_fault
no_procs_left K xs p le =
    ap (procs_fault K p) (drop_past (procs_of xs) p (omega (arith, length-map xs (λ (x : Seq Instr). instrs_of (items_of x)))))

-- so many stand after the one at a place
pub left_behind : (xs : List Instr) (i : ℕ) → i < length xs → length (drop (i + 1) (instrs_of xs)) ≡ length xs - i - 1
left_behind xs i lt = omega (arith, length-drop (i + 1) (instrs_of xs), length-map xs instr_of)
