-- The first fault of code by its parts, and that there is one at most.
use Rattle.std.proofs.Common.{◌≡◌, ◌<◌, Bool, true, false, length, Option, Some, None, refl, ◌∙◌}
use Rattle.std.specs.Prelude.{nat_lt}
use Rattle.std.proofs.lemmas.Bool.{and_parts, ltb-true}
use Rattle.code_language.specs.declared.fault.CodeEnd.{CodeEnd}
use Rattle.code_language.specs.declared.fault.CodeEnd.TheVariants as ends
use Rattle.code_language.specs.declared.fault.CodeFault.{CodeFault}
use Rattle.code_language.specs.declared.fault.CodeKind.TheVariants as kinds
use Rattle.code_language.specs.declared.limits.TheConstants.{HEIGHT_LIMIT, WORK_LIMIT}
use Rattle.code_language.specs.Acceptance.{IsEndOf}
use Rattle.code_language.specs.Code.{Code}
use Rattle.code_language.specs.Measures.{heights, works}
use Rattle.code_language.specs.Sound.{AreProcs}
use Rattle.code_language.specs.Tables.{IsTable}
use Rattle.code_language.specs.WellFormed.{first_of, unless, fault_at, first_over, too_many, starts_known, known_of}
use Rattle.code_language.specs.WellFormed.{procs_fault, later_fault}
use Rattle.code_language.specs.WellFormed.{IsCode, IsFirstFault, TooMany, BadTable, Later, IsCause}
use Rattle.code_language.proofs.Accepted.{passes, first_none, unless_none, procs_right}
use Rattle.code_language.proofs.Greatest.{fails}

-- a fault that is first stays so, and none is passed by
found_first : (o later : Option CodeFault) (fault : CodeFault) → o ≡ Some fault → first_of o later ≡ Some fault
found_first None later fault h = absurd (cc h)
found_first (Some x) later fault h = h

-- where there is none the later one is first
none_first : (o later : Option CodeFault) → o ≡ None → first_of o later ≡ later
none_first None later h = refl
none_first (Some x) later h = absurd (cc h)

module _ (k : Code) where
  -- a number of the start or of a reaction
  pub fault_of_starts : starts_known k.procedures ≡ false → later_fault k ≡ fault_at kinds.BadNumber 0 0
  unfolding later_fault
  fault_of_starts h = fails (starts_known k.procedures) kinds.BadNumber 0 0 _ h

  module _ (starts : starts_known k.procedures ≡ true) where
    -- then of a procedure
    pub fault_of_procs : (fault : CodeFault) → procs_fault (known_of k) 0 k.procedures.procs ≡ Some fault
        → later_fault k ≡ Some fault
    unfolding later_fault
    fault_of_procs fault h =
        passes (starts_known k.procedures) kinds.BadNumber 0 0 _ starts
        ∙ found_first (procs_fault (known_of k) 0 k.procedures.procs) _ fault h

    module _ (procs : procs_fault (known_of k) 0 k.procedures.procs ≡ None) where
      -- then of the heights
      pub fault_of_heights : (fault : CodeFault)
          → first_over HEIGHT_LIMIT kinds.TooHigh 0 (heights k.procedures.procs) ≡ Some fault
          → later_fault k ≡ Some fault
      unfolding later_fault
      fault_of_heights fault h =
          passes (starts_known k.procedures) kinds.BadNumber 0 0 _ starts
          ∙ none_first (procs_fault (known_of k) 0 k.procedures.procs) _ procs
          ∙ found_first (first_over HEIGHT_LIMIT kinds.TooHigh 0 (heights k.procedures.procs)) _ fault h

      module _ (high : first_over HEIGHT_LIMIT kinds.TooHigh 0 (heights k.procedures.procs) ≡ None) where
        -- then of the works
        pub fault_of_works : (o : Option CodeFault)
            → first_over WORK_LIMIT kinds.TooMuchWork 0 (works k.procedures.procs) ≡ o
            → later_fault k ≡ o
        unfolding later_fault
        fault_of_works o h =
            passes (starts_known k.procedures) kinds.BadNumber 0 0 _ starts
            ∙ none_first (procs_fault (known_of k) 0 k.procedures.procs) _ procs
            ∙ none_first (first_over HEIGHT_LIMIT kinds.TooHigh 0 (heights k.procedures.procs)) _ high ∙ h

-- an end of one of these is the cause
pub cause_by : (k : Code) (found : Option CodeFault) (end : CodeEnd) → too_many k.procedures.procs ≡ false
    → IsTable k.tree k.names
    → ((fault : CodeFault) → found ≡ Some fault → later_fault k ≡ Some fault) → IsEndOf found end → IsCause k end
cause_by k found (ends.Fault fault) few table first h = Later fault few table (first fault h)
cause_by k found ends.Memory few table first h = tt

-- ---- one first fault

-- a test that holds and fails
both_ways : (b : Bool) → b ≡ true → b ≡ false → ⊥
both_ways true t f = absurd (cc f)
both_ways false t f = absurd (cc t)

-- two first faults are the same
pub one_first_fault : (k : Code) (f g : CodeFault) → IsFirstFault k f → IsFirstFault k g → f ≡ g
one_first_fault k _ _ (TooMany h) (TooMany h') = refl
one_first_fault k _ _ (TooMany h) (BadTable few bad) = absurd (both_ways _ h few)
one_first_fault k _ g (TooMany h) (Later _ few table e) = absurd (both_ways _ h few)
one_first_fault k _ _ (BadTable few bad) (TooMany h) = absurd (both_ways _ h few)
one_first_fault k _ _ (BadTable few bad) (BadTable few' bad') = refl
one_first_fault k _ g (BadTable few bad) (Later _ few' table e) = absurd (bad table)
one_first_fault k f _ (Later _ few table e) (TooMany h) = absurd (both_ways _ h few)
one_first_fault k f _ (Later _ few table e) (BadTable few' bad) = absurd (bad table)
one_first_fault k f g (Later _ few table e) (Later _ few' table' e') = cc (e, e')

-- well-formed code has none
pub no_first_fault : (k : Code) (f : CodeFault) → IsCode k → IsFirstFault k f → ⊥
no_first_fault k _ code (TooMany h) = both_ways _ h code.few
no_first_fault k _ code (BadTable few bad) = bad code.table
no_first_fault k f code (Later _ few table e) = let none = code.sound in absurd (cc (e, none))

-- so well-formed code is refused for want of memory alone
pub only_memory : (k : Code) (end : CodeEnd) → IsCode k → IsCause k end → end ≡ ends.Memory
only_memory k (ends.Fault fault) code cause = absurd (no_first_fault k fault code cause)
only_memory k ends.Memory code cause = refl

-- ---- what well-formed code keeps

module _ (k : Code) (code : IsCode k) where
  -- nothing is wrong after the start and the reaction
  after_starts : first_of (procs_fault (known_of k) 0 k.procedures.procs)
      (first_of (first_over HEIGHT_LIMIT kinds.TooHigh 0 (heights k.procedures.procs))
      (first_over WORK_LIMIT kinds.TooMuchWork 0 (works k.procedures.procs))) ≡ None
  unfolding later_fault
  after_starts = (first_none (unless (starts_known k.procedures) kinds.BadNumber 0 0) _ code.sound).1

  -- both numbers are there
  pub both_known : starts_known k.procedures ≡ true
  unfolding later_fault
  both_known = unless_none (starts_known k.procedures) kinds.BadNumber 0 0
      (first_none (unless (starts_known k.procedures) kinds.BadNumber 0 0) _ code.sound).0

  -- the procedures of the start and of a reaction are there
  pub start_known : k.procedures.start < length k.procedures.procs
  start_known = ltb-true _ _ (and_parts (nat_lt k.procedures.start (length k.procedures.procs)) _ both_known).0

  -- and that of a reaction is
  pub react_known : k.procedures.react < length k.procedures.procs
  react_known = ltb-true _ _ (and_parts (nat_lt k.procedures.start (length k.procedures.procs)) _ both_known).1

  -- no procedure has a fault
  pub none_in_procs : procs_fault (known_of k) 0 k.procedures.procs ≡ None
  none_in_procs = (first_none (procs_fault (known_of k) 0 k.procedures.procs) _ after_starts).0

  -- each procedure is sound
  pub procs_sound : AreProcs (known_of k) 0 k.procedures.procs
  procs_sound = procs_right (known_of k) 0 k.procedures.procs none_in_procs
