-- The procedures that code notes: those of its notes, and no others.
use Rattle.std.proofs.Common.{◌≡◌, ℕ, zero, suc, ◌+◌, ◌<◌, ◌≤◌, nat_eq, Bool, true, false, cond, ◌||◌, List, [], ◌∷◌}
use Rattle.std.proofs.Common.{length, Option, Some, None, slice_get, slice_index_or, refl, ap, ◌∙◌, arith}
use Rattle.std.proofs.lemmas.Bool.Decides.{nat_tests}
use Rattle.std.specs.List.{list_any, range_with_len}
use Rattle.std.specs.Prelude.{filter}
use Rattle.std.proofs.lemmas.Bool.{and_parts}
use Rattle.code_language.specs.Instrs.{Instr}
use Rattle.code_language.specs.Instrs as i
use Rattle.code_language.specs.WellFormed.{Known, is_proc, note_known, instr_known}
use Rattle.code_language.proofs.Sound.{proc_there}
use Rattle.c_functions.specs.Notes.{is_note, has_note, is_noted, noted_in}

-- a number is one of a list
abbrev pub IsIn : List ℕ → ℕ → Type 0
IsIn xs b = list_any (λ x. nat_eq x b) xs ≡ true

pub or-right : (a b : Bool) → b ≡ true → (a || b) ≡ true
or-right true b e = refl
or-right false b e = e

pub same-true : (b : ℕ) → nat_eq b b ≡ true
same-true b = grind (arith, nat_tests)

-- ---- a filtered range

in-filter : (test : ℕ → Bool) (b from n : ℕ) → test b ≡ true → from ≤ b → b < from + n
    → IsIn (filter test (range_with_len from n)) b
in-filter test b from zero is low high = absurd (omega (arith, low, high))
in-filter test b from (suc n) is low high =
    at (test from) (nat_eq from b) refl refl (λ further. in-filter test b (from + 1) n is further (omega (arith, high)))
  where
    at : (c d : Bool) → test from ≡ c → nat_eq from b ≡ d
        → (from + 1 ≤ b → IsIn (filter test (range_with_len (from + 1) n)) b)
        → IsIn (cond c (from ∷ filter test (range_with_len (from + 1) n)) (filter test (range_with_len (from + 1) n))) b
    at true true tested e more =
        ap (λ (q : Bool). q || list_any (λ x. nat_eq x b) (filter test (range_with_len (from + 1) n))) e
    at true false tested e more =
        let further : from + 1 ≤ b = grind (arith, nat_tests) in
        or-right (nat_eq from b) _ (more further)
    at false true tested e more =
        let same : from ≡ b = grind (arith, nat_tests) in
        let again = ap test same in
        absurd cc
    at false false tested e more = let further : from + 1 ≤ b = grind (arith, nat_tests) in more further

below-filter : (test : ℕ → Bool) (b from n : ℕ) → IsIn (filter test (range_with_len from n)) b → b < from + n
below-filter test b from zero is = absurd cc
below-filter test b from (suc n) is = at (test from) is (λ h. below-filter test b (from + 1) n h)
  where
    here : (d : Bool) → nat_eq from b ≡ d
        → (d || list_any (λ x. nat_eq x b) (filter test (range_with_len (from + 1) n))) ≡ true
        → (IsIn (filter test (range_with_len (from + 1) n)) b → b < from + 1 + n) → b < from + suc n
    here true e h more = let same : from ≡ b = grind (arith, nat_tests) in omega (arith, same)
    here false e h more = let lt = more h in omega (arith, lt)

    at : (c : Bool)
        → IsIn (cond c (from ∷ filter test (range_with_len (from + 1) n)) (filter test (range_with_len (from + 1) n))) b
        → (IsIn (filter test (range_with_len (from + 1) n)) b → b < from + 1 + n) → b < from + suc n
    at true h more = here (nat_eq from b) refl h more
    at false h more = let lt = more h in omega (arith, lt)

-- ---- the notes of code

any-at : {A : Type 0} (test : A → Bool) (xs : List A) (j : ℕ) (x : A) → slice_get xs j ≡ Some x → test x ≡ true
    → list_any test xs ≡ true
any-at test [] j x e is = absurd cc
any-at test (y ∷ xs) zero x e is =
    let same : y ≡ x = cc in
    ap (λ (b : Bool). b || list_any test xs) (ap test same ∙ is)
any-at test (y ∷ xs) (suc j) x e is = or-right (test y) _ (any-at test xs j x e is)

-- what instructions may note is a procedure
note-below : (K : Known) (b : ℕ) (tag : Option ℕ) → note_known K tag ≡ true → is_note b tag ≡ true → b < K.procs
note-below K b None known is = absurd cc
note-below K b (Some q) known is =
    let same : q ≡ b = grind (arith, nat_tests) in
    let lt : q < K.procs = grind (arith, nat_tests) in
    omega (arith, same, lt)

known-below : (K : Known) (b : ℕ) (x : Instr) → instr_known K x ≡ true → has_note b x ≡ true → b < K.procs
unfolding instr_known
known-below K b (i.Call p tag) known is = note-below K b tag (and_parts (is_proc K p) (note_known K tag) known).1 is
known-below K b (i.Visit p tag) known is = note-below K b tag (and_parts (is_proc K p) (note_known K tag) known).1 is
known-below K b other known is = absurd cc

pub noted-there : (K : Known) (procs : List (List Instr)) (q j b : ℕ) (x : Instr) → K.procs ≡ length procs
    → q < length procs → slice_get (slice_index_or procs q []) j ≡ Some x → instr_known K x ≡ true
    → has_note b x ≡ true → IsIn (noted_in procs) b
unfolding noted_in
noted-there K procs q j b x same lt e known is =
    in-filter (λ b. is_noted procs b) b 0 (length procs)
    (any-at (λ (is : List Instr). list_any (λ x. has_note b x) is) procs q (slice_index_or procs q [])
    (proc_there procs q lt) (any-at (λ (x : Instr). has_note b x) (slice_index_or procs q []) j x e is))
    (omega arith) (let below = known-below K b x known is in omega (arith, below, same))

pub noted-below : (procs : List (List Instr)) (b : ℕ) → IsIn (noted_in procs) b → b < length procs
unfolding noted_in
noted-below procs b is =
    let lt = below-filter (λ b. is_noted procs b) b 0 (length procs) is in omega (arith, lt)

-- the note of an instruction
pub tag-noted : (tag : Option ℕ) (b : ℕ) → tag ≡ Some b → is_note b tag ≡ true
tag-noted tag b e = ap (λ (o : Option ℕ). is_note b o) e ∙ same-true b
