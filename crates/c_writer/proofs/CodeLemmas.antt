-- What well-formed code gives.
use Rattle.std.proofs.Common.{◌≡◌, ◌≤◌, ◌<◌, ◌+◌, ◌-◌, ℕ, zero, suc, false, List, [], ◌∷◌, ◌++◌}
use Rattle.std.proofs.Common.{map, length, Some, get_or, sym, ap, ◌∙◌, subst, append_assoc, arith}
use Rattle.std.specs.Prelude.{nat_lt, slice_get, slice_index_or}
use Rattle.std.specs.List.{list_any, range_with_len}
use Rattle.std.proofs.lemmas.Bool.Decides.{nat_tests}
use Rattle.flow_base.specs.declared.list.List.{List as Seq}
use Rattle.flow_base.specs.Lists.{items_of}
use Rattle.code_language.specs.declared.instr.Instr as declared
use Rattle.code_language.specs.declared.limits.TheConstants.{PROC_LIMIT, INSTR_LIMIT}
use Rattle.code_language.specs.Code.{Code, instrs_of, instructions}
use Rattle.code_language.specs.Instrs.{Instr}
use Rattle.code_language.specs.Sound.{AreSound}
use Rattle.code_language.specs.WellFormed.{known_of, IsCode}
use Rattle.code_language.proofs.ListLemmas.{or_false}
use Rattle.c_subset.specs.Trees.{Function}
use Rattle.c_functions.specs.Writer.{stays_within, plans_of}
use Rattle.c_functions.proofs.WriterLemmas.{sound_at, stays_sound}
use Rattle.c_functions.specs.Files.{shape_of, procedure_c, functions_c}
use Rattle.c_functions.specs.Plans.{Shape}
use Rattle.c_functions.specs.Starts.{file_of}
use Rattle.c_writer.specs.Fine.{IsFine, known_in}
use Rattle.c_writer.specs.Functions.{IsShapeOf, later_functions}
use Rattle.c_writer.specs.Parts.{CanBeWritten, StaysWithin}

-- ---- instructions

-- each of sound instructions is fine
sound_get : (K : Shape) (p behind i : ℕ) (xs : List Instr) (x : Instr) → AreSound (known_in K) p behind xs
    → slice_get xs i ≡ Some x → IsFine K x
sound_get K p behind i [] x h got = absurd cc
sound_get K p behind zero (y ∷ xs) x h got =
    let same : y ≡ x = cc in
    subst (IsFine K) same (record { known = h.0.known; typed = h.0.typed; keeps = h.0.keeps })
sound_get K p behind (suc i) (y ∷ xs) x h got = sound_get K p behind i xs x h.1 got

-- no procedure is too long
short_at : (procs : List (List Instr)) (p : ℕ)
    → list_any (λ (is : List Instr). nat_lt INSTR_LIMIT (length is)) procs ≡ false
    → length (slice_index_or procs p []) ≤ INSTR_LIMIT
short_at [] p h = omega arith
short_at (is ∷ procs) zero h =
    let here = (or_false (nat_lt INSTR_LIMIT (length is)) _ h).0 in grind (arith, nat_tests)
short_at (is ∷ procs) (suc p) h = short_at procs p (or_false (nat_lt INSTR_LIMIT (length is)) _ h).1

-- the instructions of each procedure can be written
pub can_be_written : (K : Shape) (k : Code) → IsShapeOf K k → IsCode k → (p : ℕ)
    → CanBeWritten K (instructions k.procedures p)
unfolding instructions
can_be_written K k same is p =
    subst (λ (S : Shape). CanBeWritten S (instructions k.procedures p)) (sym same)
    (record {
      each =
          λ i x got.
          sound_get (shape_of k K.tests K.bounds K.outputs) p 0 i (instructions k.procedures p) x (sound_at k is p) got;
      short =
          short_at k.procedures.procs p (or_false (nat_lt PROC_LIMIT (length k.procedures.procs)) _ is.few).1;
    })

-- and none of them jumps past their end
pub all_stay : (k : Code) → IsCode k → (p n : ℕ) → n ≡ length (instructions k.procedures p)
    → StaysWithin (instructions k.procedures p) 0 n
all_stay k is p n same =
    let count : n - 0 ≡ length (instructions k.procedures p) = omega (arith, same) in
    ap (λ m. stays_within m (instructions k.procedures p)) count
    ∙ stays_sound (known_of k) p (instructions k.procedures p) (sound_at k is p)

-- the instructions of a procedure that stands at a number
pub instrs_are : (procs : List (Seq declared.Instr)) (p : ℕ) (x : Seq declared.Instr) → p < length procs
    → x ≡ get_or procs p x
    → instrs_of (items_of x)
    ≡ slice_index_or (map (λ (is : Seq declared.Instr). instrs_of (items_of is)) procs) p []
instrs_are [] p x lt e = absurd (omega arith)
instrs_are (y ∷ procs) zero x lt e = ap (λ (is : Seq declared.Instr). instrs_of (items_of is)) e
instrs_are (y ∷ procs) (suc p) x lt e = instrs_are procs p x (omega arith) e

-- ---- functions

-- what stands at a number of a list that is made from numbers
get_made : (f : ℕ → Function) (from n i : ℕ) (more : List Function) → i < n
    → slice_get (map f (range_with_len from n) ++ more) i ≡ Some (f (from + i))
get_made f from zero i more lt = absurd (omega arith)
get_made f from (suc n) zero more lt = let e : from ≡ from + 0 = omega arith in ap (λ j. Some (f j)) e
get_made f from (suc n) (suc i) more lt =
    let e : from + 1 + i ≡ from + suc i = omega arith in
    get_made f (from + 1) n i more (omega arith) ∙ ap (λ j. Some (f j)) e

-- and after it
get_after : (f : ℕ → Function) (from n i : ℕ) (more : List Function)
    → slice_get (map f (range_with_len from n) ++ more) (n + i) ≡ slice_get more i
get_after f from zero i more = let e : 0 + i ≡ i = omega arith in ap (slice_get more) e
get_after f from (suc n) i more =
    let e : suc n + i ≡ suc (n + i) = omega arith in
    ap (slice_get (map f (range_with_len from (suc n)) ++ more)) e ∙ get_after f (from + 1) n i more

-- the functions of the file, under the shape of the code
functions_are : (K : Shape) (k : Code) → IsShapeOf K k
    → (file_of k K.tests K.bounds K.outputs (plans_of k)).functions
    ≡ map (λ p. procedure_c K (plans_of k p)) (range_with_len 0 K.procs)
    ++ later_functions K k.procedures.start k.procedures.react
unfolding functions_c
functions_are K k same =
    let S = shape_of k K.tests K.bounds K.outputs in
    append_assoc (map (λ p. procedure_c S (plans_of k p)) (range_with_len 0 S.procs)) _ _
    ∙ ap (λ (T : Shape). map (λ p. procedure_c T (plans_of k p)) (range_with_len 0 T.procs)
    ++ later_functions T k.procedures.start k.procedures.react) (sym same)

-- the function of a procedure has its number
pub procedure_there : (K : Shape) (k : Code) → IsShapeOf K k → (n : ℕ) → n < K.procs
    → slice_get (file_of k K.tests K.bounds K.outputs (plans_of k)).functions n ≡ Some (procedure_c K (plans_of k n))
procedure_there K k same n lt =
    ap (λ gs. slice_get gs n) (functions_are K k same)
    ∙ get_made (λ p. procedure_c K (plans_of k p)) 0 K.procs n
    (later_functions K k.procedures.start k.procedures.react) lt
    ∙ (let e : 0 + n ≡ n = omega arith in ap (λ j. Some (procedure_c K (plans_of k j))) e)

-- the others come after those of all procedures
pub later_there : (K : Shape) (k : Code) → IsShapeOf K k → (n : ℕ) → K.procs ≤ n
    → slice_get (file_of k K.tests K.bounds K.outputs (plans_of k)).functions n
    ≡ slice_get (later_functions K k.procedures.start k.procedures.react) (n - K.procs)
later_there K k same n le =
    let e : n ≡ K.procs + (n - K.procs) = omega arith in
    ap (λ gs. slice_get gs n) (functions_are K k same)
    ∙ ap (slice_get (map (λ p. procedure_c K (plans_of k p)) (range_with_len 0 K.procs)
    ++ later_functions K k.procedures.start k.procedures.react)) e
    ∙ get_after (λ p. procedure_c K (plans_of k p)) 0 K.procs (n - K.procs)
    (later_functions K k.procedures.start k.procedures.react)
