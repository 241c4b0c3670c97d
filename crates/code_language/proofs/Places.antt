-- Instructions that stand at places of a procedure.
use Rattle.std.proofs.Common.{◌≡◌, ℕ, ◌+◌, ◌<◌, List, [], ◌∷◌, ◌++◌, length, Some, sym, ap, ◌∙◌, subst, arith}
use Rattle.std.proofs.Common.{append_assoc, length-append}
use Rattle.std.specs.Prelude.{slice_get}
use Rattle.std.proofs.Math.Seq.{get_or-append_seam}
use Rattle.std.proofs.lemmas.Option.{slice_get-get_or}
use Rattle.code_language.specs.Code.{Procedures, instructions, fetch}
use Rattle.code_language.specs.Instrs.{Instr}
use Rattle.code_language.specs.Reach.{HasAt}

-- what stands at a place stands there without its end
pub has_front : (k : Procedures) (p i : ℕ) (a b : List Instr) → HasAt k p i (a ++ b) → HasAt k p i a
has_front k p i [] b h = tt
has_front k p i (x ∷ a) b h = (h.0, has_front k p (i + 1) a b h.1)

-- and its end stands after its front
pub has_back : (k : Procedures) (p i : ℕ) (a b : List Instr) → HasAt k p i (a ++ b) → HasAt k p (i + length a) b
has_back k p i [] b h = let e : i ≡ i + 0 = omega arith in subst (λ n. HasAt k p n b) e h
has_back k p i (x ∷ a) b h =
    let e : i + 1 + length a ≡ i + length (x ∷ a) = omega arith in
    subst (λ n. HasAt k p n b) e (has_back k p (i + 1) a b h.1)

-- what a procedure has after its first instructions stands at the place after them
from_place : (k : Procedures) (p : ℕ) (before is : List Instr) → instructions k p ≡ before ++ is
    → HasAt k p (length before) is
unfolding fetch
from_place k p before [] e = tt
from_place k p before (x ∷ xs) e =
    let within : length before < length (before ++ x ∷ xs) = omega (arith, length-append before (x ∷ xs)) in
    let here = ap (λ l. slice_get l (length before)) e ∙ slice_get-get_or (before ++ x ∷ xs) (length before) x within ∙
    ap Some (get_or-append_seam before x xs x) in
    let n : length (before ++ x ∷ []) ≡ length before + 1 = omega (arith, length-append before (x ∷ [])) in
    let rest = from_place k p (before ++ x ∷ []) xs (e ∙ sym (append_assoc before (x ∷ []) xs)) in
    (here, subst (λ j. HasAt k p j xs) n rest)

-- the instructions of a procedure stand at its places
pub has_whole : (k : Procedures) (p : ℕ) (is : List Instr) → instructions k p ≡ is → HasAt k p 0 is
has_whole k p is e = from_place k p [] is e
